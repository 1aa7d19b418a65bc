-- What holds for files (document 02, Q-1: "Where none of 15-18 is given, demands 2 and 3 hold for the data set inside"). The head is
-- good, or the file is refused with 15, 16 or 17 and every buffer is left as it was. If the head is good, the data set is all of the file
-- from some offset on. Reading, judging and showing the file then answer 18, or what the bare calls answer on that part, with the sum of
-- its searches; the row buffer is left as the bare calls leave it either way, and the image buffer is left as it was by 18 and as the
-- bare call leaves it otherwise. So demand 2 holds for the data set inside: the file is accepted exactly when its data set has room for
-- its rows and is accepted, otherwise the rule and frame named are those of the data set. And demand 3 holds for it, in drawing and
-- mapping: show draws a frame of the file exactly when the data set is accepted, the number is one of its frames, and there is room; what
-- it hands back is what the steps give.
use Rattle.std.specs.Prelude.{◌≡◌, List, ◌++◌, ℕ, ◌*◌, ◌≤◌, length, drop, Some, Ok, Err}
use Rattle.basics.specs.Bytes.{IsBytes}
use Rattle.dataset.specs.Reading.{reading_of}
use Rattle.dataset.specs.Answer.{width, answer_of, buffer_of}
use Rattle.dataset.specs.Tree.{rows_of}
use Rattle.node.specs.Nodes.{nodes_of}
use Rattle.conformance.specs.declared.Finding.TheVariants as finding
use Rattle.conformance.specs.declared.Outcome.TheVariants as outcome
use Rattle.conformance.specs.Judging.{finding_of, judge_of}
use Rattle.steps.specs.Steps.{Picture, steps_of}
use Rattle.display.specs.Show.{image_size, show_of, image_of}
use Rattle.display.specs.Drawing.{IsAccepted, IsFrame, HasRoom}
use Rattle.linear.specs.Demand3.{Promise}
use Rattle.searches.specs.Reported.{reported_of}
use Rattle.file_read.specs.declared.FileError.TheVariants.{OtherClass}
use Rattle.file_read.specs.ReadFile.{start_of, start_fields, inside, read_file_of, rows_left, read_fields}
use Rattle.file_judge.specs.JudgeFile.{judge_file_of, judge_fields}
use Rattle.file_show.specs.ShowFile.{show_file_of, image_left, show_fields}
use Rattle.file_judge.specs.Searches.{searches_file_of}

-- The calls on a file s whose data set starts at `from`, beside the bare calls on that part.
pub record AsBare (s : List ℕ) (from : ℕ) : Type 0 where
  pub within : from ≤ length s
  pub rows : (buffer : List ℕ) → rows_left s buffer ≡ buffer_of (reading_of (drop from s)) buffer
  pub read : (buffer : List ℕ) → (read_file_of s buffer ≡ Err OtherClass → ⊥)
      → read_file_of s buffer ≡ inside (answer_of (reading_of (drop from s)) buffer)
  pub judge : (buffer : List ℕ) → (judge_file_of s buffer ≡ Err OtherClass → ⊥)
      → judge_file_of s buffer ≡ inside (judge_of (drop from s) buffer)
  pub searches : (buffer : List ℕ) → (judge_file_of s buffer ≡ Err OtherClass → ⊥)
      → searches_file_of s buffer ≡ reported_of (drop from s) buffer
  pub show : (f : ℕ) (buffer image : List ℕ) → (show_file_of s f buffer image ≡ Err OtherClass → ⊥)
      → (show_file_of s f buffer image ≡ inside (show_of (drop from s) f buffer image))
      × (image_left s f buffer image ≡ image_of (drop from s) f buffer image)
  pub other : (f : ℕ) (buffer image : List ℕ) → show_file_of s f buffer image ≡ Err OtherClass → image_left s f buffer image ≡ image

-- Demand 2 for the data set inside.
pub record Demand2Inside (s : List ℕ) (from : ℕ) : Type 0 where
  pub accepted : (buffer : List ℕ) (n : ℕ) → judge_file_of s buffer ≡ Ok (outcome.Accepted n) → IsAccepted (drop from s)
  pub accepts : (buffer : List ℕ) → IsAccepted (drop from s) → width * length (rows_of (drop from s)) ≤ length buffer
      → (judge_file_of s buffer ≡ Err OtherClass → ⊥)
      → judge_file_of s buffer ≡ Ok (outcome.Accepted (length (rows_of (drop from s))))
  pub broken : (buffer : List ℕ) (n rule frame : ℕ) → judge_file_of s buffer ≡ Ok (outcome.Broken n rule frame)
      → finding_of (nodes_of (drop from s)) ≡ finding.Broken rule frame

-- The steps give a picture p, and the image buffer holds p and is untouched beyond it.
pub record DrawnInside (s : List ℕ) (from f : ℕ) (buffer image : List ℕ) : Type 0 where
  pub p : Picture
  pub is : steps_of (nodes_of (drop from s)) f ≡ Some p
  pub cells : image_left s f buffer image ≡ p.samples ++ drop (image_size (nodes_of (drop from s))) image

-- Demand 3 for the data set inside: the claim itself, and what it says about `show_file`.
pub record Demand3Inside (s : List ℕ) (from f : ℕ) : Type 0 where
  pub promise : Promise (drop from s) f
  pub drawn : (buffer image : List ℕ) → IsAccepted (drop from s) → IsFrame (drop from s) f → HasRoom (drop from s) buffer image
      → (show_file_of s f buffer image ≡ Err OtherClass → ⊥) → (show_fields (show_file_of s f buffer image)).code ≡ 0
  pub nothing-else : (buffer image : List ℕ) → (show_fields (show_file_of s f buffer image)).code ≡ 0
      → IsAccepted (drop from s) × (IsFrame (drop from s) f × HasRoom (drop from s) buffer image)
  pub as-stepped : (buffer image : List ℕ) → (show_fields (show_file_of s f buffer image)).code ≡ 0 → DrawnInside s from f buffer image

-- 15, 16 and 17: the code alone, from each call, and nothing is touched.
pub record Refuses (s : List ℕ) : Type 0 where
  pub read : (buffer : List ℕ) → read_fields (read_file_of s buffer) ≡ start_fields (start_of s)
  pub judge : (buffer : List ℕ) → judge_fields (judge_file_of s buffer) ≡ start_fields (start_of s)
  pub show : (f : ℕ) (buffer image : List ℕ) → show_fields (show_file_of s f buffer image) ≡ start_fields (start_of s)
  pub rows : (buffer : List ℕ) → rows_left s buffer ≡ buffer
  pub image : (f : ℕ) (buffer image : List ℕ) → image_left s f buffer image ≡ image

-- For every file, given as bytes.
pub record Files (s : List ℕ) : Type 0 where
  pub bare : (from : ℕ) → start_of s ≡ Ok from → AsBare s from
  pub demand-2 : (from : ℕ) → start_of s ≡ Ok from → Demand2Inside s from
  pub demand-3 : (from : ℕ) → start_of s ≡ Ok from → IsBytes s → (f : ℕ) → Demand3Inside s from f
  pub refuses : ((start_fields (start_of s)).code ≡ 0 → ⊥) → Refuses s

abbrev pub AllFiles : Type 0
AllFiles = (s : List ℕ) → Files s
