-- What the values of four patient items cannot reach (document 02, Q-7, "The list on the wall").
--
-- Once a data set reads, nothing of four patient items reaches a verdict, a picture or a sheet. Take two data sets within the size limit
-- that both read, with the same rows but for offsets and lengths, whose values differ only in the root elements Patient's Name
-- (0010,0010), Patient ID (0010,0020), Patient's Birth Date (0010,0030) and Image Comments (0020,4000), in any lengths. With the same
-- buffers and frame numbers, `judge` gives the same code, rule, frame and row count, and the same sum of its searches; `show` the same
-- answer and the same image buffer; `sheet` the same answer and the same numbers. The same holds for `compare`, the mapping to beam
-- intensity and the slip of the verdict.
--
-- Not promised: the row table, offsets and the canonical form, which do depend on these values.
--
-- Proved in proofs/Privacy.antt. A rule or drawing step that reads one of the four items makes that proof fail: its tag would have to be
-- among the tags that are read (specs/Read.antt), and none of the four may be. specs/Pair.antt has two accepted data sets of this kind.
use Rattle.std.specs.Prelude.{◌≡◌, ℕ, Bool, cond, ◌&&◌, List, [], ◌∷◌, map, eqb}
use Rattle.basics.specs.Tags
use Rattle.dataset.specs.declared.Row.{Row}
use Rattle.node.specs.Nodes.{value_in}
use Rattle.slip.specs.Slip.{slip_of}
use Rattle.rules.specs.Frame.{is_in}
use Rattle.conformance.specs.Judging.{judge_of, verdict_of}
use Rattle.linear.specs.Answer.{linear_of, values_left}
use Rattle.canonical_same.specs.Answers.{AnswersAlike}
use Rattle.privacy.specs.Rows.{SameRows}

-- Patient's Name, Patient ID, Patient's Birth Date, Image Comments.
abbrev pub patient_tags : List ℕ
patient_tags = Tags.PatientName ∷ Tags.PatientID ∷ Tags.PatientBirthDate ∷ Tags.ImageComments ∷ []

-- A row of one of them at the root: the seventh number of a root element is 0.
unfoldable pub is_patient : Row → Bool
is_patient r = is_in r.tag patient_tags && eqb r.parent 0

-- The bytes of a row's value in the data set s, unless they are a patient item's. A sequence and an item have none of their own
-- (`value_in`).
abbrev pub kept_value : List ℕ → Row → List ℕ
kept_value s r = cond (is_patient r) [] (value_in s r)

-- The same rows but for offsets and lengths, and the same values but for those of the four items.
pub record SameButPatient (s t : List ℕ) : Type 0 where
  pub shape : SameRows s t
  pub values : map (kept_value s) shape.rows ≡ map (kept_value t) shape.others

-- The same from every call, with any buffers and frame numbers.
pub record SameAnswers (s t : List ℕ) : Type 0 where
  -- Code, rule, frame and row count of the judge, and the sum of its searches; what `show`, `sheet` and `compare` answer, and the image
  -- buffer afterwards.
  pub alike : AnswersAlike s t
  pub slip : (buffer : List ℕ) → slip_of (verdict_of (judge_of s buffer)) ≡ slip_of (verdict_of (judge_of t buffer))
  -- The answer, and the values buffer afterwards.
  pub mapped : (frame : ℕ) (buffer values : List ℕ) → linear_of s frame buffer values ≡ linear_of t frame buffer values
  pub intensities : (frame : ℕ) (buffer values : List ℕ) → values_left s frame buffer values ≡ values_left t frame buffer values

abbrev pub Privacy : Type 0
Privacy = (s t : List ℕ) → SameButPatient s t → SameAnswers s t
