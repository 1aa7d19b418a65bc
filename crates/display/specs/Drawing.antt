-- The drawing part of demand 3, whose one statement is `Demand3` of `Rattle.linear`. An object is accepted when it passes the size limit
-- and the reading checks and breaks no listed rule. Take any frame of it, from 1 to its Number of Frames. Then no drawing step lacks
-- anything: the whole frame lies inside the pixel bytes, the functional groups that the steps open are there, every value has the VR,
-- count and form that a step reads, every mask cell lies inside the picture, and no step divides by zero. So the steps give a picture,
-- native or masked, of exactly Rows × Columns cells, each from 0 to 255. And `show` answers code 0 exactly when the object is accepted,
-- the number is one of its frames, and there is room for the rows and for the cells; what it then hands back, masked or native and cell
-- for cell, is the picture that the steps give, and the image buffer is untouched beyond it. The statement covers all steps, frames and
-- cells at once. It is made of the same definitions of the rules and of the steps that the calls are proved to follow, and no rule is
-- built into the steps. Proved in proofs/Drawing.
use Rattle.std.specs.Prelude.{◌≡◌, cond, List, [], ◌∷◌, ◌++◌, ℕ, ◌*◌, ◌≤◌, length, drop, Some}
use Rattle.value.specs.Number.{number_or0}
use Rattle.dataset.specs.Reading.{reading_of, read}
use Rattle.dataset.specs.declared.Row.{Row}
use Rattle.dataset.specs.Answer.{width}
use Rattle.dataset.specs.Tree.{rows_of}
use Rattle.node.specs.Nodes.{Node, nodes_of}
use Rattle.element.specs.Frames.{frames_of}
use Rattle.conformance.specs.declared.Finding.TheVariants.{Accepted}
use Rattle.conformance.specs.Judging.{finding_of}
use Rattle.steps.specs.Steps.{Picture, steps_of}
use Rattle.display.specs.Show.{image_size, show_of, image_of, fields_of}

-- Accepted, whatever the buffers.
pub record IsAccepted (s : List ℕ) : Type 0 where
  pub rows : List Row
  pub reads : reading_of s ≡ read rows
  pub sound : finding_of (nodes_of s) ≡ Accepted

-- One of the frames 1 to N.
pub record IsFrame (s : List ℕ) (f : ℕ) : Type 0 where
  pub low : 1 ≤ f
  pub high : f ≤ number_or0 (frames_of (nodes_of s))

-- Room as codes 8 and 11 count it: seven numbers for each row, and a byte for each cell.
pub record HasRoom (s buffer image : List ℕ) : Type 0 where
  pub rows : width * length (rows_of s) ≤ length buffer
  pub cells : image_size (nodes_of s) ≤ length image

-- Every cell of a list is a grey level.
abbrev pub AllLevels : List ℕ → Type 0
AllLevels [] = Unit {0}
AllLevels (y ∷ ys) = (y ≤ 255) × AllLevels ys

-- The steps lack nothing at frame f: they give a picture of exactly Rows × Columns cells, each from 0 to 255.
pub record Whole (ns : List Node) (f : ℕ) : Type 0 where
  pub p : Picture
  pub is : steps_of ns f ≡ Some p
  pub size : length p.samples ≡ image_size ns
  pub levels : AllLevels p.samples

-- The steps give a picture p, and `show` hands back p.
pub record HandsBack (s : List ℕ) (f : ℕ) (buffer image : List ℕ) : Type 0 where
  pub p : Picture
  pub is : steps_of (nodes_of s) f ≡ Some p
  pub rows : (fields_of (show_of s f buffer image)).rows ≡ length (rows_of s)
  pub masked : (fields_of (show_of s f buffer image)).masked ≡ cond p.masked 1 0
  pub cells : image_of s f buffer image ≡ p.samples ++ drop (image_size (nodes_of s)) image

pub record Drawing (s : List ℕ) (f : ℕ) : Type 0 where
  -- Every frame of an accepted object can be drawn.
  pub drawable : IsAccepted s → IsFrame s f → Whole (nodes_of s) f
  -- Every frame of an accepted object is drawn if there is room,
  pub drawn : (buffer image : List ℕ) → IsAccepted s → IsFrame s f → HasRoom s buffer image → (fields_of (show_of s f buffer image)).code ≡ 0
  -- and nothing else is.
  pub nothing-else : (buffer image : List ℕ) → (fields_of (show_of s f buffer image)).code ≡ 0
      → IsAccepted s × (IsFrame s f × HasRoom s buffer image)
  -- What is drawn is what the steps give.
  pub as-stepped : (buffer image : List ℕ) → (fields_of (show_of s f buffer image)).code ≡ 0 → HandsBack s f buffer image
