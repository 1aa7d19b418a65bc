-- Window numbers are read in full and in millionths now; they were read in thousandths, and without an exponent. This says what that
-- change keeps. Number.antt, Rule30.antt and Step6.antt have the old DS reader, and rule 30 and drawing step 6 with it, in thousandths.
-- Everything else is as it is now, since the claim is about this change alone: every other rule and step, and what rule 30 and step 6 say
-- about a window's function. So the claim covers both functions.
--   numbers: bytes that read as n thousandths then read as 1000 n millionths now, so rule 30 still reads what it read.
--   accepted: an object that was accepted is accepted.
--   pictures: take any frame of an object that was accepted. The steps as they were gave it a picture, and the present
--   steps give it the same one, masked or native and cell for cell.
--   drawn: on any data set, accepted or not, the steps give now every picture that they gave then.
-- Proved in proofs/Kept.
use Rattle.std.specs.Prelude.{◌≡◌, true, List, ℕ, ◌+◌, ◌≤◌, ◌<◌, Some}
use Rattle.basics.specs.Bytes.{IsBytes}
use Rattle.dataset.specs.Reading.{reading_of, read}
use Rattle.dataset.specs.declared.Row.{Row}
use Rattle.value.specs.Number as current
use Rattle.value.specs.Number.{is_number}
use Rattle.verdict.specs.Verdict.{last_rule}
use Rattle.node.specs.Nodes.{Node, nodes_of}
use Rattle.conformance.specs.Judging.{first_frame, frame_count}
use Rattle.steps.specs.Steps as steps
use Rattle.steps.specs.Steps.{Picture}
use Rattle.display.specs.Drawing.{IsAccepted, IsFrame}
use Rattle.thousandths.specs.Number.{decimal_of_before, scaled}
use Rattle.thousandths.specs.Rule30.{rule_at_before}
use Rattle.thousandths.specs.Step6.{steps_of_before}

-- Every rule held, rule 30 as it was, at every frame at which it is asked.
abbrev pub AcceptedBefore : List Node → Type 0
AcceptedBefore ns =
    (rule : ℕ) → 1 ≤ rule → rule ≤ last_rule → (f : ℕ) → first_frame rule ≤ f → f < first_frame rule + frame_count ns rule
    → rule_at_before ns rule f ≡ true

-- The data set passed the size limit and the reading checks, and broke no rule.
pub record IsAcceptedBefore (s : List ℕ) : Type 0 where
  pub rows : List Row
  pub reads : reading_of s ≡ read rows
  pub sound : AcceptedBefore (nodes_of s)

-- The steps gave frame f a picture, and still give it.
pub record DrawnAlike (ns : List Node) (f : ℕ) : Type 0 where
  pub p : Picture
  pub before : steps_of_before ns f ≡ Some p
  pub after : steps.steps_of ns f ≡ Some p

pub record Kept : Type 0 where
  pub numbers : (v : List ℕ) → is_number (decimal_of_before v) ≡ true → current.decimal_of v ≡ scaled (decimal_of_before v)
  pub accepted : (s : List ℕ) → IsAcceptedBefore s → IsAccepted s
  pub pictures : (s : List ℕ) → IsBytes s → IsAcceptedBefore s → (f : ℕ) → IsFrame s f → DrawnAlike (nodes_of s) f
  pub drawn : (ns : List Node) (f : ℕ) (p : Picture) → steps_of_before ns f ≡ Some p → steps.steps_of ns f ≡ Some p
