-- What `compare` answers (document 02, Q-12): as `show` up to code 10, then 22 if the number of cells is not Rows × Columns, then 23 for
-- a tolerance over 255, then 0 with yes, or with no, the first cell that is off and how many are off.
use Rattle.std.specs.Prelude.{ℕ, Bool, cond, List, length, leb, eqb, Result, Ok, Err}
use Rattle.basics.specs.Fields.{Fields, code_alone, counted}
use Rattle.node.specs.Nodes.{Node, nodes_of}
use Rattle.conformance.specs.Judging.{accept_of, refusal_fields}
use Rattle.conformance.specs.declared.NotAccepted.{NotAccepted}
use Rattle.display.specs.Show.{is_frame_of, image_size, picture_of}
use Rattle.compare.specs.declared.Comparison.{Comparison}
use Rattle.compare.specs.declared.Comparison.TheVariants as comparison
use Rattle.compare.specs.declared.CompareError.{CompareError}
use Rattle.compare.specs.declared.CompareError.TheVariants as error
use Rattle.differences.specs.Differences.{is_off, how_many, first_off}

-- The answer for an object with n rows, by which of `size` places are off.
unfoldable pub compared_by : ℕ → (ℕ → Bool) → ℕ → Comparison
compared_by n off size =
    cond (eqb (how_many off size) 0) (comparison.Same n) (comparison.Differs n (first_off off size) (how_many off size))

-- The answer for an accepted object with n rows.
unfoldable pub accepted_answer : List Node → ℕ → List ℕ → ℕ → ℕ → Result Comparison CompareError
accepted_answer ns f cells t n =
    cond (is_frame_of ns f)
    (cond (eqb (length cells) (image_size ns))
    (cond (leb t 255) (Ok (compared_by n (is_off t (picture_of ns f).samples cells) (image_size ns))) (Err error.WrongTolerance))
    (Err error.WrongSize))
    (Err error.NoFrame)

abbrev pub answer_for : List Node → ℕ → List ℕ → ℕ → Result ℕ NotAccepted → Result Comparison CompareError
answer_for ns f cells t (Ok n) = accepted_answer ns f cells t n
answer_for ns f cells t (Err e) = Err (error.Refused e)

-- What `compare` answers for the data set s, frame f, another workstation's cells, a tolerance and a row buffer.
unfoldable pub compare_of : List ℕ → ℕ → List ℕ → ℕ → List ℕ → Result Comparison CompareError
compare_of s f cells t buffer = answer_for (nodes_of s) f cells t (accept_of s buffer)

-- The paper's numbers for each case: those of an answer, then yes (1) or no (0), the place of the first cell that is off, and how many
-- are off.
pub record Compared : Type 0 where
  pub answer : Fields
  pub same : ℕ
  pub first : ℕ
  pub count : ℕ

-- An answer that names no cell; an answer of yes; and one of no.
abbrev pub without_cell : Fields → Compared
without_cell a = record { answer = a; same = 0; first = 0; count = 0 }

abbrev pub yes : ℕ → Compared
yes rows = record { answer = counted rows; same = 1; first = 0; count = 0 }

abbrev pub no : ℕ → ℕ → ℕ → Compared
no rows first count = record { answer = counted rows; same = 0; first = first; count = count }

abbrev pub fields_of : Result Comparison CompareError → Compared
fields_of (Ok (comparison.Same n)) = yes n
fields_of (Ok (comparison.Differs n first count)) = no n first count
fields_of (Err (error.Refused e)) = without_cell (refusal_fields e)
fields_of (Err error.NoFrame) = without_cell (code_alone 10)
fields_of (Err error.WrongSize) = without_cell (code_alone 22)
fields_of (Err error.WrongTolerance) = without_cell (code_alone 23)
