-- What `sheet` answers (document 02, Q-5): as for judging up to code 9, then 19 if a is above b, then 10 if either is not a frame of
-- 1..N, then 0. The sheet that comes with it is that of frames a to b, or zeros.
use Rattle.std.specs.Prelude.{ℕ, cond, ◌&&◌, List, leb, Result, Ok, Err}
use Rattle.basics.specs.Fields.{Fields, code_alone, counted}
use Rattle.node.specs.Nodes.{Node, nodes_of}
use Rattle.conformance.specs.Judging.{accept_of, refusal_fields}
use Rattle.conformance.specs.declared.NotAccepted.{NotAccepted}
use Rattle.display.specs.Show.{is_frame_of}
use Rattle.sheet.specs.declared.Numbers.{Numbers}
use Rattle.sheet.specs.declared.SheetError.{SheetError}
use Rattle.sheet.specs.declared.SheetError.TheVariants as error
use Rattle.sheet.specs.declared.Sampled.{Sampled}
use Rattle.sheet.specs.Sheet.{frames_sheet, no_sheet}

-- The answer for an accepted object with n rows.
unfoldable pub accepted_answer : List Node → ℕ → ℕ → ℕ → Result ℕ SheetError
accepted_answer ns a b n =
    cond (leb a b)
    (cond (is_frame_of ns a && is_frame_of ns b) (Ok n) (Err error.NoFrame))
    (Err error.WrongOrder)

abbrev pub answer_for : List Node → ℕ → ℕ → Result ℕ NotAccepted → Result ℕ SheetError
answer_for ns a b (Ok n) = accepted_answer ns a b n
answer_for ns a b (Err e) = Err (error.Refused e)

-- The sheet that comes with an answer.
abbrev pub sheet_for : List Node → ℕ → ℕ → Result ℕ SheetError → Numbers
sheet_for ns a b (Ok n) = frames_sheet ns a b
sheet_for ns a b (Err e) = no_sheet

abbrev pub with_sheet : List Node → ℕ → ℕ → Result ℕ SheetError → Sampled
with_sheet ns a b r = record { answer = r; sheet = sheet_for ns a b r }

-- What `sheet` hands back for the data set s, frames a to b and a row buffer.
unfoldable pub sheet_of : List ℕ → ℕ → ℕ → List ℕ → Sampled
sheet_of s a b buffer = with_sheet (nodes_of s) a b (answer_for (nodes_of s) a b (accept_of s buffer))

-- The paper's numbers for each case, and of what `sheet` hands back; the sheet's own numbers are `numbers_in`.
abbrev pub fields_of : Result ℕ SheetError → Fields
fields_of (Ok n) = counted n
fields_of (Err (error.Refused e)) = refusal_fields e
fields_of (Err error.WrongOrder) = code_alone 19
fields_of (Err error.NoFrame) = code_alone 10

abbrev pub sampled_fields : Sampled → Fields
sampled_fields r = fields_of r.answer
