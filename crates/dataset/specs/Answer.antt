-- What `read` and `count` answer, what the row buffer of `read` then holds (document 01, "What is handed back"), and the paper's numbers
-- for each case of the answer: the number of rows, or an error.
use Rattle.std.specs.Prelude.{ℕ, ◌*◌, List, [], ◌∷◌, ◌++◌, Bool, cond, length, drop, leb, Result, Ok, Err}
use Rattle.dataset.specs.declared.ReadError.{ReadError}
use Rattle.dataset.specs.declared.ReadError.TheVariants.{Refused, TooLarge, NoRoom}
use Rattle.dataset.specs.Fault.{code_of, refusal}
use Rattle.dataset.specs.declared.Row.{Row}
use Rattle.dataset.specs.Reading.{Reading, too_large, refused_at, read}
use Rattle.basics.specs.Fields.{Fields, code_alone, placed, counted}

-- How many numbers a row has.
abbrev pub width : ℕ
width = 7

-- The rows as numbers, in byte order.
abbrev pub flat : List Row → List ℕ
flat [] = []
flat (r ∷ rs) = r.tag ∷ r.vr ∷ r.depth ∷ r.offset ∷ r.size ∷ r.descendants ∷ r.parent ∷ flat rs

-- Whether the buffer has room for the rows.
abbrev pub fits : List Row → List ℕ → Bool
fits rows buffer = leb (width * length rows) (length buffer)

-- The answer: 7, then 1 to 6, then 8, then 0.
abbrev pub answer_of : Reading → List ℕ → Result ℕ ReadError
answer_of too_large buffer = Err TooLarge
answer_of (refused_at fault offset) buffer = Err (Refused (refusal fault offset))
answer_of (read rows) buffer = cond (fits rows buffer) (Ok (length rows)) (Err NoRoom)

-- What `count` answers: 7, then 1 to 6, as `read`; then how many rows there are.
abbrev pub count_of : Reading → Result ℕ ReadError
count_of too_large = Err TooLarge
count_of (refused_at fault offset) = Err (Refused (refusal fault offset))
count_of (read rows) = Ok (length rows)

-- The buffer afterwards: the rows, and untouched beyond them; untouched with codes 1 to 8.
abbrev pub buffer_of : Reading → List ℕ → List ℕ
buffer_of too_large buffer = buffer
buffer_of (refused_at fault offset) buffer = buffer
buffer_of (read rows) buffer = cond (fits rows buffer) (flat rows ++ drop (width * length rows) buffer) buffer

-- The paper's numbers for each case.
abbrev pub error_fields : ReadError → Fields
error_fields (Refused r) = placed (code_of r.fault) r.offset
error_fields TooLarge = code_alone 7
error_fields NoRoom = code_alone 8

abbrev pub fields_of : Result ℕ ReadError → Fields
fields_of (Ok rows) = counted rows
fields_of (Err e) = error_fields e
