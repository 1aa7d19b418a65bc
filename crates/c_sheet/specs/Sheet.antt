-- What a host is handed of a sampling sheet. Only in C can the buffer for it be too small.
use Rattle.std.specs.Prelude.{ℕ, Bool, cond, List, ◌++◌, leb, length, drop, Result, Ok, Err}
use Rattle.basics.specs.Fields.{Fields, code_alone}
use Rattle.sheet.specs.declared.SheetError.{SheetError}
use Rattle.sheet.specs.declared.Numbers.{Numbers}
use Rattle.sheet.specs.Sheet.{sheet_size, numbers_in}
use Rattle.sheet.specs.Answer.{fields_of}

-- The fields of the answer. `room` says whether the buffer holds a sheet: where it does not, and the sheet was else done, the answer is 11.
abbrev pub sheet_fields : Bool → Result ℕ SheetError → Fields
sheet_fields room (Ok n) = cond room (fields_of (Ok n)) (code_alone 11)
sheet_fields room (Err e) = fields_of (Err e)

-- Whether a buffer holds a sheet; and what it holds afterwards: the sheet, or zeros, and untouched beyond; a buffer that is too
-- small is left alone.
abbrev pub holds_sheet : List ℕ → Bool
holds_sheet buffer = leb sheet_size (length buffer)

abbrev pub sheet_after : Numbers → List ℕ → List ℕ
sheet_after t buffer = cond (holds_sheet buffer) (numbers_in t ++ drop sheet_size buffer) buffer
