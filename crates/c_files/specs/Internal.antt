-- What the helpers of the numbers about files answer. None of this is in the papers.
use Rattle.std.specs.Prelude.{ℕ, Result, Ok, Err}
use Rattle.meta.specs.declared.HeadError.{HeadError}
use Rattle.file_read.specs.declared.FileError.{FileError}
use Rattle.file_read.specs.declared.FileError.TheVariants.{Head, OtherClass, Refused}
use Rattle.file_read.specs.ReadFile.{head_fields}

-- The code of a refused head.
abbrev pub head_code : HeadError → ℕ
head_code e = (head_fields e).code

-- What the bare call answers about the data set inside; or the code of a file that is refused without it.
abbrev pub bare_answer : {A E : Type 0} → Result A (FileError E) → Result (Result A E) ℕ
bare_answer (Ok a) = Ok (Ok a)
bare_answer (Err (Refused e)) = Ok (Err e)
bare_answer (Err (Head e)) = Err (head_code e)
bare_answer (Err OtherClass) = Err 18
