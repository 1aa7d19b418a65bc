-- What is known about an answer before it is printed.
use Rattle.std.specs.Prelude.{ℕ, ◌*◌, ◌≤◌, List, length, Result, Ok, Err}
use Rattle.dataset.specs.Answer.{width}
use Rattle.dataset.specs.declared.ReadError.{ReadError}
use Rattle.dataset.specs.declared.ReadError.TheVariants.{Refused, TooLarge, NoRoom}

-- The rows that the answer counts are in the buffer.
abbrev pub RowsHeld : Result ℕ ReadError → List ℕ → Type 0
RowsHeld (Ok n) rows = width * n ≤ length rows
RowsHeld (Err e) rows = Unit {0}

-- The answer is not code 8.
abbrev pub Roomy : Result ℕ ReadError → Type 0
Roomy (Ok n) = Unit {0}
Roomy (Err (Refused r)) = Unit {0}
Roomy (Err TooLarge) = Unit {0}
Roomy (Err NoRoom) = ⊥
