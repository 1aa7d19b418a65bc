-- An answer fits 32 bits where the one number that it names does: all its other fields are 0.
use Prim.Native.Nat.{ℕ, ◌<◌}
use native.Mathlib.Omega.{arith}
use Rattle.basics.specs.Fields.{code_alone, counted}
use Rattle.c_answers.specs.Internal.{Fits32}

pub alone-fits : (code : ℕ) → code < 4294967296 → Fits32 (code_alone code)
alone-fits code h = record { code = h; offset = omega arith; rows = omega arith; rule = omega arith; frame = omega arith }

pub count_fits_lem : (n : ℕ) → n < 4294967296 → Fits32 (counted n)
count_fits_lem n h = record { code = omega arith; offset = omega arith; rows = h; rule = omega arith; frame = omega arith }
