-- A number in plain decimal digits, at least one, below 2^64. The first byte that is not a digit, or that makes the number too large,
-- decides why there is no number.
use Rattle.std.specs.Prelude.{ℕ, ◌+◌, ◌-◌, ◌*◌, cond, ◌&&◌, List, [], ◌∷◌, leb, ltb, Result, Ok, Err}
use Rattle.argument.specs.declared.DecimalError.{DecimalError}
use Rattle.argument.specs.declared.DecimalError.TheVariants.{TooLarge, NotNumber}

-- A digit d after the number n.
abbrev pub more_of : ℕ → ℕ → Result ℕ DecimalError
more_of n d = cond (ltb (10 * n + d) 18446744073709551616) (Ok (10 * n + d)) (Err TooLarge)

-- A byte after what was read; it is a digit if it is one of '0' to '9'.
abbrev pub with_byte : Result ℕ DecimalError → ℕ → Result ℕ DecimalError
with_byte (Ok n) c = cond (leb 0x30 c && leb c 0x39) (more_of n (c - 0x30)) (Err NotNumber)
with_byte (Err e) c = Err e

abbrev pub with_bytes : Result ℕ DecimalError → List ℕ → Result ℕ DecimalError
with_bytes r [] = r
with_bytes r (c ∷ s) = with_bytes (with_byte r c) s

abbrev pub argument_of : List ℕ → Result ℕ DecimalError
argument_of [] = Err NotNumber
argument_of (c ∷ s) = with_bytes (Ok 0) (c ∷ s)
