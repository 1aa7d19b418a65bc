-- The numbers of every answer of reading fit 32 bits, since they are small.
use Rattle.std.specs.Prelude.{Result, Ok, Err}
use mathlib.Core.List.{List}
use Prim.Native.Nat.{ℕ}
use native.Mathlib.Omega.{arith}
use Rattle.dataset.specs.declared.ReadError.{ReadError}
use Rattle.dataset.specs.declared.ReadError.TheVariants as error
use Rattle.dataset.specs.Reading.{Reading, too_large, refused_at, read as reads, reading_of}
use Rattle.dataset.specs.Answer.{answer_of, count_of, fields_of}
use Rattle.dataset.proofs.Laws.{Small, code-small, answer-small}
use Rattle.dataset.proofs.Tree.{Reads, reading-reads}
use Rattle.c_answers.specs.Internal.{Fits32}
use Rattle.c_answers.proofs.Fits.{alone-fits, count_fits_lem}

small-fits : (a : Result ℕ ReadError) → Small a → Fits32 (fields_of a)
small-fits (Ok n) m = count_fits_lem n (omega (arith, m))
small-fits (Err (error.Refused r)) m =
    record { code = omega (arith, m); offset = omega (arith, m); rows = omega arith; rule = omega arith; frame = omega arith }
small-fits (Err error.TooLarge) m = alone-fits 7 (omega arith)
small-fits (Err error.NoRoom) m = alone-fits 8 (omega arith)

pub read_fits : (s buffer : List ℕ) → Fits32 (fields_of (answer_of (reading_of s) buffer))
read_fits s buffer = small-fits (answer_of (reading_of s) buffer) (answer-small s buffer)

count_small : (s : List ℕ) (o : Reading) → Reads s o → Small (count_of o)
count_small s too_large r = tt
count_small s (refused_at fault offset) r = let k = code-small fault in (k.0, (k.1, r))
count_small s (reads rows) r = r.small

pub rows_fit_lem : (s : List ℕ) → Fits32 (fields_of (count_of (reading_of s)))
rows_fit_lem s = small-fits (count_of (reading_of s)) (count_small s (reading_of s) (reading-reads s))
