-- The rows that an answer counts are in the buffer, since the answer is code 8 where they do not fit; and they fit a
-- buffer of seven numbers for each 8 bytes, since a row has at least 8 bytes.
use Rattle.std.specs.Prelude.{Ok, Err}
use mathlib.Core.Path.{◌≡◌, refl}
use mathlib.Core.Bool.{Bool, true, false, cond}
use Prim.Native.Nat.{ℕ, ◌*◌, ◌≤◌}
use native.Mathlib.Omega.{arith}
use borrow.Author.Tests.{leb-true, leb-false}
use mathlib.Core.List.{List}
use lib.Dec.{leb}
use lib.ListN.{length}
use Rattle.dataset.specs.declared.ReadError.TheVariants as error
use Rattle.dataset.specs.Reading.{Reading, too_large, refused_at, read, reading_of}
use Rattle.dataset.specs.Tree.{rows_in, rows_of}
use Rattle.dataset.specs.Answer.{answer_of, fits, width}
use Rattle.dataset.proofs.Laws.{row_count}
use Rattle.rowprint.specs.Internal.{RowsHeld, Roomy}

pub held : (o : Reading) (buffer after : List ℕ) → length after ≡ length buffer → RowsHeld (answer_of o buffer) after
held too_large buffer after e = tt
held (refused_at fault offset) buffer after e = tt
held (read rows) buffer after e = by-room (fits rows buffer) refl
  where
    by-room : (t : Bool) → fits rows buffer ≡ t → RowsHeld (cond t (Ok (length rows)) (Err error.NoRoom)) after
    by-room true f = omega (arith, leb-true (width * length rows) (length buffer) f)
    by-room false f = tt

pub roomy : (s buffer : List ℕ) → width * length s ≤ 8 * length buffer → Roomy (answer_of (reading_of s) buffer)
unfolding rows_of
roomy s buffer h = by-reading (reading_of s) (row_count s)
  where
    by-room : (n : ℕ) → 8 * n ≤ length s → (t : Bool) → leb (width * n) (length buffer) ≡ t → Roomy (cond t (Ok n) (Err error.NoRoom))
    by-room n l true f = tt
    by-room n l false f = omega (arith, leb-false (width * n) (length buffer) f)

    by-reading : (o : Reading) → 8 * length (rows_in o) ≤ length s → Roomy (answer_of o buffer)
    by-reading too_large r = tt
    by-reading (refused_at fault offset) r = tt
    by-reading (read rows) r = by-room (length rows) r (fits rows buffer) refl
