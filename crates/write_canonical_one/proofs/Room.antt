-- The rows fit a buffer of seven numbers for each 8 bytes, since a row has at least 8 bytes; the canonical form fits a target as long as
-- the data set, since it is no longer; and done is answered only where it fits.
use Rattle.std.specs.Prelude.{Result, Ok, Err}
use mathlib.Core.Path.{◌≡◌, refl}
use mathlib.Core.Bool.{Bool, true, false, cond}
use Prim.Native.Nat.{ℕ, ◌*◌, ◌≤◌}
use native.Mathlib.Omega.{arith}
use borrow.Author.Tests.{leb-true, leb-false}
use mathlib.Core.List.{List}
use lib.Dec.{leb}
use lib.ListN.{length}
use Rattle.dataset.specs.declared.ReadError.{ReadError}
use Rattle.dataset.specs.declared.ReadError.TheVariants.{NoRoom}
use Rattle.dataset.specs.Reading.{Reading, too_large, refused_at, read, reading_of}
use Rattle.dataset.specs.Tree.{rows_in, rows_of}
use Rattle.dataset.specs.Answer.{answer_of, fits, width}
use Rattle.dataset.proofs.Laws.{row_count}
use Rattle.node.specs.Nodes.{nodes_of}
use Rattle.canonical.specs.Written.{written_of}
use Rattle.canonical.specs.Answer.{written, answer_for, canonical_of}
use Rattle.canonical.specs.declared.CanonicalError.TheVariants.{NoTargetRoom}
use Rattle.canonical.proofs.Answers.{form-fits}
use Rattle.write_canonical_one.specs.Internal.{Held, Roomy}

pub held : (s rows target after : List ℕ) → length after ≡ length target → Held (canonical_of s rows target) after
unfolding canonical_of
held s rows target after e = go (answer_of (reading_of s) rows)
  where
    by-room : (n size : ℕ) (t : Bool) → leb size (length target) ≡ t
        → Held (cond t (Ok (written n size)) (Err (NoTargetRoom size))) after
    by-room n size true f = omega (arith, leb-true size (length target) f)
    by-room n size false f = tt

    go : (a : Result ℕ ReadError) → Held (answer_for (written_of (nodes_of s)) target a) after
    go (Ok n) = by-room n (length (written_of (nodes_of s))) (leb (length (written_of (nodes_of s))) (length target)) refl
    go (Err x) = tt

pub roomy : (s rows target : List ℕ) → width * length s ≤ 8 * length rows → length s ≤ length target
    → Roomy (canonical_of s rows target)
unfolding canonical_of rows_of
roomy s rows target h k = by-reading (reading_of s) (row_count s)
  where
    by-target : (n size : ℕ) → size ≤ length s → (t : Bool) → leb size (length target) ≡ t
        → Roomy (cond t (Ok (written n size)) (Err (NoTargetRoom size)))
    by-target n size l true f = tt
    by-target n size l false f = omega (arith, leb-false size (length target) f)

    by-room : (n : ℕ) → 8 * n ≤ length s → (t : Bool) → leb (width * n) (length rows) ≡ t
        → Roomy (answer_for (written_of (nodes_of s)) target (cond t (Ok n) (Err NoRoom)))
    by-room n l true f =
        by-target n (length (written_of (nodes_of s))) (form-fits s) (leb (length (written_of (nodes_of s))) (length target)) refl
    by-room n l false f = omega (arith, leb-false (width * n) (length rows) f)

    by-reading : (o : Reading) → 8 * length (rows_in o) ≤ length s → Roomy (answer_for (written_of (nodes_of s)) target (answer_of o rows))
    by-reading too_large r = tt
    by-reading (refused_at fault offset) r = tt
    by-reading (read rs) r = by-room (length rs) r (fits rs rows) refl
