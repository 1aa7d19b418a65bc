-- The rows of a data set fit a buffer of seven numbers for each 8 bytes, since a row has at least 8 bytes; and an answer
-- depends on the buffer only in whether the rows fit.
use Rattle.std.specs.Prelude.{Result}
use mathlib.Core.Path.{◌≡◌, refl, ap}
use Prim.Native.Nat.{ℕ, ◌*◌, ◌≤◌}
use native.Mathlib.Omega.{arith}
use borrow.Author.Tests.{le-leb}
use mathlib.Core.List.{List}
use lib.ListN.{length}
use Rattle.dataset.specs.declared.ReadError.{ReadError}
use Rattle.dataset.specs.Reading.{Reading, too_large, refused_at, read, reading_of}
use Rattle.dataset.specs.Tree.{rows_in, rows_of}
use Rattle.dataset.specs.Answer.{flat, answer_of, width}
use Rattle.dataset.proofs.Buffer.{length-flat}
use Rattle.dataset.proofs.Laws.{row_count}
use Rattle.node.specs.Nodes.{nodes_of}
use Rattle.conformance.specs.Judging.{finding_of, answer_for, judge_of, accepted_in, accept_of}
use Rattle.judge_small.specs.Printed.{judge_printed}

same_answer : (s buffer : List ℕ) → width * length s ≤ 8 * length buffer
    → answer_of (reading_of s) buffer ≡ answer_of (reading_of s) (flat (rows_of s))
unfolding rows_of
same_answer s buffer h = by-reading (reading_of s) (row_count s)
  where
    by-reading : (o : Reading) → 8 * length (rows_in o) ≤ length s → answer_of o buffer ≡ answer_of o (flat (rows_in o))
    by-reading too_large r = refl
    by-reading (refused_at code offset) r = refl
    by-reading (read rows) r =
        rw (
          le-leb (width * length rows) (length buffer) (omega arith),
          le-leb (width * length rows) (length (flat rows)) (omega (arith, length-flat rows)),
        )

pub roomy : (s buffer : List ℕ) → width * length s ≤ 8 * length buffer → judge_of s buffer ≡ judge_printed s
unfolding judge_of
roomy s buffer h = ap (λ (a : Result ℕ ReadError). answer_for (finding_of (nodes_of s)) a) (same_answer s buffer h)

-- The same for the calls that need an accepted data set.
pub roomy-accept : (s buffer : List ℕ) → width * length s ≤ 8 * length buffer → accept_of s buffer ≡ accept_of s (flat (rows_of s))
roomy-accept s buffer h = ap accepted_in (roomy s buffer h)
