-- The canonical form reads back as the nodes that were written: reading gives a shape, a shape is what is written of its nodes, and the
-- bytes of a shape read as its nodes (Read.antt, Shape.antt, Back.antt).
use Rattle.std.specs.Prelude.{Result, Ok, Err}
use mathlib.Core.Path.{◌≡◌, sym, ap, ◌∙◌, subst}
use Prim.Native.Nat.{ℕ, ◌≤◌}
use native.Mathlib.Omega.{arith}
use mathlib.Core.Bool.{Bool, true, false, cond}
use mathlib.Core.List.{List, map}
use lib.ListN.{length}
use lib.Dec.{leb}
use Rattle.basics.specs.Limits.{most_rows, largest}
use Rattle.basics.specs.Bytes.{IsBytes}
use Rattle.dataset.specs.declared.Row.{Row}
use Rattle.dataset.specs.Reading.{Reading, read, reading_of}
use Rattle.dataset.specs.Tree.{rows_of}
use Rattle.dataset.specs.Answer.{answer_of}
use Rattle.dataset.specs.declared.ReadError.{ReadError}
use Rattle.dataset.specs.declared.ReadError.TheVariants as unread
use Rattle.dataset.proofs.Laws.{Small, answer-small}
use Rattle.node.specs.Nodes.{node_of, nodes_of}
use Rattle.canonical.specs.Written.{written_of}
use Rattle.canonical.specs.declared.Written.{Written}
use Rattle.canonical.specs.declared.CanonicalError.{CanonicalError}
use Rattle.canonical.specs.declared.CanonicalError.TheVariants.{NoTargetRoom}
use Rattle.canonical.specs.Answer.{written, answer_for, canonical_of, fields_of}
use Rattle.canonical.proofs.Shape.{shape_is, shape_size, shape-bytes}
use Rattle.canonical.proofs.Back.{shape-back}
use Rattle.canonical.proofs.Read.{Readable, reading-shape}
use Rattle.canonical.proofs.Answers.{form_small}

-- The canonical form w of a data set s that reads well: it reads well, has the same nodes, and is no longer.
pub record Returns (s w : List ℕ) : Type 0 where
  pub rows : List Row
  pub reads : reading_of w ≡ read rows
  pub nodes : nodes_of w ≡ nodes_of s
  pub fits : length w ≤ length s
  pub bytes : IsBytes w

nodes-are : (s : List ℕ) (rows : List Row) → reading_of s ≡ read rows → nodes_of s ≡ map (node_of s) rows
unfolding nodes_of rows_of
nodes-are s rows e = rw e

pub written-returns : (s : List ℕ) → IsBytes s → (rows : List Row) → reading_of s ≡ read rows → Returns s (written_of (nodes_of s))
written-returns s bytes rows e =
    let r = subst (λ (o : Reading). Readable s o) e (reading-shape s) in
    let h = r.shape bytes in
    let fits : length r.bytes_of ≤ length s = omega (arith, r.fits, shape_size h) in
    let n : nodes_of s ≡ map (node_of s) rows = nodes-are s rows e in
    let w : written_of (nodes_of s) ≡ r.bytes_of = ap written_of n ∙ shape_is h in
    let b = shape-back h (omega (arith, fits, r.small)) in
    rw w (record {
      rows = b.rows;
      reads = b.is;
      nodes = nodes-are r.bytes_of b.rows b.is ∙ b.nodes ∙ sym n;
      fits = fits;
      bytes = shape-bytes h;
    })

-- ---- The numbers of every answer are small

pub record SmallAnswer (a : Result Written CanonicalError) : Type 0 where
  pub code : (fields_of a).answer.code ≤ 21
  pub offset : (fields_of a).answer.offset ≤ largest
  pub rows : (fields_of a).answer.rows ≤ most_rows
  pub size : (fields_of a).size ≤ largest

pub canonical-small : (s rows target : List ℕ) → SmallAnswer (canonical_of s rows target)
unfolding canonical_of
canonical-small s rows target =
    go (answer_of (reading_of s) rows) (answer-small s rows) (form_small s)
  where
    by-room : (n size : ℕ) → n ≤ most_rows → size ≤ largest → (t : Bool)
        → SmallAnswer (cond t (Ok (written n size)) (Err (NoTargetRoom size)))
    by-room n size h k true = record { code = omega arith; offset = omega arith; rows = h; size = k }
    by-room n size h k false = record { code = omega arith; offset = omega arith; rows = omega arith; size = k }

    go : (a : Result ℕ ReadError) → Small a → length (written_of (nodes_of s)) ≤ largest
        → SmallAnswer (answer_for (written_of (nodes_of s)) target a)
    go (Ok n) h k = by-room n (length (written_of (nodes_of s))) h k (leb (length (written_of (nodes_of s))) (length target))
    go (Err (unread.Refused r)) h k = record { code = omega (arith, h.1.0); offset = h.1.1; rows = omega arith; size = omega arith }
    go (Err unread.TooLarge) h k = record { code = omega arith; offset = omega arith; rows = omega arith; size = omega arith }
    go (Err unread.NoRoom) h k = record { code = omega arith; offset = omega arith; rows = omega arith; size = omega arith }
