-- The row table that a reading left: the numbers that it says it wrote are its rows, one for each node.
use Rattle.std.specs.Prelude.{Ok, Err}
use mathlib.Core.Path.{◌≡◌, sym, ◌∙◌}
use mathlib.Core.Bool.{Bool, true, false, cond}
use mathlib.Core.List.{List, ◌++◌}
use Prim.Native.Nat.{ℕ, ◌*◌, ◌≤◌}
use native.Mathlib.Omega.{arith}
use lib.ListN.{length, take, drop, length-append}
use lib.Seq.{take_at}
use Rattle.dataset.specs.Reading.{Reading, too_large, refused_at, read, reading_of}
use Rattle.dataset.specs.Answer.{flat, fits, answer_of, buffer_of, width}
use Rattle.dataset.specs.Tree.{rows_in, rows_of}
use Rattle.dataset.specs.declared.ReadError.TheVariants as error
use Rattle.dataset.proofs.Buffer.{length-flat}
use Rattle.node.specs.Nodes.{nodes_of}
use Rattle.node.specs.Internal.{Table}
use Rattle.node.proofs.Laws.{table, nodes-count}

left-table : (r : Reading) (before buffer : List ℕ) (n : ℕ) → Ok n ≡ answer_of r before → buffer ≡ buffer_of r before
    → (width * n ≤ length buffer) × ((take (width * n) buffer ≡ flat (rows_in r)) × (n ≡ length (rows_in r)))
left-table too_large before buffer n e f = let z : ◌≡◌ {A = ℕ} 0 1 = cc in absurd (omega arith)
left-table (refused_at fault offset) before buffer n e f = let z : ◌≡◌ {A = ℕ} 0 1 = cc in absurd (omega arith)
left-table (read rows) before buffer n e f = go (fits rows before) e f
  where
    go : (t : Bool) → Ok n ≡ cond t (Ok (length rows)) (Err error.NoRoom)
        → buffer ≡ cond t (flat rows ++ drop (width * length rows) before) before
        → (width * n ≤ length buffer) × ((take (width * n) buffer ≡ flat rows) × (n ≡ length rows))
    go true e f =
        let m : n ≡ length rows = cc in
        let l : length (flat rows) ≡ width * n = omega (arith, length-flat rows) in (
          rw (f, length-append (flat rows) (drop (width * length rows) before)) (omega arith),
          (rw f (take_at (flat rows) (drop (width * length rows) before) (width * n) l), m),
        )
    go false e f = let z : ◌≡◌ {A = ℕ} 0 1 = cc in absurd (omega arith)

module _ (s before buffer : List ℕ) (n : ℕ) (e : Ok n ≡ answer_of (reading_of s) before)
    (f : buffer ≡ buffer_of (reading_of s) before) where
  pub after-reading : (width * n ≤ length buffer) × Table s (take (width * n) buffer)
  unfolding rows_of
  after-reading =
      let t = left-table (reading_of s) before buffer n e f in
      (t.0, table s (take (width * n) buffer) t.1.0)

  pub nodes-read : n ≡ length (nodes_of s)
  unfolding rows_of
  nodes-read = (left-table (reading_of s) before buffer n e f).1.1 ∙ sym (nodes-count s)
