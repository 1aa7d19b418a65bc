-- A sequence's rows take 8 bytes each, and one without rows has no bytes; any other value is as long as its row says.
use mathlib.Core.Path.{◌≡◌, refl, sym, ap, ◌∙◌}
use mathlib.Core.Bool.{Bool, true, false, cond, not, ◌||◌}
use mathlib.Core.List.{List, []}
use Prim.Native.Nat.{ℕ, ◌<◌}
use native.Mathlib.Omega.{arith}
use borrow.Author.Tests.{eq-eqb, ne_eqb, eqb-true, eqb-false}
use lib.ListN.{length, take, drop, length-drop}
use lib.Seq.{length-take-le}
use lib.Dec.{eqb}
use Rattle.basics.specs.Vr.{SQ}
use Rattle.dataset.specs.declared.Row.{Row}
use Rattle.dataset.specs.Tree.{rows_of, row_at}
use Rattle.dataset.proofs.Laws.{row_within, row-roomy, sequence-bare}
use Rattle.node.specs.Nodes.{node_of, nodes_of, node_at}
use Rattle.node.specs.Find.{filled}
use Rattle.node.specs.Length.{LengthNotZero}
use Rattle.node.proofs.Laws.{node-map}

zero_same : (a b : ℕ) → (a ≡ 0 → b ≡ 0) → (b ≡ 0 → a ≡ 0) → eqb a 0 ≡ eqb b 0
zero_same a b f g = go (eqb a 0) refl
  where
    go : (t : Bool) → eqb a 0 ≡ t → eqb a 0 ≡ eqb b 0
    go true p = p ∙ sym (eq-eqb b 0 (f (eqb-true a 0 p)))
    go false p = p ∙ sym (ne_eqb b 0 (λ z. eqb-false a 0 p (g z)))

module _ (s : List ℕ) (i : ℕ) (h : i < length (rows_of s)) where
  abbrev r : Row
  r = row_at (rows_of s) i

  node-here : node_at (nodes_of s) i ≡ node_of s r
  unfolding nodes_of
  node-here = node-map s (rows_of s) i h

  value-length : length (take r.size (drop r.offset s)) ≡ r.size
  value-length =
      let w = row_within s i h in
      length-take-le r.size (drop r.offset s) (omega (arith, w, length-drop r.offset s))

  by-vr : (r.vr ≡ 0 → ⊥) → (t : Bool) → eqb r.vr SQ ≡ t
      → cond t (not (eqb r.descendants 0)) (not (eqb (length (cond (t || eqb r.vr 0) [] (take r.size (drop r.offset s)))) 0))
      ≡ not (eqb r.size 0)
  by-vr n true p =
      ap not (zero_same r.descendants r.size (sequence-bare s i h (eqb-true r.vr SQ p))
      (λ z. let w = row-roomy s i h in omega (arith, w, z)))
  by-vr n false p = rw (ne_eqb r.vr 0 n, value-length)

pub length-not-zero : LengthNotZero
unfolding filled
length-not-zero s i h n = rw (node-here s i h) (by-vr s i h n (eqb (row_at (rows_of s) i).vr SQ) refl)
