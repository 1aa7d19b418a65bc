-- Pairs of numbers; and items along a sequence: how many there are, which is the one, and where a cursor stands among them.
use Rattle.std.specs.Prelude.{Option, Some, None}
use mathlib.Core.Path.{◌≡◌, refl, sym}
use Prim.Native.Nat.{ℕ, suc, ◌+◌, ◌%◌, ◌≤◌, ◌<◌}
use native.Mathlib.Omega.{arith}
use mathlib.Core.List.{List, [], ◌∷◌}
use mathlib.Core.Bool.{Bool, true, false, cond, ◌&&◌}
use lib.ListN.{length, drop}
use lib.Dec.{eqb, leb}
use borrow.Author.Tests.{eq-eqb, ne_eqb, eqb-true}
use Rattle.basics.proofs.Tests.{and_both}
use Rattle.basics.specs.Vr.{SQ, US}
use Rattle.node.specs.Nodes.{Node, node_at, next_node, members, inside}
use Rattle.node.proofs.Walks.{members-end, members-next}
use Rattle.element.specs.Elements.{value_at, one_item, the_item, first, has_pairs}
use Rattle.element.specs.Internal.{Along}

-- ---- Pairs of numbers

-- A node that holds pairs holds whole ones.
pub pairs-whole : (ns : List Node) (i : ℕ) → has_pairs ns i ≡ true → length (value_at ns i) % 4 ≡ 0
pairs-whole ns i e =
    let pairs = (and_both (eqb (node_at ns i).vr US) (leb 4 (length (value_at ns i)) && eqb (length (value_at ns i) % 4) 0) e).1 in
    eqb-true (length (value_at ns i) % 4) 0 (and_both (leb 4 (length (value_at ns i))) (eqb (length (value_at ns i) % 4) 0) pairs).1

-- ---- The one item of a sequence

two-not-one : (n : ℕ) → eqb (suc (suc n)) 1 ≡ false
two-not-one n = ne_eqb (suc (suc n)) 1 (λ e. omega arith)

module _ (ns : List Node) (i : ℕ) where
  pub one-item-other : ((node_at ns i).vr ≡ SQ → ⊥) → the_item ns i ≡ None
  unfolding the_item one_item
  one-item-other h = rw (ne_eqb (node_at ns i).vr SQ h)

  module _ (items : List ℕ) (q : (node_at ns i).vr ≡ SQ) (e : items ≡ inside ns i) where
    pub one-item-none : items ≡ [] → the_item ns i ≡ None
    unfolding the_item one_item
    one-item-none h = rw (eq-eqb (node_at ns i).vr SQ q, ← e, h)

    pub one-item-one : (k : ℕ) (rest : List ℕ) → items ≡ k ∷ rest → rest ≡ [] → the_item ns i ≡ Some k
    unfolding the_item one_item
    one-item-one k rest h z = rw (eq-eqb (node_at ns i).vr SQ q, ← e, h, z)

    pub one-item-many : (k j : ℕ) (rest left : List ℕ) → items ≡ k ∷ rest → rest ≡ j ∷ left → the_item ns i ≡ None
    unfolding the_item one_item
    one-item-many k j rest left h m = rw (eq-eqb (node_at ns i).vr SQ q, ← e, h, m, two-not-one)

-- A sequence of one item has that item, and what has no one item is no such sequence.
pub one-item-is : (ns : List Node) (i k : ℕ) → the_item ns i ≡ Some k → true ≡ one_item ns i
unfolding the_item
one-item-is ns i k e = go (one_item ns i) (first (inside ns i)) e
  where
    go : (b : Bool) (f : Option ℕ) → cond b f None ≡ Some k → true ≡ b
    go true f e = refl
    go false f e = let z : ◌≡◌ {A = ℕ} 0 1 = cc in absurd (omega arith)

pub one-item-not : (ns : List Node) (i : ℕ) → the_item ns i ≡ None → false ≡ one_item ns i
unfolding the_item one_item
one-item-not ns i e = go (eqb (node_at ns i).vr SQ) (inside ns i) e
  where
    go : (b : Bool) (l : List ℕ) → cond (b && eqb (length l) 1) (first l) None ≡ None → false ≡ (b && eqb (length l) 1)
    go false l e = refl
    go true [] e = refl
    go true (x ∷ []) e = let z : ◌≡◌ {A = ℕ} 0 1 = cc in absurd (omega arith)
    go true (x ∷ y ∷ l) e = sym (two-not-one (length l))

-- ---- A cursor along items

pub along-none : (ns : List Node) → Along ns [] (record { at = 0; end = 0 })
along-none ns = record { ahead = members-end ns 0 0 (omega arith); inner = omega arith }

module _ (ns : List Node) (at end : ℕ) where
  pub rest_end : end ≤ at → members ns at end ≡ drop 1 (members ns at end)
  rest_end h = rw (members-end ns at end h)

  pub rest-next : at < end → members ns (next_node ns at) end ≡ drop 1 (members ns at end)
  rest-next h = rw (members-next ns at end h)
