-- A test of every member, and of some member, one member at a time.
use mathlib.Core.Path.{◌≡◌}
use Prim.Native.Nat.{ℕ, suc, ◌≤◌, ◌<◌}
use native.Mathlib.Omega.{arith}
use lib.ListN.{length}
use lib.Dec.{leb}
use borrow.Author.Tests.{le-leb}
use mathlib.Core.List.{List}
use mathlib.Core.Bool.{Bool, true, false}
use Rattle.node.specs.Nodes.{Node, next_node, members}
use Rattle.node.proofs.Walks.{members-end, members-next}
use Rattle.element.specs.Elements.{every, some}

module _ (p : ℕ → Bool) (ns : List Node) (i to : ℕ) where
  pub every-end : to ≤ i → every p (members ns i to) ≡ true
  unfolding every
  every-end h = rw (members-end ns i to h)

  pub every-not : i < to → p i ≡ false → every p (members ns i to) ≡ false
  unfolding every
  every-not h e = rw (members-next ns i to h, e)

  pub every-next : (next : ℕ) → next ≡ next_node ns i → i < to → p i ≡ true → every p (members ns i to) ≡ every p (members ns next to)
  unfolding every
  every-next next n h e = rw (members-next ns i to h, e, n)

  pub some_end : to ≤ i → some p (members ns i to) ≡ false
  unfolding some
  some_end h = rw (members-end ns i to h)

  pub some-here : i < to → p i ≡ true → some p (members ns i to) ≡ true
  unfolding some
  some-here h e = rw (members-next ns i to h, e)

  pub some_next : (next : ℕ) → next ≡ next_node ns i → i < to → p i ≡ false → some p (members ns i to) ≡ some p (members ns next to)
  unfolding some
  some_next next n h e = rw (members-next ns i to h, e, n)

-- At least one member, or none.
module _ (ns : List Node) (i to : ℕ) where
  pub members-some : i < to → leb 1 (length (members ns i to)) ≡ true
  members-some h = rw (members-next ns i to h) (le-leb 1 (suc (length (members ns (next_node ns i) to))) (omega arith))

  pub members-none : to ≤ i → leb 1 (length (members ns i to)) ≡ false
  members-none h = rw (members-end ns i to h)
