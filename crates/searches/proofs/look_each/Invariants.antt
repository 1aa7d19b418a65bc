-- Each turn adds what is looked at in one item, and goes on at the next.
use mathlib.Core.Path.{◌≡◌}
use Prim.Native.Nat.{◌+◌, ◌<◌}
use lib.ListN.{length}
use Rattle.std.specs.List.{All}
use Rattle.node.specs.Nodes.{nodes_of, members}
use Rattle.searches.specs.Searches.{looked_in_each}
use Rattle.searches.proofs.look_each.Given as goal

abbrev pub invariant-loop-item : goal.invariant-loop-item
invariant-loop-item l =
    (l.sum + looked_in_each (nodes_of l.set) l.wanted l.item-iterator
    ≡ looked_in_each (nodes_of l.set) l.wanted (members (nodes_of l.set) l.from l.to))
    × All (λ i. i < length (nodes_of l.set)) l.item-iterator
