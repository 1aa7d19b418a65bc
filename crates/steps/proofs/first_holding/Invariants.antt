-- An item whose range does not hold the frame leaves the search as it was; any other item ends it.
use lib.ListN.{length}
use Prim.Native.Nat.{◌<◌}
use Rattle.std.specs.List.{All}
use Rattle.node.specs.Nodes.{nodes_of, members}
use Rattle.steps.specs.Steps.{first_holding}
use mathlib.Core.Path.{◌≡◌}
use Rattle.steps.proofs.first_holding.Given as goal

abbrev pub invariant-loop-item : goal.invariant-loop-item
invariant-loop-item l =
    (first_holding (nodes_of l.set) l.frame l.item-iterator ≡ first_holding (nodes_of l.set) l.frame (members (nodes_of l.set) l.from l.to))
    × All (λ i. i < length (nodes_of l.set)) l.item-iterator
