-- IDs are unique just where the first is not among the others, and those are unique.
use mathlib.Core.Path.{◌≡◌}
use Prim.Native.Nat.{◌-◌}
use Rattle.node.specs.Nodes.{nodes_of, members}
use Rattle.rules.specs.Frame.{unique_ids}
use Rattle.ids.proofs.are_unique_pairs.Given as goal

abbrev pub invariant-loop-at : goal.invariant-loop-at
invariant-loop-at l =
    unique_ids (nodes_of l.set) (members (nodes_of l.set) l.at l.to) ≡ unique_ids (nodes_of l.set) (members (nodes_of l.set) l.from l.to)

abbrev pub decreases-loop-at : goal.decreases-loop-at
decreases-loop-at l =
    l.to - l.at
