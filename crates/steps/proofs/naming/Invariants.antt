-- An item that names another ID leaves the search as it was; one that names the ID, or none, ends it.
use lib.ListN.{length}
use Prim.Native.Nat.{◌<◌}
use Rattle.std.specs.List.{All}
use Rattle.node.specs.Nodes.{nodes_of, members}
use Rattle.steps.specs.Steps as steps
use mathlib.Core.Path.{◌≡◌}
use Rattle.steps.proofs.naming.Given as goal

abbrev pub invariant-loop-item : goal.invariant-loop-item
invariant-loop-item l =
    (steps.naming (nodes_of l.set) l.id l.item-iterator ≡ steps.naming (nodes_of l.set) l.id (members (nodes_of l.set) l.from l.to))
    × All (λ i. i < length (nodes_of l.set)) l.item-iterator
