-- What goes on from the first tag not below the one sought stays the same while lower tags are passed.
use mathlib.Core.Path.{◌≡◌}
use Rattle.node.specs.Nodes.{nodes_of, members}
use Rattle.node.specs.Internal.{from_tag}
use Rattle.node.proofs.DataSet.near.Given as goal

abbrev pub invariant-loop-left : goal.invariant-loop-left
invariant-loop-left l =
    from_tag (nodes_of l.self) l.wanted (members (nodes_of l.self) l.k l.to) ≡ from_tag (nodes_of l.self) l.wanted (members (nodes_of l.self) l.from l.to)

abbrev pub decreases-loop-left : goal.decreases-loop-left
decreases-loop-left l =
    l.left
