-- Each item takes only frames that no item before it took, so the first whose range holds a frame has it.
use lib.ListN.{length}
use Prim.Native.Nat.{◌<◌}
use Rattle.std.specs.List.{All}
use Rattle.node.specs.Nodes.{nodes_of, members}
use Rattle.ranges.specs.Internal.{LeftToFind}
use Rattle.ranges.proofs.cover_items.Given as goal

abbrev pub invariant-loop-item : goal.invariant-loop-item
invariant-loop-item l =
    LeftToFind (nodes_of l.set) l.n (members (nodes_of l.set) l.from l.to) l.item-iterator l.which
    × All (λ i. i < length (nodes_of l.set)) l.item-iterator
