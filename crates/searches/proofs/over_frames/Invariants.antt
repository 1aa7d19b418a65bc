-- Each turn adds one frame's group, with what the shared item comes to worked out before the loop.
use mathlib.Core.Path.{◌≡◌}
use Prim.Native.Nat.{◌+◌, ◌<◌}
use lib.ListN.{length}
use Rattle.std.specs.List.{All}
use Rattle.node.specs.Nodes.{nodes_of}
use Rattle.element.specs.Frames.{frame_items}
use Rattle.searches.specs.Internal.{over_group}
use Rattle.searches.proofs.over_frames.Given as goal

abbrev pub invariant-loop-item : goal.invariant-loop-item
invariant-loop-item l =
    (l.sum + over_group (nodes_of l.set) l.group.tag l.group.always l.group.reads.now l.shared l.item-iterator
    ≡ over_group (nodes_of l.set) l.group.tag l.group.always l.group.reads.now l.shared (frame_items (nodes_of l.set)))
    × All (λ i. i < length (nodes_of l.set)) l.item-iterator
