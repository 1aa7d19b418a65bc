-- Rule 27 looks at every element of both items, so each frame adds its own and the shared item's number of them.
use mathlib.Core.Path.{◌≡◌}
use Prim.Native.Nat.{◌+◌, ◌<◌}
use lib.ListN.{length}
use Rattle.std.specs.List.{All}
use Rattle.node.specs.Nodes.{nodes_of}
use Rattle.element.specs.Frames.{frame_items}
use Rattle.searches.specs.Internal.{over_both}
use Rattle.searches.proofs.both_items.Given as goal

abbrev pub invariant-loop-item : goal.invariant-loop-item
invariant-loop-item l =
    (l.sum + over_both (nodes_of l.set) l.shared l.item-iterator ≡ over_both (nodes_of l.set) l.shared (frame_items (nodes_of l.set)))
    × All (λ i. i < length (nodes_of l.set)) l.item-iterator
