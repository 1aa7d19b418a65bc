-- Each step passes one item, so a - 1 steps lead to the item of frame a.
use Prim.Native.Nat.{◌-◌, ◌≤◌}
use lib.ListN.{drop}
use Rattle.node.specs.Nodes.{nodes_of}
use Rattle.element.specs.Internal.{Along}
use Rattle.element.specs.Frames.{frame_items}
use Rattle.sheet.proofs.items_from.Given as goal

abbrev pub invariant-loop-frame : goal.invariant-loop-frame
invariant-loop-frame l =
    (1 ≤ l.frame) × ((l.frame ≤ l.a) × Along (nodes_of l.set) (drop (l.frame - 1) (frame_items (nodes_of l.set))) l.items)

abbrev pub decreases-loop-frame : goal.decreases-loop-frame
decreases-loop-frame l =
    l.a - l.frame
