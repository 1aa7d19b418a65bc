-- The counts so far with the levels of the frames ahead are the counts of all, and there are too few cells for a count to wrap.
use Prim.Native.Nat.{◌+◌, ◌-◌, ◌*◌, ◌≤◌}
use lib.ListN.{length, drop}
use Rattle.node.specs.Nodes.{nodes_of}
use Rattle.element.specs.Internal.{Along}
use Rattle.element.specs.Frames.{frame_items}
use Rattle.display.specs.Show.{image_size}
use Rattle.sheet.specs.Sheet.{levels_of, natives_of, counts_of}
use Rattle.sheet.specs.Internal.{tallied, Room, IsHeld}
use mathlib.Core.Path.{◌≡◌}
use Rattle.sheet.proofs.count_frames.Given as goal

abbrev pub invariant-loop-frame : goal.invariant-loop-frame
invariant-loop-frame l =
    (l.a ≤ l.frame) × ((l.frame ≤ l.b + 1) × (Along (nodes_of l.set) (drop (l.frame - 1) (frame_items (nodes_of l.set))) l.items
    × ((tallied (levels_of (nodes_of l.set) l.frame (l.b + 1 - l.frame)) l.sofar.counts ≡ counts_of (levels_of (nodes_of l.set) l.a (l.b - l.a + 1)))
    × ((l.sofar.natives + natives_of (nodes_of l.set) l.frame (l.b + 1 - l.frame) ≡ natives_of (nodes_of l.set) l.a (l.b - l.a + 1))
    × (Room l.sofar.counts ((l.b + 1 - l.frame) * image_size (nodes_of l.set)) × (IsHeld l.c.g.stored l.c.inverse l.sofar.held l.table
    × ((length l.table ≡ length l.initial.table)
    × ((length l.upper ≡ length l.initial.upper) × ((length l.lower ≡ length l.initial.lower) × ((length l.line ≡ length l.initial.line)))))))))))
