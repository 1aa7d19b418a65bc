-- What is left of the frame's item comes to what all of it comes to; what the walk has passed in the shared item is asked for no more.
use mathlib.Core.Path.{◌≡◌}
use Prim.Native.Nat.{◌-◌}
use Rattle.node.specs.Nodes.{nodes_of, members}
use Rattle.element.specs.Elements.{some}
use Rattle.rules.specs.Frame.{is_shared, repeats_shared}
use Rattle.rules_frame.proofs.Merge.{Ahead}
use Rattle.rules_frame.proofs.repeats_wide.Given as goal

abbrev pub invariant-loop-j : goal.invariant-loop-j
invariant-loop-j l =
    (some (is_shared (nodes_of l.set) l.shared) (members (nodes_of l.set) l.j l.end) ≡ repeats_shared (nodes_of l.set) l.shared l.item)
    × Ahead (nodes_of l.set) l.shared l.j l.end l.k l.to

abbrev pub decreases-loop-j : goal.decreases-loop-j
decreases-loop-j l =
    l.end - l.j
