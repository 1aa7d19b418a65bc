-- An item that is not TO_LINEAR leaves the TO_LINEAR items among those behind it as they were.
use mathlib.Core.Path.{◌≡◌}
use Prim.Native.Nat.{◌-◌}
use Rattle.node.specs.Nodes.{nodes_of, members}
use Rattle.rules.specs.Intensity.{linear_among}
use Rattle.intensity.proofs.next_linear.Given as goal

abbrev pub invariant-loop-j : goal.invariant-loop-j
invariant-loop-j l =
    linear_among (nodes_of l.set) (members (nodes_of l.set) l.j l.to) ≡ linear_among (nodes_of l.set) (members (nodes_of l.set) l.from l.to)

abbrev pub decreases-loop-j : goal.decreases-loop-j
decreases-loop-j l =
    l.to - l.j
