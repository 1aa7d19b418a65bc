-- Each turn looks at one member more and passes it while its tag is lower; tags ascend, so where the loop stops is where the search does.
use mathlib.Core.Path.{◌≡◌}
use Prim.Native.Nat.{ℕ, ◌+◌, ◌-◌}
use Rattle.node.specs.Nodes.{nodes_of, members}
use Rattle.node.specs.Find.{find}
use Rattle.node.specs.Internal.{Ascends}
use Rattle.searches.specs.Count.{looked_at}
use Rattle.searches.proofs.look.Given as goal

abbrev pub invariant-loop-i : goal.invariant-loop-i
invariant-loop-i l =
    (find (nodes_of l.set) l.wanted (members (nodes_of l.set) l.i l.to) ≡ find (nodes_of l.set) l.wanted (members (nodes_of l.set) l.from l.to))
    × ((l.count + looked_at (nodes_of l.set) l.wanted (members (nodes_of l.set) l.i l.to)
    ≡ looked_at (nodes_of l.set) l.wanted (members (nodes_of l.set) l.from l.to))
    × ((least : ℕ) × Ascends (nodes_of l.set) least (members (nodes_of l.set) l.i l.to)))

abbrev pub decreases-loop-i : goal.decreases-loop-i
decreases-loop-i l =
    l.to - l.i
