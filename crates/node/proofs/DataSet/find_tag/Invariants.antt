-- What is left to find among the members is what was to be found among all of them; and since tags never descend, nothing is left once one
-- is above the tag that is sought.
use mathlib.Core.Path.{◌≡◌}
use Prim.Native.Nat.{ℕ, ◌-◌}
use Rattle.node.specs.Nodes.{nodes_of, members}
use Rattle.node.specs.Find.{find}
use Rattle.node.specs.Internal.{Ascends}
use Rattle.node.proofs.DataSet.find_tag.Given as goal

abbrev pub invariant-loop-i : goal.invariant-loop-i
invariant-loop-i l =
    (find (nodes_of l.self) l.wanted (members (nodes_of l.self) l.i l.to) ≡ find (nodes_of l.self) l.wanted (members (nodes_of l.self) l.from l.to))
    × ((least : ℕ) × Ascends (nodes_of l.self) least (members (nodes_of l.self) l.i l.to))

abbrev pub decreases-loop-i : goal.decreases-loop-i
decreases-loop-i l =
    l.to - l.i
