-- Nodes put one after another: a turn puts the value, all that is below the node, and then the header. The nodes below are fewer, so the
-- calls end.
use Prim.Native.Nat.{◌-◌}
use Rattle.node.specs.Nodes.{nodes_of}
use Rattle.canonical.proofs.Members.{Going}
use Rattle.canonical.proofs.+put_members.Given as goal

-- How many nodes there are to put.
abbrev pub decreases-put_members : goal.decreases-put_members
decreases-put_members l = l.to - l.from

abbrev pub invariant-loop-i : goal.invariant-loop-i
invariant-loop-i l =
    Going (nodes_of l.set) l.initial.target l.target l.from l.start l.to l.i l.at

abbrev pub decreases-loop-i : goal.decreases-loop-i
decreases-loop-i l =
    l.to - l.i
