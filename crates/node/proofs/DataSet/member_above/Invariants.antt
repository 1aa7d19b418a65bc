-- The loop keeps that node i is m or below it.
use Prim.Native.Nat.{◌≤◌, ◌<◌}
use Rattle.node.specs.Nodes.{nodes_of, next_node}
use Rattle.node.proofs.DataSet.member_above.Given as goal

abbrev pub invariant-loop-up : goal.invariant-loop-up
invariant-loop-up l =
    (l.up ≤ l.m) × ((l.m ≤ l.i) × (l.i < next_node (nodes_of l.self) l.m))

abbrev pub decreases-loop-up : goal.decreases-loop-up
decreases-loop-up l =
    l.m
