-- The loop keeps that the first member whose tag is not below the tag stands from `low` on and not after `high`.
use Prim.Native.Nat.{◌-◌, ◌≤◌}
use Rattle.node.specs.Nodes.{nodes_of, members}
use Rattle.node.specs.Internal.{lower}
use Rattle.node.proofs.DataSet.first_from.Given as goal

abbrev pub invariant-loop-low : goal.invariant-loop-low
invariant-loop-low l =
    let first = lower (nodes_of l.self) l.wanted (members (nodes_of l.self) l.up l.to) l.to in
    (l.up ≤ l.low) × ((l.low ≤ first) × ((first ≤ l.high) × (l.high ≤ l.to)))

abbrev pub decreases-loop-low : goal.decreases-loop-low
decreases-loop-low l =
    l.high - l.low
