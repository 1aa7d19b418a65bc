-- Each entry is written whole, with what its item says, so that all entries stay right.
use lib.ListN.{length}
use Prim.Native.Nat.{◌<◌}
use Rattle.std.specs.List.{All}
use Rattle.node.specs.Nodes.{nodes_of}
use Rattle.ranges.specs.Internal.{Known}
use Rattle.ranges.proofs.tell_all.Given as goal

abbrev pub invariant-loop-entry : goal.invariant-loop-entry
invariant-loop-entry l =
    Known (nodes_of l.set) l.entry-items × All (λ i. i < length (nodes_of l.set)) l.masks
