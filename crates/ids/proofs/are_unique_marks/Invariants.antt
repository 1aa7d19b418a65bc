-- The IDs that were passed are marked, so an ID stands twice just where its mark is found.
use lib.ListN.{length}
use mathlib.Core.Path.{◌≡◌}
use Prim.Native.Nat.{◌<◌}
use Rattle.std.specs.List.{All}
use Rattle.node.specs.Nodes.{nodes_of, members}
use Rattle.rules.specs.Frame.{unique_ids}
use Rattle.ids.specs.Internal.{ids_of}
use Rattle.ids.proofs.Laws as laws
use Rattle.ids.proofs.are_unique_marks.Given as goal

abbrev pub invariant-loop-item : goal.invariant-loop-item
invariant-loop-item l =
    (length l.marks ≡ 65536) × (laws.fresh l.marks (ids_of (nodes_of l.set) l.item-iterator)
    ≡ unique_ids (nodes_of l.set) (members (nodes_of l.set) l.from l.to)) × All (λ i. i < length (nodes_of l.set)) l.item-iterator
