-- What the searches look at that are still under way, among the members that are left, comes with the sum to the whole.
use mathlib.Core.Path.{◌≡◌}
use mathlib.Core.Bool.{true}
use Prim.Native.Nat.{ℕ, ◌+◌, ◌<◌}
use lib.ListN.{length}
use Rattle.std.specs.List.{All}
use Rattle.node.specs.Nodes.{nodes_of, members}
use Rattle.node.specs.Internal.{Ascends}
use Rattle.searches.specs.Internal.{all_looked, rises}
use Rattle.searches.proofs.look_along.Given as goal

abbrev pub invariant-loop-member : goal.invariant-loop-member
invariant-loop-member l =
    (rises 0 l.left ≡ true)
    × ((l.sum + all_looked (nodes_of l.set) l.left l.member-iterator
    ≡ all_looked (nodes_of l.set) l.wanted (members (nodes_of l.set) l.from l.to))
    × (((least : ℕ) × Ascends (nodes_of l.set) least l.member-iterator) × All (λ i. i < length (nodes_of l.set)) l.member-iterator))
