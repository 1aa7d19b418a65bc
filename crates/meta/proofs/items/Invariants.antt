-- Each turn reads one item as the definition does and leaves fewer bytes; the rows are counted, but no room is needed for them.
use Prim.Native.Nat.{ℕ, ◌-◌}
use Rattle.dataset.specs.Header.{moved, item_at}
use Rattle.dataset.specs.Reading.{elements_at}
use Rattle.dataset.specs.Internal.{items_at}
use Rattle.dataset.proofs.Level as level
use Rattle.meta.proofs.items.Given as goal

abbrev pub invariant-loop-fault : goal.invariant-loop-fault
invariant-loop-fault loop =
    (least : ℕ) × level.Along (λ a l. item_at loop.file (moved loop.initial.here a)) (λ n _ v. elements_at 7 loop.file n v) 1 (items_at 7 loop.file loop.first loop.initial.here) loop.initial.here
    loop.first loop.initial.none loop.none loop.here loop.n least

abbrev pub decreases-loop-fault : goal.decreases-loop-fault
decreases-loop-fault l =
    l.here.end - l.here.at
