-- Each turn reads one element as the definition does, writes its row and leaves fewer bytes; at a sequence the walk is given up.
use Prim.Native.Nat.{◌-◌}
use Rattle.dataset.specs.Header.{moved, element_at}
use Rattle.dataset.specs.Reading.{elements_at, value_run, depths}
use Rattle.dataset.proofs.Level as level
use Rattle.dataset.proofs.read_leaf.Given as goal

abbrev pub invariant-loop-fault : goal.invariant-loop-fault
invariant-loop-fault loop =
    level.Along (λ a l. element_at loop.s (moved loop.initial.here a) l loop.levels) (value_run loop.levels loop.s) (depths - loop.levels) (elements_at loop.levels loop.s loop.first loop.initial.here) loop.initial.here
    loop.first
    loop.initial.rows loop.rows loop.here loop.n loop.least

abbrev pub decreases-loop-fault : goal.decreases-loop-fault
decreases-loop-fault l =
    l.here.end - l.here.at
