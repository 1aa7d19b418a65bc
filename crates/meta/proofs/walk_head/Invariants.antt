-- Each turn reads one element as the definition does and leaves fewer bytes; the rows are counted, but no room is needed for them.
use Prim.Native.Nat.{◌-◌}
use Rattle.meta.proofs.Heads as heads
use Rattle.meta.proofs.walk_head.Given as goal

abbrev pub invariant-loop-found : goal.invariant-loop-found
invariant-loop-found l =
    heads.Kept l.file l.end l.initial.none l.none l.here l.n l.least l.found

abbrev pub decreases-loop-found : goal.decreases-loop-found
decreases-loop-found l =
    l.here.end - l.here.at
