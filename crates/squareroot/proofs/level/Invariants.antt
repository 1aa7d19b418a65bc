-- `level` answers `root_level`: low × low ≤ t < high × high throughout, and at the end high is low + 1.
use Prim.Native.Nat.{◌-◌, ◌*◌, ◌≤◌, ◌<◌}
use Rattle.squareroot.proofs.level.Given as goal

abbrev pub invariant-loop-low : goal.invariant-loop-low
invariant-loop-low l =
    (l.low < l.high) × ((l.high ≤ 256) × ((l.low * l.low ≤ l.t) × (l.t < l.high * l.high)))

abbrev pub decreases-loop-low : goal.decreases-loop-low
decreases-loop-low l =
    l.high - l.low
