-- Invariant: the first j places are copied, the others are untouched.
use mathlib.Core.Path.{◌≡◌}
use Prim.Native.Nat.{◌-◌, ◌≤◌}
use lib.ListN.{get_or}
use Rattle.pixel.specs.Internal.{painted}
use Rattle.pixel.proofs.copy.Given as goal

abbrev pub invariant-loop-j : goal.invariant-loop-j
invariant-loop-j l =
    (l.j ≤ l.count) × (l.to ≡ painted (λ j. get_or l.from j 0) l.j l.initial.to)

abbrev pub decreases-loop-j : goal.decreases-loop-j
decreases-loop-j l =
    l.count - l.j
