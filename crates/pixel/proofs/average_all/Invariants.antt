-- Invariant: the first j sums are averages, the others are untouched.
use mathlib.Core.Path.{◌≡◌}
use Prim.Native.Nat.{◌-◌, ◌≤◌}
use lib.ListN.{get_or}
use Rattle.pixel.specs.Pixel.{average_of}
use Rattle.pixel.specs.Internal.{painted}
use Rattle.pixel.proofs.average_all.Given as goal

abbrev pub invariant-loop-j : goal.invariant-loop-j
invariant-loop-j l =
    (l.j ≤ l.count) × (l.sums ≡ painted (λ j. average_of (get_or l.initial.sums j 0) l.n) l.j l.initial.sums)

abbrev pub decreases-loop-j : goal.decreases-loop-j
decreases-loop-j l =
    l.count - l.j
