-- Invariant: k sums from the place on have the value, the others are untouched.
use mathlib.Core.Path.{◌≡◌}
use Prim.Native.Nat.{◌-◌, ◌≤◌}
use Rattle.pixel.specs.Internal.{painted_from}
use Rattle.pixel.proofs.fill.Given as goal

abbrev pub invariant-loop-k : goal.invariant-loop-k
invariant-loop-k l =
    (l.k ≤ l.count) × (l.sums ≡ painted_from (λ _. l.value) l.at l.k l.initial.sums)

abbrev pub decreases-loop-k : goal.decreases-loop-k
decreases-loop-k l =
    l.count - l.k
