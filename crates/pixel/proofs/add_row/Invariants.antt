-- Invariant: to the first c sums their samples are added, the others are untouched.
use mathlib.Core.Path.{◌≡◌}
use Prim.Native.Nat.{◌+◌, ◌-◌, ◌≤◌}
use lib.ListN.{get_or}
use Rattle.pixel.specs.Internal.{painted}
use Rattle.pixel.specs.Pixel.{cell_at}
use Rattle.pixel.proofs.add_row.Given as goal

abbrev pub invariant-loop-c : goal.invariant-loop-c
invariant-loop-c l =
    (l.c ≤ l.g.columns) × (l.sums ≡ painted (λ c. get_or l.initial.sums c 0 + cell_at l.g l.pixels (l.from + c)) l.c l.initial.sums)

abbrev pub decreases-loop-c : goal.decreases-loop-c
decreases-loop-c l =
    l.columns - l.c
