-- Invariant: c levels are drawn.
use mathlib.Core.Path.{◌≡◌}
use Prim.Native.Nat.{◌-◌, ◌≤◌}
use lib.ListN.{get_or}
use Rattle.pixel.specs.Internal.{painted, plain_place}
use Rattle.pixel.proofs.plain_row.Given as goal

abbrev pub invariant-loop-c : goal.invariant-loop-c
invariant-loop-c l =
    (l.c ≤ l.g.columns) × (l.levels ≡ painted (λ c. get_or l.table (plain_place l.g l.line c) 0) l.c l.initial.levels)

abbrev pub decreases-loop-c : goal.decreases-loop-c
decreases-loop-c l =
    l.columns - l.c
