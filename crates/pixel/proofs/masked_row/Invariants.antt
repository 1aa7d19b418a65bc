-- Invariant: c levels are drawn. A mask value is no larger than a sample can be, so that the place in the table is not below 0.
use mathlib.Core.Path.{◌≡◌}
use Prim.Native.Nat.{◌-◌, ◌≤◌}
use lib.ListN.{get_or}
use Rattle.pixel.specs.Internal.{painted, mask_place}
use Rattle.pixel.proofs.masked_row.Given as goal

abbrev pub invariant-loop-c : goal.invariant-loop-c
invariant-loop-c l =
    (l.c ≤ l.g.columns) × (l.levels ≡ painted (λ c. get_or l.table (mask_place l.g l.line l.masks l.s c) 0) l.c l.initial.levels)

abbrev pub decreases-loop-c : goal.decreases-loop-c
decreases-loop-c l =
    l.columns - l.c
