-- Invariant: c levels are drawn. An average of samples is no larger than a sample can be, so that the place in the table is not
-- below 0, and it stays below 2 × 2^stored.
use mathlib.Core.Path.{◌≡◌}
use Prim.Native.Nat.{◌-◌, ◌≤◌}
use Rattle.pixel.specs.Internal.{painted, row_shade}
use Rattle.pixel.proofs.draw_row.Given as goal

abbrev pub invariant-loop-c : goal.invariant-loop-c
invariant-loop-c l =
    (l.c ≤ l.g.columns) × (l.levels ≡ painted (row_shade l.table l.g l.line l.sums l.n l.s) l.c l.initial.levels)

abbrev pub decreases-loop-c : goal.decreases-loop-c
decreases-loop-c l =
    l.columns - l.c
