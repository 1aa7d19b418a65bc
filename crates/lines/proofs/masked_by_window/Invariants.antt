-- Invariant: c levels are drawn.
use mathlib.Core.Path.{◌≡◌}
use Prim.Native.Nat.{◌-◌, ◌≤◌}
use Rattle.window.specs.Internal.{shade_at}
use Rattle.pixel.specs.Internal.{painted, mask_place}
use Rattle.lines.proofs.masked_by_window.Given as goal

abbrev pub invariant-loop-c : goal.invariant-loop-c
invariant-loop-c l =
    (l.c ≤ l.g.columns) × (l.levels ≡ painted (λ i. shade_at l.window l.g.stored l.inverse (mask_place l.g l.line l.masks l.s i)) l.c l.initial.levels)

abbrev pub decreases-loop-c : goal.decreases-loop-c
decreases-loop-c l =
    l.columns - l.c
