-- Each cell is the level of its own sample, as the table would have it.
use mathlib.Core.Path.{◌≡◌}
use Prim.Native.Nat.{◌-◌, ◌≤◌}
use Rattle.window.specs.Internal.{shade_at}
use Rattle.pixel.specs.Internal.{painted, plain_place}
use Rattle.lines.proofs.plain_by_window.Given as goal

abbrev pub invariant-loop-c : goal.invariant-loop-c
invariant-loop-c l =
    (l.c ≤ l.g.columns) × (l.levels ≡ painted (λ i. shade_at l.window l.g.stored l.inverse (plain_place l.g l.line i)) l.c l.initial.levels)

abbrev pub decreases-loop-c : goal.decreases-loop-c
decreases-loop-c l =
    l.columns - l.c
