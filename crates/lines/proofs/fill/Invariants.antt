-- Each turn writes the level of one place, and no later turn touches it.
use Prim.Native.Nat.{◌-◌, ◌≤◌}
use Rattle.window.specs.Internal.{Filled, shade_at}
use Rattle.lines.proofs.fill.Given as goal

abbrev pub invariant-loop-i : goal.invariant-loop-i
invariant-loop-i l =
    (l.i ≤ l.n) × Filled (shade_at l.window l.stored l.inverse) l.i l.table

abbrev pub decreases-loop-i : goal.decreases-loop-i
decreases-loop-i l =
    l.n - l.i
