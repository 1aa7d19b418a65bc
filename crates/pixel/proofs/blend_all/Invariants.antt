-- Invariant: c mask values are blended; each block reads places that are not written yet.
use mathlib.Core.Path.{◌≡◌}
use Prim.Native.Nat.{◌-◌, ◌≤◌}
use Rattle.pixel.specs.Internal.{painted_from, blends_at}
use Rattle.pixel.proofs.blend_all.Given as goal

abbrev pub invariant-loop-c : goal.invariant-loop-c
invariant-loop-c l =
    (l.c ≤ l.columns) × (l.upper ≡ painted_from (blends_at l.initial.upper l.lower l.w l.s) l.s l.c l.initial.upper)

abbrev pub decreases-loop-c : goal.decreases-loop-c
decreases-loop-c l =
    l.columns - l.c
