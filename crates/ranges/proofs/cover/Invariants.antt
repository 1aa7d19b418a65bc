-- How far the pairs reach at a frame is the largest mark up to it, and each frame is taken or left by that number.
use mathlib.Core.Path.{◌≡◌}
use Prim.Native.Nat.{ℕ, ◌-◌, ◌≤◌, ◌<◌}
use lib.Dec.{leb}
use lib.ListN.{get_or}
use Rattle.ranges.specs.Internal.{taken_by, far_of}
use Rattle.ranges.proofs.cover.Given as goal

abbrev pub invariant-loop-frame : goal.invariant-loop-frame
invariant-loop-frame l = record {
  far : l.far ≡ far_of l.reach (l.frame - 1);
  done : (i : ℕ) → 1 ≤ i → i < l.frame → get_or l.which i 0 ≡ taken_by (get_or l.initial.which i 0) (leb i (far_of l.reach i)) l.item;
  rest : (i : ℕ) → l.frame ≤ i → get_or l.which i 0 ≡ get_or l.initial.which i 0;
}
