-- A frame's mark is the largest last frame of the pairs that start there, and each pair can only raise it.
use mathlib.Core.Path.{◌≡◌}
use Prim.Native.Nat.{ℕ, ◌*◌, max}
use lib.ListN.{get_or, drop}
use Rattle.value.specs.Number.{us_values}
use Rattle.ranges.specs.Internal.{mark_of}
use Rattle.ranges.proofs.mark.Given as goal

abbrev pub invariant-loop-k : goal.invariant-loop-k
invariant-loop-k l =
    (i : ℕ) → max (get_or l.reach i 0) (mark_of i (drop (2 * l.k) (us_values l.v))) ≡ max (get_or l.initial.reach i 0) (mark_of i (us_values l.v))
