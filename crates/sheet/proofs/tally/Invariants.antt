-- Each cell adds one at its level, and the room that is left in each count is at least the cells that are left.
use Prim.Native.Nat.{◌-◌}
use lib.ListN.{length, drop}
use Rattle.sheet.specs.Internal.{tallied, Room}
use mathlib.Core.Path.{◌≡◌}
use Rattle.sheet.proofs.tally.Given as goal

abbrev pub invariant-loop-y : goal.invariant-loop-y
invariant-loop-y l =
    (tallied (drop l.y-index l.line) l.sofar ≡ tallied l.line l.initial.sofar) × Room l.sofar (length l.line - l.y-index)
