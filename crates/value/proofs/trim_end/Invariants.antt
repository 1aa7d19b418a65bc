-- Dropping a last byte b changes nothing, and once the last byte is another there is nothing to drop.
use Rattle.std.proofs.Common.{◌≡◌, length}
use Rattle.value.specs.Text.{trim_end}
use Rattle.value.proofs.trim_end.Given as goal

-- The loop: what is left comes to the same as the whole.
abbrev pub invariant-loop-left : goal.invariant-loop-left
invariant-loop-left l = trim_end l.b l.left ≡ trim_end l.b l.v

abbrev pub decreases-loop-left : goal.decreases-loop-left
decreases-loop-left l = length l.left
