-- Why y is within 0..255: the third case is reached only between the two others. Its dividend is then above 0 and less than 256
-- times its divisor.
use native.Mathlib.Omega.{arith}
use lib.IntN.{ℤ, pos, ◌+ℤ◌, ◌*ℤ◌}
use borrow.Author.Tests.{le-leb}
use Rattle.value.specs.Number.{unit}
use Rattle.window.specs.declared.Window.{Window}
use Rattle.window.specs.Window.{level_at, level_of, level_half}
use Rattle.window.specs.Bounded.{WithinLevels, Bounded}
use Rattle.window.proofs.Laws.{over, under, integer-gap, levelled, level-is, level-small}

within : (w : Window) (t : ℤ) → WithinLevels (level_at w t)
within w t = record {
  y = pos (levelled w (over t) (under t));
  is = level-is w (integer-gap t);
  low = le-leb 0 (levelled w (over t) (under t)) (omega arith);
  high = le-leb (levelled w (over t) (under t)) 255 (level-small w (over t) (under t));
}

pub bounded : Bounded
unfolding level_of level_half
bounded = record {
  wholes = λ w x. within w (pos 2 *ℤ pos unit *ℤ x);
  halves = λ w x. within w (pos 2 *ℤ pos unit *ℤ x +ℤ pos unit);
}
