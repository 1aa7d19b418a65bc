-- Q-9: y is within 0..255 by itself, so step 6 needs no limit. Take any window, LINEAR or LINEAR_EXACT, with any centre and width, and
-- any x. Then step 6 gives x a level, and the level is from 0 to 255. It is stated for the level as step 6 computes it, an integer: no
-- conversion and no limit comes before. Every window that rule 30 accepts is among these windows, and so is the full window of a frame
-- without a VOI group. If no bits are stored the steps also meet halves; the same is said about them. Proved in proofs/Bounded.
use Rattle.std.specs.Prelude.{◌≡◌, true, ℤ, pos, Option, Some}
use Rattle.std.specs.Int.Signed.{le_z}
use Rattle.window.specs.declared.Window.{Window}
use Rattle.window.specs.Window.{level_of, level_half}

-- A level, not lacking, from 0 to 255.
pub record WithinLevels (o : Option ℤ) : Type 0 where
  pub y : ℤ
  pub is : o ≡ Some y
  pub low : le_z (pos 0) y ≡ true
  pub high : le_z y (pos 255) ≡ true

pub record Bounded : Type 0 where
  pub wholes : (w : Window) (x : ℤ) → WithinLevels (level_of w x)
  pub halves : (w : Window) (x : ℤ) → WithinLevels (level_half w x)
