-- Q-3: a greater x never gets a smaller y. Take any window, with either function, LINEAR or LINEAR_EXACT, and with any centre and width,
-- zero and negative widths included. Take two cells x and z with x not above z. Then drawing step 6 gives both a level, and that of x is
-- not above that of z. Both functions are covered by this one statement; the full window of a frame without a VOI group, and windows that
-- rule 30 refuses, are covered too. Proved in proofs/Monotone.
use Rattle.std.specs.Prelude.{◌≡◌, true, ℤ, Option, Some}
use Rattle.std.specs.Int.Signed.{le_z}
use Rattle.window.specs.declared.Window.{Window}
use Rattle.window.specs.Window.{level_of}

-- Two levels, neither lacking, the first not above the second.
pub record Rising (first second : Option ℤ) : Type 0 where
  pub y : ℤ
  pub v : ℤ
  pub is : first ≡ Some y
  pub next : second ≡ Some v
  pub rises : le_z y v ≡ true

abbrev pub Monotone : Type 0
Monotone = (w : Window) (x z : ℤ) → le_z x z ≡ true → Rising (level_of w x) (level_of w z)
