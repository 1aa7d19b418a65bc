-- What contracts need beside the definition of a level: the windows that are drawn, and a table of shades.
use Rattle.std.specs.Prelude.{ℕ, ◌+◌, ◌-◌, ◌*◌, ◌/◌, ◌^◌, ◌<◌, ◌≡◌, Bool, true, cond, List, ltb, length, get_or, pos, ◌-ℤ◌, Option, Some, None}
use Rattle.value.specs.declared.Signed.{Signed}
use Rattle.value.specs.declared.Signed.TheVariants as signed
use Rattle.value.specs.Words.{is_function}
use Rattle.value.specs.Number.{size_limit, is_number, least_width, is_width, number_or0}
use Rattle.value.specs.Internal.{SizeBelow}
use Rattle.window.specs.declared.Window.{Window}
use Rattle.window.specs.Window.{level_of, shaded}

-- A window that rule 30 accepts: its centre is a number, its function one of the two, and its width large enough for that function.
pub record Ruled (w : Window) : Type 0 where
  pub number : is_number w.center ≡ true
  pub function : is_function w.function ≡ true
  pub wide : is_width (least_width w.function) w.width ≡ true

-- A window that can be drawn: one that rule 30 accepts, whose centre and width are within a DS number's size.
pub record Drawable (w : Window) : Type 0 where
  pub ruled : Ruled w
  pub near : SizeBelow size_limit w.center
  pub narrow : SizeBelow size_limit w.width

-- A signed number is the difference of these two.
abbrev pub above : Option Signed → ℕ
above (Some (signed.Plus n)) = n
above (Some (signed.Minus n)) = 0
above None = 0

abbrev pub below : Option Signed → ℕ
below (Some (signed.Plus n)) = 0
below (Some (signed.Minus n)) = n
below None = 0

-- The level where d is 2ux - 2C + W and above 0, and e what the function takes off.
unfoldable pub ramp_of : ℕ → ℕ → ℕ → ℕ
ramp_of e d w = cond (ltb (2 * w) (d + 2 * e)) 255 ((255 * d + w - e) / (2 * (w - e)))

-- Place i of a table for a given number of stored bits: the shade of x = i + 2^(stored - 1) - (2^stored - 1).
unfoldable pub shade_at : Window → ℕ → Bool → ℕ → ℕ
shade_at window stored inverse i = number_or0 (shaded inverse (level_of window (pos (i + 2 ^ (stored - 1)) -ℤ pos (2 ^ stored - 1))))

-- How many places a table of levels has: 2^17, more than two samples of 16 bits have differences.
abbrev pub shade_places : ℕ
shade_places = 131072

-- A table whose first n places are those of f.
pub record Filled (f : ℕ → ℕ) (n : ℕ) (s : List ℕ) : Type 0 where
  pub size : length s ≡ shade_places
  pub value : (i : ℕ) → i < n → get_or s i 0 ≡ f i
