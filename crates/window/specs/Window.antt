-- Drawing steps 6 and 7: the window, and its levels.
use Rattle.std.specs.Prelude.{ℕ, zero, suc, ◌*◌, ◌/◌, ◌^◌, Bool, cond, ℤ, pos, negsuc, nat_abs, ◌+ℤ◌, ◌-ℤ◌, ◌*ℤ◌, Option, Some, None}
use Rattle.std.specs.Int.Signed.{le_z, lt_z}
use Rattle.value.specs.declared.Signed.{Signed}
use Rattle.value.specs.declared.Signed.TheVariants as signed
use Rattle.value.specs.declared.Function.{Function}
use Rattle.value.specs.declared.Function.TheVariants as function
use Rattle.value.specs.Number.{unit}
use Rattle.window.specs.declared.Window.{Window}

-- A signed number as an integer.
abbrev pub integer : Option Signed → ℤ
integer (Some (signed.Plus n)) = pos n
integer (Some (signed.Minus zero)) = pos 0
integer (Some (signed.Minus (suc n))) = negsuc n
integer None = pos 0

-- The window of a frame without a VOI group: centre 2^(stored - 1), which is 1/2 for 0 bits stored, and width 2^stored, in units; LINEAR.
unfoldable pub full_window : ℕ → Window
full_window stored =
    record { center = Some (signed.Plus (unit * 2 ^ stored / 2)); width = Some (signed.Plus (unit * 2 ^ stored)); function = Some function.Linear }

-- a / b rounded down, for b above 0.
abbrev pub floor : ℤ → ℤ → ℤ
floor (pos a) b = pos (a / nat_abs b)
floor (negsuc a) b = negsuc (a / nat_abs b)

-- What a function takes off, e: LINEAR one, in units, and LINEAR_EXACT nothing.
abbrev pub taken_off : Option Function → ℕ
taken_off (Some function.Linear) = unit
taken_off (Some function.Exact) = 0
taken_off None = unit

-- Step 6, for a centre C and a width W, with u the units to one and t = 2ux: 0 if t ≤ 2C - W; 255 if t > 2C + W - 2e; else
-- floor((255(t - 2C + W) + W - e) / (2(W - e))), whose divisor must be above 0. With e = u it is the paper's LINEAR
-- (PS3.3 C.11.2.1.2), with e = 0 its LINEAR_EXACT (C.11.2.1.3). The level is an integer, and nothing limits it.
abbrev pub level_by : ℤ → ℤ → ℤ → ℤ → Option ℤ
level_by e c w t =
    cond (le_z t (pos 2 *ℤ c -ℤ w)) (Some (pos 0))
    (cond (lt_z (pos 2 *ℤ c +ℤ w -ℤ pos 2 *ℤ e) t) (Some (pos 255))
    (cond (lt_z (pos 0) (pos 2 *ℤ (w -ℤ e)))
    (Some (floor (pos 255 *ℤ (t -ℤ pos 2 *ℤ c +ℤ w) +ℤ w -ℤ e) (pos 2 *ℤ (w -ℤ e))))
    None))

abbrev pub level_at : Window → ℤ → Option ℤ
level_at w t = level_by (pos (taken_off w.function)) (integer w.center) (integer w.width) t

unfoldable pub level_of : Window → ℤ → Option ℤ
level_of w x = level_at w (pos 2 *ℤ pos unit *ℤ x)

-- The level of x + 1/2.
unfoldable pub level_half : Window → ℤ → Option ℤ
level_half w x = level_at w (pos 2 *ℤ pos unit *ℤ x +ℤ pos unit)

-- Step 7: MONOCHROME1 shows 255 - y.
unfoldable pub shade_of : Bool → ℤ → ℤ
shade_of inverse y = cond inverse (pos 255 -ℤ y) y

-- A cell of the picture is a number from 0 on. An integer below 0 would be none, but none occurs (Bounded.antt).
abbrev pub cell_of : ℤ → Option ℕ
cell_of (pos n) = Some n
cell_of (negsuc n) = None

abbrev pub shaded : Bool → Option ℤ → Option ℕ
shaded inverse None = None
shaded inverse (Some y) = cell_of (shade_of inverse y)
