-- The formulas of step 6 for each function separately, as the papers write them. Step 6 itself has one definition for both (`level_by` of
-- Window), with what a function takes off as a parameter; `Formulas` says that it equals these two.
use Rattle.std.specs.Prelude.{◌*◌, ◌≡◌, cond, ℤ, pos, ◌+ℤ◌, ◌-ℤ◌, ◌*ℤ◌, Option, Some, None}
use Rattle.std.specs.Int.Signed.{le_z, lt_z}
use Rattle.value.specs.declared.Function.TheVariants.{Linear, Exact}
use Rattle.value.specs.Number.{unit}
use Rattle.window.specs.Window.{floor, taken_off, level_by}

-- LINEAR, with u the units to one and t = 2ux: 0 if t ≤ 2C - W; 255 if t > 2C + W - 2u; else
-- floor((255(t - 2C + W) + W - u) / (2(W - u))).
abbrev pub linear_level : ℤ → ℤ → ℤ → Option ℤ
linear_level c w t =
    cond (le_z t (pos 2 *ℤ c -ℤ w)) (Some (pos 0))
    (cond (lt_z (pos 2 *ℤ c +ℤ w -ℤ pos (2 * unit)) t) (Some (pos 255))
    (cond (lt_z (pos 0) (pos 2 *ℤ (w -ℤ pos unit)))
    (Some (floor (pos 255 *ℤ (t -ℤ pos 2 *ℤ c +ℤ w) +ℤ w -ℤ pos unit) (pos 2 *ℤ (w -ℤ pos unit))))
    None))

-- LINEAR_EXACT: 0 if t ≤ 2C - W; 255 if t > 2C + W; else floor((255(t - 2C + W) + W) / (2W)).
abbrev pub exact_level : ℤ → ℤ → ℤ → Option ℤ
exact_level c w t =
    cond (le_z t (pos 2 *ℤ c -ℤ w)) (Some (pos 0))
    (cond (lt_z (pos 2 *ℤ c +ℤ w) t) (Some (pos 255))
    (cond (lt_z (pos 0) (pos 2 *ℤ w))
    (Some (floor (pos 255 *ℤ (t -ℤ pos 2 *ℤ c +ℤ w) +ℤ w) (pos 2 *ℤ w)))
    None))

pub record Formulas : Type 0 where
  pub linear : (c w t : ℤ) → level_by (pos (taken_off (Some Linear))) c w t ≡ linear_level c w t
  pub exact : (c w t : ℤ) → level_by (pos (taken_off (Some Exact))) c w t ≡ exact_level c w t
