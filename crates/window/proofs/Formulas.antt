-- One definition of a level is both formulas: LINEAR takes one off, LINEAR_EXACT takes nothing off.
use Rattle.std.specs.Prelude.{Some}
use mathlib.Core.Path.{◌≡◌, refl}
use lib.IntN.{ℤ, pos, ◌+ℤ◌, ◌-ℤ◌, ◌*ℤ◌, +ℤ_idr}
use Rattle.value.specs.declared.Function.TheVariants.{Exact}
use Rattle.window.specs.Window.{taken_off, level_by}
use Rattle.window.specs.Formulas.{exact_level, Formulas}

minus-none : (z : ℤ) → z -ℤ pos 0 ≡ z
minus-none z = +ℤ_idr z

exact-reads : (c w t : ℤ) → level_by (pos (taken_off (Some Exact))) c w t ≡ exact_level c w t
exact-reads c w t = rw (minus-none (pos 2 *ℤ c +ℤ w), minus-none w, minus-none (pos 255 *ℤ (t -ℤ pos 2 *ℤ c +ℤ w) +ℤ w))

pub formulas : Formulas
formulas = record { linear = λ c w t. refl; exact = exact-reads }
