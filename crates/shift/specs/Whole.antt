-- Shifts of whole pixels, as they were before quarters, for the theorems that both agree (`specs/Agree`). No code follows these
-- definitions.
use Rattle.std.specs.Prelude.{ℕ, ◌*◌, ◌/◌, ◌%◌, Bool, cond, ◌&&◌, List, length, ◌==◌, Float, Option, Some, None}
use Rattle.std.specs.Float.{nan, inf, fin}
use Rattle.std.specs.Float.Ieee.{up, down}
use Rattle.value.specs.declared.Signed.{Signed}
use Rattle.value.specs.declared.Signed.TheVariants.{Plus, Minus}
use Rattle.shift.specs.declared.Shift.{Shift}
use Rattle.shift.specs.declared.Moves.{Moves}
use Rattle.shift.specs.Shift.{shift_unit, largest_shift, is_within, moves_by, signed_size, item_shift}

-- The whole number that a float is, of any size; NaN, the infinities and fractions are none.
unfoldable pub whole_float : Float → Option Signed
whole_float nan = None
whole_float (inf s) = None
whole_float (fin s m e) = cond (m * up e % down e == 0) (signed_size s (m * up e / down e)) None

unfoldable pub whole_moves_of : Shift → Moves
whole_moves_of s = moves_by whole_float s

-- A short whole number.
abbrev pub is_short_whole : Option Signed → Bool
is_short_whole n = is_within largest_shift n

unfoldable pub is_whole_shift_of : Shift → Bool
is_whole_shift_of s = is_short_whole (whole_moves_of s).vertical && is_short_whole (whole_moves_of s).horizontal

-- Rule 35's form of a value, before quarters: two short whole numbers.
unfoldable pub is_whole_shift : List ℕ → Bool
is_whole_shift v = length v == 8 && is_whole_shift_of (item_shift v)

-- The same number, in quarters.
abbrev pub in_quarters : Option Signed → Option Signed
in_quarters (Some (Plus n)) = Some (Plus (shift_unit * n))
in_quarters (Some (Minus n)) = Some (Minus (shift_unit * n))
in_quarters None = None

abbrev pub moves_in_quarters : Moves → Moves
moves_in_quarters m = record { vertical = in_quarters m.vertical; horizontal = in_quarters m.horizontal }
