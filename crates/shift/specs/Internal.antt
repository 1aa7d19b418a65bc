-- What contracts need beside the definitions of a shift: the size of a float without its sign, and bounds of the moves.
use Rattle.std.specs.Prelude.{ℕ, ◌+◌, ◌*◌, ◌/◌, ◌%◌, cond, ◌&&◌, ◌==◌, nat_le, Float, Option, Some, None}
use Rattle.std.specs.Float.{nan, inf, fin}
use Rattle.std.specs.Float.Ieee.{up, down}
use Rattle.value.specs.declared.Signed.{Signed}
use Rattle.value.specs.declared.Signed.TheVariants as signed
use Rattle.value.specs.Internal.{SizeBelow}
use Rattle.shift.specs.declared.Shift.{Shift}
use Rattle.shift.specs.declared.Moves.{Moves}
use Rattle.shift.specs.Shift.{shift_unit, quarters_of, largest_move, is_short, moves_by}

-- The fraction n / d as a whole number up to l.
abbrev pub whole_up_to : ℕ → ℕ → ℕ → Option ℕ
whole_up_to l n d = cond (nat_le (n / d) l && n % d == 0) (Some (n / d)) None

-- The quarters of a float without its sign, if they are whole and short.
unfoldable pub short_size : Float → Option ℕ
short_size nan = None
short_size (inf s) = None
short_size (fin s m e) = whole_up_to largest_move (m * up e * shift_unit) (down e)

-- Whole quarters, where they are short; and how far a shift then moves the mask.
unfoldable pub short_of : Float → Option Signed
short_of x = cond (is_short (quarters_of x)) (quarters_of x) None

unfoldable pub short_moves_of : Shift → Moves
short_moves_of s = moves_by short_of s

-- The least size that no move has, in quarters.
abbrev pub too_far : ℕ
too_far = largest_move + 1

-- Short moves, in quarters.
pub record ShortMoves (m : Moves) : Type 0 where
  pub vertical : SizeBelow too_far m.vertical
  pub horizontal : SizeBelow too_far m.horizontal
