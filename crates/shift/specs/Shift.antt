-- Shifts of the mask: two FL numbers, vertical then horizontal (rule 35, drawing step 4).
use Rattle.std.specs.Prelude.{ℕ, zero, suc, ◌*◌, ◌/◌, ◌%◌, Bool, true, false, cond, ◌&&◌, List, length, ◌==◌, from_bits, nat_le, Float, Option, Some, None}
use Rattle.std.specs.Float.{nan, inf, fin, binary32}
use Rattle.std.specs.Float.Ieee.{up, down}
use Rattle.basics.specs.Bytes.{le32}
use Rattle.value.specs.declared.Signed.{Signed}
use Rattle.value.specs.declared.Signed.TheVariants.{Plus, Minus}
use Rattle.shift.specs.declared.Shift.{Shift}
use Rattle.shift.specs.declared.Shift.TheVariants as shift
use Rattle.shift.specs.declared.Moves.{Moves}

-- The FL number at p, four bytes.
abbrev pub float_at : List ℕ → ℕ → Float
float_at v p = from_bits binary32 (le32 v p)

-- A size with a sign. Minus zero is zero.
abbrev pub signed_size : Bool → ℕ → Option Signed
signed_size false n = Some (Plus n)
signed_size true zero = Some (Plus 0)
signed_size true (suc n) = Some (Minus (suc n))

-- A shift counts quarters of a pixel.
abbrev pub shift_unit : ℕ
shift_unit = 4

-- How many quarters a float is, of any size; NaN, the infinities and other fractions are none. The float `fin s m e` is
-- m × 2^e, that is m × up e / down e, with the sign s.
unfoldable pub quarters_of : Float → Option Signed
quarters_of nan = None
quarters_of (inf s) = None
quarters_of (fin s m e) =
    cond (m * up e * shift_unit % down e == 0) (signed_size s (m * up e * shift_unit / down e)) None

-- The largest number that a shift may have, to either side (local rule); in quarters.
abbrev pub largest_shift : ℕ
largest_shift = 64

abbrev pub largest_move : ℕ
largest_move = shift_unit * largest_shift

-- Up to a size, to either side.
abbrev pub is_within : ℕ → Option Signed → Bool
is_within most (Some (Plus n)) = nat_le n most
is_within most (Some (Minus n)) = nat_le n most
is_within most None = false

abbrev pub is_short : Option Signed → Bool
is_short n = is_within largest_move n

-- ---- No shift, the item's two numbers, or the frame's own two

-- How far a shift moves the mask, down and to the right, by what each of its numbers comes to.
abbrev pub moves_by : (Float → Option Signed) → Shift → Moves
moves_by of shift.None = record { vertical = Some (Plus 0); horizontal = Some (Plus 0) }
moves_by of (shift.Item v h) = record { vertical = of v; horizontal = of h }
moves_by of (shift.Frame v h) = record { vertical = of v; horizontal = of h }

-- In quarters.
unfoldable pub moves_of : Shift → Moves
moves_of s = moves_by quarters_of s

-- Both numbers of a shift are whole quarters and short.
unfoldable pub is_shift_of : Shift → Bool
is_shift_of s = is_short (moves_of s).vertical && is_short (moves_of s).horizontal

-- A value of two FL numbers, as the item's or the frame's own; no shift if it has another length.
unfoldable pub item_shift : List ℕ → Shift
item_shift v = cond (length v == 8) (shift.Item (float_at v 0) (float_at v 4)) shift.None

unfoldable pub frame_shift : List ℕ → Shift
frame_shift v = cond (length v == 8) (shift.Frame (float_at v 0) (float_at v 4)) shift.None

-- Rule 35's form of a value: two numbers from -64 to 64, each a whole multiple of 1/4.
unfoldable pub is_shift : List ℕ → Bool
is_shift v = length v == 8 && is_shift_of (item_shift v)

-- Rule 37's form, for a frame's own numbers: as in rule 35.
unfoldable pub is_frame_shift : List ℕ → Bool
is_frame_shift v = length v == 8 && is_shift_of (frame_shift v)
