-- Whole shifts and quarters agree. Take any value that was a shift before quarters came: two FL numbers, each whole, from -64 to 64. It
-- is still a shift, and moves the mask by the same distance: each of its two numbers, whether the mask item's or the frame's own, counts
-- four times as many quarters, with the same sign (`AgreeShifts`). For two whole numbers of any size the form of rule 35 says what it said
-- before: both take 64 and refuse 65 (`AgreeRule`). The drawing steps have no limit, so the distance is also the same for two whole
-- numbers of any size (`AgreeBeyond`). Proved in proofs/Agree; specs/Whole has what a shift was before.
use Rattle.std.specs.Prelude.{◌≡◌, ℕ, true, List}
use Rattle.value.specs.Number.{is_number}
use Rattle.shift.specs.declared.Shift.{Shift}
use Rattle.shift.specs.Shift.{moves_of, item_shift, frame_shift, is_shift}
use Rattle.shift.specs.Whole.{whole_moves_of, is_whole_shift, moves_in_quarters}

-- The shift moves by what its whole numbers say.
abbrev pub SameMoves : Shift → Type 0
SameMoves s = moves_of s ≡ moves_in_quarters (whole_moves_of s)

pub record StillShift (v : List ℕ) : Type 0 where
  pub is : is_shift v ≡ true
  pub item : SameMoves (item_shift v)
  pub frame : SameMoves (frame_shift v)

abbrev pub AgreeShifts : Type 0
AgreeShifts = (v : List ℕ) → is_whole_shift v ≡ true → StillShift v

abbrev pub AgreeRule : Type 0
AgreeRule =
    (v : List ℕ) → is_number (whole_moves_of (item_shift v)).vertical ≡ true → is_number (whole_moves_of (item_shift v)).horizontal ≡ true
    → is_shift v ≡ is_whole_shift v

abbrev pub AgreeBeyond : Type 0
AgreeBeyond =
    (s : Shift) → is_number (whole_moves_of s).vertical ≡ true → is_number (whole_moves_of s).horizontal ≡ true → SameMoves s
