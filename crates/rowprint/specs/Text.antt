-- What is printed of a reading, in ASCII: how a row begins, its tag and its VR; and the line of a refusal.
use Rattle.std.specs.Prelude.{ℕ, ◌+◌, ◌/◌, ◌%◌, List, [], ◌∷◌, cond, ltb, eqb}
use Rattle.dataset.specs.Fault.{code_of}
use Rattle.dataset.specs.declared.ReadError.{ReadError}
use Rattle.dataset.specs.declared.ReadError.TheVariants.{Refused, TooLarge, NoRoom}
use Rattle.printing.specs.Lines.{code_line, unread_line}

-- The last hexadecimal digit of a number, in upper case.
abbrev pub hex_digit : ℕ → ℕ
hex_digit n = cond (ltb (n % 16) 10) (48 + n % 16) (55 + n % 16)

-- A letter of the VR: a hyphen for an item, which has none.
abbrev pub letter : ℕ → ℕ → ℕ
letter vr half = cond (eqb vr 0) 45 (half % 256)

-- Eight digits, a space, two letters.
abbrev pub heading : ℕ → ℕ → List ℕ
heading tag vr =
    hex_digit (tag / 268435456)
    ∷ hex_digit (tag / 16777216)
    ∷ hex_digit (tag / 1048576)
    ∷ hex_digit (tag / 65536)
    ∷ hex_digit (tag / 4096)
    ∷ hex_digit (tag / 256)
    ∷ hex_digit (tag / 16)
    ∷ hex_digit tag
    ∷ 32
    ∷ letter vr (vr / 256)
    ∷ letter vr vr
    ∷ []

-- Why a data set was not read: code and offset, or the code alone.
abbrev pub error_line : ReadError → List ℕ
error_line (Refused r) = unread_line (code_of r.fault) r.offset
error_line TooLarge = code_line 7
error_line NoRoom = code_line 8
