-- Verdict slips (document 01, "A slip records a verdict"; document 02, Q-13): the bytes of a slip, and what reading and
-- writing one answer. Slips of version 2 are written; those of versions 1 and 2 are read.
use Rattle.std.specs.Prelude.{ℕ, cond, not, ◌&&◌, List, [], ◌∷◌, ◌++◌, length, take, drop, eqb, leb, Option, Some, None, Result, Ok, Err}
use Rattle.basics.specs.Bytes.{same_bytes, le_number, le}
use Rattle.basics.specs.Fields.{Fields, code_alone}
use Rattle.verdict.specs.Verdict.{possible, writable}
use Rattle.verdict.specs.declared.Verdict.{Verdict}
use Rattle.slip.specs.declared.SlipError.{SlipError}
use Rattle.slip.specs.declared.SlipError.TheVariants as error

-- ---- The layout: "XAV", version (16 bits), code (8), rule (8), frame (16), offset (32); in version 2 also the row count
-- (32); little-endian

abbrev pub mark : List ℕ
mark = 0x58 ∷ 0x41 ∷ 0x56 ∷ []

-- The version that is written, and the one that is only read.
abbrev pub version : ℕ
version = 2

abbrev pub old_version : ℕ
old_version = 1

-- The offset of each field, and how long a slip of each version is. The mark is what comes before the version.
abbrev pub version_place : ℕ
version_place = 3

abbrev pub code_place : ℕ
code_place = 5

abbrev pub rule_place : ℕ
rule_place = 6

abbrev pub frame_place : ℕ
frame_place = 7

abbrev pub offset_place : ℕ
offset_place = 9

abbrev pub rows_place : ℕ
rows_place = 13

abbrev pub old_size : ℕ
old_size = 13

abbrev pub slip_size : ℕ
slip_size = 17

-- The bytes that slips of both versions have, each with its own version number.
unfoldable pub field_bytes : ℕ → Verdict → List ℕ
field_bytes k v = mark ++ (le 2 k ++ (le 1 v.code ++ (le 1 v.rule ++ (le 2 v.frame ++ le 4 v.offset))))

-- The bytes of a verdict's slip with n rows.
unfoldable pub slip_with : Verdict → ℕ → List ℕ
slip_with v n = field_bytes version v ++ le 4 n

-- The bytes of a verdict's slip. A verdict with an unknown row count has no slip.
abbrev pub slip_by : Verdict → Option ℕ → List ℕ
slip_by v (Some n) = slip_with v n
slip_by v None = []

abbrev pub slip_of : Verdict → List ℕ
slip_of v = slip_by v v.rows

-- ---- Refusals

-- The paper's number of each.
abbrev pub code_of : SlipError → ℕ
code_of error.NoRoom = 11
code_of error.NoSlip = 12
code_of error.OtherVersion = 13
code_of error.NotPossible = 14

-- ---- Reading: 12 for fewer than 5 bytes or a wrong mark; 13; 12 where the length is not the version's; 14

-- Mark and version.
abbrev pub opening_size : ℕ
opening_size = 5

-- The verdict that a slip's fields record, unchecked, with a row count.
abbrev pub recorded : List ℕ → Option ℕ → Verdict
recorded s rows = record {
  code = le_number 1 s code_place;
  rule = le_number 1 s rule_place;
  frame = le_number 2 s frame_place;
  offset = le_number 4 s offset_place;
  rows = rows;
}

unfoldable pub if_possible : Verdict → Result Verdict SlipError
if_possible v = cond (not (possible v)) (Err error.NotPossible) (Ok v)

-- A slip of a version whose slips have `size` bytes.
unfoldable pub read_sized : ℕ → Option ℕ → List ℕ → Result Verdict SlipError
read_sized size rows s = cond (not (eqb (length s) size)) (Err error.NoSlip) (if_possible (recorded s rows))

-- Version 1 does not record the row count.
unfoldable pub read_version : ℕ → List ℕ → Result Verdict SlipError
read_version k s =
    cond (eqb k old_version) (read_sized old_size None s)
    (cond (eqb k version) (read_sized slip_size (Some (le_number 4 s rows_place)) s)
    (Err error.OtherVersion))

unfoldable pub read_of : List ℕ → Result Verdict SlipError
read_of s =
    cond (not (leb opening_size (length s) && same_bytes (take version_place s) mark)) (Err error.NoSlip)
    (read_version (le_number 2 s version_place) s)

-- The paper's numbers for each case: the code, and with code 0 the verdict read.
pub record SlipFields : Type 0 where
  pub code : ℕ
  pub verdict : Option Verdict

abbrev pub read_slip_fields : Result Verdict SlipError → SlipFields
read_slip_fields (Ok v) = record { code = 0; verdict = Some v }
read_slip_fields (Err e) = record { code = code_of e; verdict = None }

-- ---- Writing: 14, for a count that is not known too; then 11

unfoldable pub write_of : Verdict → List ℕ → Result (Unit {0}) SlipError
write_of v buffer =
    cond (not (writable v)) (Err error.NotPossible)
    (cond (not (leb slip_size (length buffer))) (Err error.NoRoom)
    (Ok tt))

-- The buffer afterwards: the slip, and untouched beyond it; untouched by a refusal.
unfoldable pub slip_buffer : Verdict → List ℕ → List ℕ
slip_buffer v buffer = cond (writable v && leb slip_size (length buffer)) (slip_of v ++ drop slip_size buffer) buffer

-- The paper's numbers for each case: the code alone.
abbrev pub write_slip_fields : Result (Unit {0}) SlipError → Fields
write_slip_fields (Ok done) = code_alone 0
write_slip_fields (Err e) = code_alone (code_of e)
