-- Verdicts (document 01, "A slip records a verdict"; document 02, Q-13, "a verdict has the row count from now on"): which rules exist,
-- which of them are asked at each frame, and which verdicts are possible.
use Rattle.std.specs.Prelude.{ℕ, Bool, true, false, cond, ◌&&◌, ◌||◌, eqb, leb, Option, Some, None}
use Rattle.basics.specs.Limits.{largest, most_rows, last_frame}
use Rattle.verdict.specs.declared.Verdict.{Verdict}

-- The number of the last rule.
abbrev pub last_rule : ℕ
last_rule = 39

-- The largest offset of a refusal: the size limit.
abbrev pub last_offset : ℕ
last_offset = largest

-- The rules that are asked at each frame: 27 to 30, 37 and 39.
unfoldable pub per_frame : ℕ → Bool
per_frame rule = (leb 27 rule && leb rule 30) || (eqb rule 37 || eqb rule 39)

-- The frame that goes with a broken rule: 1 to 65,535 for a rule that is asked at each frame, else 0.
unfoldable pub frame_fits : ℕ → ℕ → Bool
frame_fits rule frame = cond (per_frame rule) (leb 1 frame && leb frame last_frame) (eqb frame 0)

-- Rule, frame and offset are 0.
abbrev pub alone : Verdict → Bool
alone v = eqb v.rule 0 && (eqb v.frame 0 && eqb v.offset 0)

-- Code 0, 7 or 8, rest 0.
abbrev pub possible_plain : Verdict → Bool
possible_plain v = (eqb v.code 0 || (eqb v.code 7 || eqb v.code 8)) && alone v

-- Codes 1 to 6 with an offset up to 1,073,741,824, rest 0.
abbrev pub possible_refusal : Verdict → Bool
possible_refusal v = (leb 1 v.code && leb v.code 6) && ((eqb v.rule 0 && eqb v.frame 0) && leb v.offset last_offset)

-- Code 9 with a rule from 1 to the last, its frame, and offset 0.
abbrev pub possible_breach : Verdict → Bool
possible_breach v = eqb v.code 9 && ((leb 1 v.rule && leb v.rule last_rule) && (frame_fits v.rule v.frame && eqb v.offset 0))

-- Code, rule, frame and offset fit together: one list, for slips of both versions.
unfoldable pub fields_fit : Verdict → Bool
fields_fit v = possible_plain v || (possible_refusal v || possible_breach v)

-- The number of rows that goes with a code: up to 134,217,728 for codes 0 and 9, else 0.
unfoldable pub count_fits : ℕ → ℕ → Bool
count_fits code n = cond (eqb code 0 || eqb code 9) (leb n most_rows) (eqb n 0)

-- A count that is not known goes with every code.
abbrev pub rows_fit : ℕ → Option ℕ → Bool
rows_fit code (Some n) = count_fits code n
rows_fit code None = true

unfoldable pub possible : Verdict → Bool
possible v = fields_fit v && rows_fit v.code v.rows

abbrev pub is_known : Option ℕ → Bool
is_known (Some n) = true
is_known None = false

-- What a slip can record: a possible verdict whose row count is known.
unfoldable pub writable : Verdict → Bool
writable v = possible v && is_known v.rows

-- The same verdict with a row count that is not known.
abbrev pub without_count : Verdict → Verdict
without_count v = record { code = v.code; rule = v.rule; frame = v.frame; offset = v.offset; rows = None }
