-- The slips that were written before Q-13, when a verdict had no row count. They are no longer written; the definition of their bytes
-- stays here so that `Slips` can say how those that clinics keep are read.
use Rattle.std.specs.Prelude.{ℕ, List}
use Rattle.verdict.specs.declared.Verdict.{Verdict}
use Rattle.slip.specs.Slip.{old_version, field_bytes}

-- The 13 bytes that version 1 wrote for a verdict: its code, rule, frame and offset.
abbrev pub old_slip_of : Verdict → List ℕ
old_slip_of v = field_bytes old_version v
