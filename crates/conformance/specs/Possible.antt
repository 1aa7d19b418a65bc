-- Every answer of `judge` is a possible verdict, and its row count is known. So each can be written on a slip.
use Rattle.std.specs.Prelude.{◌≡◌, true, List, ℕ}
use Rattle.verdict.specs.Verdict.{writable}
use Rattle.conformance.specs.Judging.{judge_of, verdict_of}

-- For every data set and every row buffer.
abbrev pub JudgePossible : Type 0
JudgePossible = (s buffer : List ℕ) → writable (verdict_of (judge_of s buffer)) ≡ true
