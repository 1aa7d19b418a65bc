-- What a host hands over for a slip, and what it is handed of one.
use Rattle.std.specs.Prelude.{ℕ, cond, eqb, Option, Some, None}
use Rattle.basics.specs.Fields.{code_alone}
use Rattle.verdict.specs.declared.Verdict.{Verdict}
use Rattle.slip.specs.Slip.{SlipFields}
use Rattle.c_answers.specs.declared.Answer.{Answer}
use Rattle.c_answers.specs.Host.{hosted}
use Rattle.c_slips.specs.declared.Slip.{Slip}

-- The row count that a host hands over: any flag but 0 says that it is known.
abbrev pub count_in : ℕ → ℕ → Option ℕ
count_in flag rows = cond (eqb flag 0) None (Some rows)

-- The verdict that an answer holds; whether it was masked and the sum of its searches play no part.
unfoldable pub verdict_in : Answer → ℕ → Verdict
verdict_in a flag = record { code = a.code; rule = a.rule; frame = a.frame; offset = a.offset; rows = count_in flag a.rows }

-- The row count that a host is handed: 1 and the number, or 0 and a number that no verdict has.
abbrev pub known_number : Option ℕ → ℕ
known_number (Some n) = 1
known_number None = 0

abbrev pub rows_number : Option ℕ → ℕ
rows_number (Some n) = n
rows_number None = 0xFFFFFFFF

-- A verdict as an answer.
abbrev pub verdict_answer : Verdict → Answer
verdict_answer v = record {
  code = v.code;
  offset = v.offset;
  rows = rows_number v.rows;
  rule = v.rule;
  frame = v.frame;
  masked = 0;
  searches = 0;
}

-- The answer of reading a slip: 0 and the verdict, or the refusal's code, all else being 0.
abbrev pub hosted_slip_by : ℕ → Option Verdict → Slip
hosted_slip_by code (Some v) = record { code = code; known = known_number v.rows; verdict = verdict_answer v }
hosted_slip_by code None = record { code = code; known = 0; verdict = hosted (code_alone 0) }

abbrev pub hosted_slip : SlipFields → Slip
hosted_slip a = hosted_slip_by a.code a.verdict
