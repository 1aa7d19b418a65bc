-- Judging (document 01, "The judge names the first broken rule, and at that rule the lowest frame"), what `judge` answers
-- and what its row buffer then holds.
use Rattle.std.specs.Prelude.{ℕ, zero, suc, ◌+◌, List, cond, Some, Result, Ok, Err}
use Rattle.value.specs.Number.{number_or0}
use Rattle.dataset.specs.Reading.{reading_of}
use Rattle.basics.specs.Fields.{Fields, counted, broken}
use Rattle.dataset.specs.Answer.{answer_of, error_fields}
use Rattle.dataset.specs.declared.ReadError.{ReadError}
use Rattle.verdict.specs.Verdict.{last_rule, per_frame}
use Rattle.verdict.specs.declared.Verdict.{Verdict}
use Rattle.node.specs.Nodes.{Node, nodes_of}
use Rattle.element.specs.Frames.{frames_of}
use Rattle.rules.specs.All.{rule_at}
use Rattle.conformance.specs.declared.Finding.{Finding}
use Rattle.conformance.specs.declared.Finding.TheVariants as finding
use Rattle.conformance.specs.declared.Outcome.{Outcome}
use Rattle.conformance.specs.declared.Outcome.TheVariants as outcome
use Rattle.conformance.specs.declared.NotAccepted.{NotAccepted}
use Rattle.conformance.specs.declared.NotAccepted.TheVariants as not_accepted

-- ---- The first broken rule, and at that rule the lowest frame

-- A rule that is asked at each frame is asked at frames 1 to N, any other once, at frame 0.
unfoldable pub first_frame : ℕ → ℕ
first_frame rule = cond (per_frame rule) 1 0

unfoldable pub frame_count : List Node → ℕ → ℕ
frame_count ns rule = cond (per_frame rule) (number_or0 (frames_of ns)) 1

-- At `left` frames from f on: the lowest at which the rule is broken; `otherwise` if there is none.
unfoldable pub lowest : List Node → ℕ → ℕ → ℕ → Finding → Finding
lowest ns rule zero f otherwise = otherwise
lowest ns rule (suc left) f otherwise =
    cond (rule_at ns rule f) (lowest ns rule left (f + 1) otherwise) (finding.Broken rule f)

-- Among `left` rules from `rule` on: the first that is broken.
unfoldable pub first_broken : List Node → ℕ → ℕ → Finding
first_broken ns zero rule = finding.Accepted
first_broken ns (suc left) rule =
    lowest ns rule (frame_count ns rule) (first_frame rule) (first_broken ns left (rule + 1))

-- The finding on a data set's nodes.
abbrev pub finding_of : List Node → Finding
finding_of ns = first_broken ns last_rule 1

-- ---- The answer: as reading for codes 1 to 8; 0 accepted; 9 a rule broken

abbrev pub with_rows : ℕ → Finding → Outcome
with_rows n finding.Accepted = outcome.Accepted n
with_rows n (finding.Broken rule frame) = outcome.Broken n rule frame

abbrev pub answer_for : Finding → Result ℕ ReadError → Result Outcome ReadError
answer_for f (Ok n) = Ok (with_rows n f)
answer_for f (Err e) = Err e

unfoldable pub judge_of : List ℕ → List ℕ → Result Outcome ReadError
judge_of s buffer = answer_for (finding_of (nodes_of s)) (answer_of (reading_of s) buffer)

-- The paper's numbers for each case.
abbrev pub fields_of : Result Outcome ReadError → Fields
fields_of (Ok (outcome.Accepted n)) = counted n
fields_of (Ok (outcome.Broken n rule frame)) = broken n rule frame
fields_of (Err e) = error_fields e

-- For calls that need an accepted data set: its number of rows, or why it is not accepted.
abbrev pub accepted_in : Result Outcome ReadError → Result ℕ NotAccepted
accepted_in (Ok (outcome.Accepted n)) = Ok n
accepted_in (Ok (outcome.Broken n rule frame)) = Err (not_accepted.Broken n rule frame)
accepted_in (Err e) = Err (not_accepted.Unread e)

abbrev pub accept_of : List ℕ → List ℕ → Result ℕ NotAccepted
accept_of s buffer = accepted_in (judge_of s buffer)

abbrev pub refusal_fields : NotAccepted → Fields
refusal_fields (not_accepted.Unread e) = error_fields e
refusal_fields (not_accepted.Broken n rule frame) = broken n rule frame

-- The verdict of an answer, with its row count.
abbrev pub verdict_of : Result Outcome ReadError → Verdict
verdict_of a = record {
  code = (fields_of a).code;
  rule = (fields_of a).rule;
  frame = (fields_of a).frame;
  offset = (fields_of a).offset;
  rows = Some (fields_of a).rows;
}
