-- The numbers of every answer of judging fit 32 bits, since it is a possible verdict and has few rows.
use Rattle.std.specs.Prelude.{Result, Ok, Err}
use mathlib.Core.List.{List}
use Prim.Native.Nat.{ℕ, ◌≤◌}
use native.Mathlib.Omega.{arith}
use Rattle.verdict.proofs.Bounds.{Small}
use Rattle.dataset.specs.declared.ReadError.{ReadError}
use Rattle.dataset.specs.Answer as reading
use Rattle.conformance.specs.declared.Outcome.{Outcome}
use Rattle.conformance.specs.declared.Outcome.TheVariants as outcome
use Rattle.conformance.specs.declared.NotAccepted.{NotAccepted}
use Rattle.conformance.specs.Judging.{judge_of, accepted_in, accept_of, verdict_of, fields_of, refusal_fields}
use Rattle.conformance.proofs.Possible.{judge-small, judge-rows}
use Rattle.c_answers.specs.Internal.{Fits32}

judged-fits : (a : Result Outcome ReadError) → Small (verdict_of a) → (fields_of a).rows ≤ 134217728 → Fits32 (fields_of a)
judged-fits a m h =
    record {
      code = omega (arith, m.code);
      offset = omega (arith, m.offset);
      rows = omega arith;
      rule = omega (arith, m.rule);
      frame = omega (arith, m.frame);
    }

pub judge-fits : (s buffer : List ℕ) → Fits32 (fields_of (judge_of s buffer))
judge-fits s buffer = judged-fits (judge_of s buffer) (judge-small s buffer) (judge-rows s buffer)

-- The same for the calls that need an accepted data set.
abbrev pub AcceptFits : Result ℕ NotAccepted → Type 0
AcceptFits (Ok n) = Fits32 (reading.fields_of (Ok n))
AcceptFits (Err e) = Fits32 (refusal_fields e)

pub accept-fits : (s buffer : List ℕ) → AcceptFits (accept_of s buffer)
accept-fits s buffer = go (judge_of s buffer) (judge-fits s buffer)
  where
    go : (a : Result Outcome ReadError) → Fits32 (fields_of a) → AcceptFits (accepted_in a)
    go (Ok (outcome.Accepted n)) h = h
    go (Ok (outcome.Broken n rule frame)) h = h
    go (Err e) h = h
