-- What `judge` reports about its searches (document 02, Q-11): their sum with code 0, and 0 with every other answer.
use Rattle.std.specs.Prelude.{ℕ, List, Result, Ok, Err}
use Rattle.basics.specs.Fields.{Fields}
use Rattle.node.specs.Nodes.{nodes_of}
use Rattle.dataset.specs.declared.ReadError.{ReadError}
use Rattle.conformance.specs.declared.Outcome.{Outcome}
use Rattle.conformance.specs.declared.Outcome.TheVariants as outcome
use Rattle.conformance.specs.Judging as judging
use Rattle.conformance.specs.Judging.{judge_of}
use Rattle.searches.specs.declared.Counted.{Counted}
use Rattle.searches.specs.Searches.{searches_of}

abbrev pub if_accepted : ℕ → Result Outcome ReadError → ℕ
if_accepted sum (Ok (outcome.Accepted n)) = sum
if_accepted sum (Ok (outcome.Broken n rule frame)) = 0
if_accepted sum (Err e) = 0

unfoldable pub reported_of : List ℕ → List ℕ → ℕ
reported_of s buffer = if_accepted (searches_of (nodes_of s)) (judge_of s buffer)

-- What `judge_counted` answers.
abbrev pub counted_of : List ℕ → List ℕ → Counted
counted_of s buffer = record { answer = judge_of s buffer; searches = reported_of s buffer }

-- The paper's numbers for each case: those of the answer, and the sum.
pub record Reported : Type 0 where
  pub answer : Fields
  pub searches : ℕ

abbrev pub fields_of : Counted → Reported
fields_of r = record { answer = judging.fields_of r.answer; searches = r.searches }
