-- Demand 2: the answer of `judge` is the finding on the nodes with the number of rows, where there is room for them. What a finding
-- means is from First, that every answer can be written from Possible, and that what is written is read back from `Rattle.slip`.
use Rattle.std.specs.Prelude.{Result, Ok, Err}
use mathlib.Core.Path.{◌≡◌, refl, sym, ap, ◌∙◌}
use mathlib.Core.List.{List, ◌++◌}
use mathlib.Core.Logic.{inl, inr}
use Prim.Native.Nat.{ℕ, ◌*◌, ◌≤◌}
use native.Mathlib.Omega.{arith}
use borrow.Author.Tests.{le-leb}
use lib.ListN.{length, drop}
use Rattle.dataset.specs.Reading.{reading_of, read}
use Rattle.dataset.specs.declared.Row.{Row}
use Rattle.dataset.specs.Answer.{width, flat, buffer_of}
use Rattle.node.specs.Nodes.{nodes_of}
use Rattle.slip.proofs.Slips.{slips}
use Rattle.dataset.specs.declared.ReadError.{ReadError}
use Rattle.conformance.specs.declared.Outcome.{Outcome}
use Rattle.conformance.specs.declared.Finding.{Finding}
use Rattle.conformance.specs.declared.Finding.TheVariants as finding
use Rattle.conformance.specs.declared.Outcome.TheVariants as outcome
use Rattle.conformance.specs.Judging.{finding_of, with_rows, judge_of, fields_of}
use Rattle.conformance.specs.Demand2.{Judged, Demand2}
use Rattle.conformance.proofs.First.{accepted-holds, holds-accepted, broken-first}
use Rattle.conformance.proofs.Possible.{judge-possible}

module _ (s buffer : List ℕ) (rows : List Row) (reads : reading_of s ≡ read rows) (room : width * length rows ≤ length buffer) where
  answer-is : judge_of s buffer ≡ Ok (with_rows (length rows) (finding_of (nodes_of s)))
  unfolding judge_of
  answer-is = rw (reads, le-leb (width * length rows) (length buffer) room)

  after : buffer_of (reading_of s) buffer ≡ flat rows ++ drop (width * length rows) buffer
  after = rw (reads, le-leb (width * length rows) (length buffer) room)

  by-finding : (f : Finding) → finding_of (nodes_of s) ≡ f → Judged s buffer rows
  by-finding finding.Accepted q =
      let a : judge_of s buffer ≡ Ok (outcome.Accepted (length rows)) = answer-is ∙ ap (λ (g : Finding). Ok (with_rows (length rows) g)) q in
      record {
        accepted = λ z. accepted-holds (nodes_of s) q;
        sound = λ z. ap (λ (x : Result Outcome ReadError). (fields_of x).code) a;
        otherwise = inl (ap (λ (x : Result Outcome ReadError). (fields_of x).code) a);
        count = ap (λ (x : Result Outcome ReadError). (fields_of x).rows) a;
        after = after;
      }
  by-finding (finding.Broken rule frame) q =
      let a : judge_of s buffer ≡ Ok (outcome.Broken (length rows) rule frame) = answer-is ∙ ap (λ (g : Finding). Ok (with_rows (length rows) g)) q in
      let nine : (fields_of (judge_of s buffer)).code ≡ 9 = ap (λ (x : Result Outcome ReadError). (fields_of x).code) a in
      record {
        accepted = λ z. absurd (omega (arith, nine, z));
        sound = λ w. clash (sym (holds-accepted (nodes_of s) w) ∙ q);
        otherwise = inr (nine, rw a (broken-first (nodes_of s) rule frame q));
        count = ap (λ (x : Result Outcome ReadError). (fields_of x).rows) a;
        after = after;
      }
    where
      clash : finding.Accepted ≡ finding.Broken rule frame → (fields_of (judge_of s buffer)).code ≡ 0
      clash e = let z : ◌≡◌ {A = ℕ} 0 1 = cc in absurd (omega arith)

pub demand-2 : Demand2
demand-2 =
    record {
      judged = λ s buffer rows e h. by-finding s buffer rows e h (finding_of (nodes_of s)) refl;
      recorded = judge-possible;
      read_back = slips.read_back;
    }
