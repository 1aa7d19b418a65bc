-- Every answer of the judge is a possible verdict. A refusal's numbers are small, and a data set has few rows. A broken
-- rule's frame is 0 where the rule is asked once; else it is 1 to N, and N is at most 65,535, since rule 15 stands before
-- every rule that is asked at each frame and holds where a later one is named.
use Rattle.std.specs.Prelude.{Option, Some, None}
use Rattle.std.specs.Prelude.{Result, Ok, Err}
use mathlib.Core.Path.{◌≡◌, refl}
use mathlib.Core.Bool.{Bool, true, false, cond, ◌&&◌, ◌||◌}
use mathlib.Core.List.{List}
use mathlib.Core.Logic.{⊎_elim}
use Prim.Native.Nat.{ℕ, ◌+◌, ◌≤◌, ◌<◌}
use native.Mathlib.Omega.{arith}
use borrow.Author.Tests.{eq-eqb, ne_eqb, eqb-true, leb-true, le-leb}
use lib.Dec.{eqb, leb}
use Rattle.value.specs.Number.{number_or0}
use Rattle.dataset.specs.Fault.{refusal}
use Rattle.dataset.specs.declared.Fault.{Fault}
use Rattle.dataset.specs.declared.Fault.TheVariants.{CutShort, NotAscending, UnlistedVr, OddLength, NotDue, TooDeep}
use Rattle.dataset.specs.declared.ReadError.{ReadError}
use Rattle.dataset.specs.declared.ReadError.TheVariants as error
use Rattle.dataset.specs.Reading.{reading_of}
use Rattle.dataset.specs.Answer.{answer_of}
use Rattle.dataset.proofs.Laws.{answer-small, Small as SmallAnswer}
use Rattle.basics.specs.Limits.{most_rows, largest, last_frame}
use Rattle.verdict.specs.Verdict.{last_rule, per_frame, frame_fits, fields_fit, count_fits, possible, writable}
use Rattle.basics.proofs.Tests.{false-is-true, and_both, or-either}
use Rattle.verdict.proofs.Bounds.{Small, possible-small}
use Rattle.node.specs.Nodes.{Node, nodes_of}
use Rattle.node.specs.Find.{holds}
use Rattle.element.specs.Frames.{frames_of}
use Rattle.rules.specs.Root.{rule15}
use Rattle.rules.specs.All.{rule_list, rule_at}
use Rattle.conformance.specs.declared.Finding.{Finding}
use Rattle.conformance.specs.declared.Finding.TheVariants as finding
use Rattle.conformance.specs.Judging.{first_frame, frame_count, finding_of, answer_for, judge_of, fields_of, verdict_of}
use Rattle.conformance.specs.Possible.{JudgePossible}
use Rattle.conformance.specs.Demand2.{Holds, Broke}
use Rattle.conformance.proofs.First.{broken-first}

-- ---- The frame of a broken rule

-- Where rule 15 holds, there are at most 65,535 frames.
few-frames : (o : Option ℕ) → holds o (λ n. leb 1 n && leb n last_frame) ≡ true → number_or0 o ≤ last_frame
few-frames None e = absurd (false-is-true e)
few-frames (Some n) e = leb-true n last_frame (and_both (leb 1 n) (leb n last_frame) e).1

rule15-few : (ns : List Node) → Holds ns 15 → number_or0 (frames_of ns) ≤ last_frame
unfolding first_frame frame_count per_frame rule_at rule_list rule15
rule15-few ns h = few-frames (frames_of ns) (h 0 (omega arith) (omega arith))

-- The rules that are asked at each frame come after rule 15.
is-per-frame-late : (rule : ℕ) → per_frame rule ≡ true → 27 ≤ rule
unfolding per_frame
is-per-frame-late rule e =
    ⊎_elim (λ a. leb-true 27 rule (and_both (leb 27 rule) (leb rule 30) a).0) (λ b.
    ⊎_elim (λ d. omega (arith, eqb-true rule 37 d)) (λ d. omega (arith, eqb-true rule 39 d)) (or-either (eqb rule 37) (eqb rule 39) b))
    (or-either (leb 27 rule && leb rule 30) (eqb rule 37 || eqb rule 39) e)

frame-fits : (ns : List Node) (rule frame : ℕ) → Broke ns rule frame → frame_fits rule frame ≡ true
unfolding frame_fits first_frame frame_count
frame-fits ns rule frame b = go (per_frame rule) refl b.from b.below
  where
    go : (t : Bool) → per_frame rule ≡ t → cond t 1 0 ≤ frame → frame < cond t 1 0 + cond t (number_or0 (frames_of ns)) 1
        → cond t (leb 1 frame && leb frame last_frame) (eqb frame 0) ≡ true
    go true e low high =
        let late = is-per-frame-late rule e in
        let few = rule15-few ns (b.earlier 15 (omega arith) (omega (arith, late))) in
        rw (le-leb 1 frame low, le-leb frame last_frame (omega (arith, few)))
    go false e low high = eq-eqb frame 0 (omega arith)

-- ---- The verdict of an answer

-- A finding's rule is one of the list, and its frame goes with it.
abbrev Fits : Finding → Type 0
Fits finding.Accepted = Unit {0}
Fits (finding.Broken rule frame) = (1 ≤ rule) × ((rule ≤ last_rule) × (frame_fits rule frame ≡ true))

finding-fits : (ns : List Node) (f : Finding) → finding_of ns ≡ f → Fits f
finding-fits ns finding.Accepted e = tt
finding-fits ns (finding.Broken rule frame) e =
    let b = broken-first ns rule frame e in
    (b.low, (b.high, frame-fits ns rule frame b))

-- Each fault has one of the codes 1 to 6.
refused-possible : (fault : Fault) (offset : ℕ) → offset ≤ largest → possible (verdict_of (Err (error.Refused (refusal fault offset)))) ≡ true
unfolding possible fields_fit count_fits
refused-possible CutShort offset h = rw (le-leb offset largest h)
refused-possible NotAscending offset h = rw (le-leb offset largest h)
refused-possible UnlistedVr offset h = rw (le-leb offset largest h)
refused-possible OddLength offset h = rw (le-leb offset largest h)
refused-possible NotDue offset h = rw (le-leb offset largest h)
refused-possible TooDeep offset h = rw (le-leb offset largest h)

answer-possible : (f : Finding) (a : Result ℕ ReadError) → Fits f → SmallAnswer a → possible (verdict_of (answer_for f a)) ≡ true
unfolding possible fields_fit count_fits
answer-possible finding.Accepted (Ok n) w h = le-leb n most_rows h
answer-possible (finding.Broken rule frame) (Ok n) w h =
    rw (le-leb 1 rule w.0, le-leb rule last_rule w.1.0, w.1.1, le-leb n most_rows h)
answer-possible f (Err (error.Refused r)) w h = refused-possible r.fault r.offset h.1.1
answer-possible f (Err error.TooLarge) w h = refl
answer-possible f (Err error.NoRoom) w h = refl

possible-answer : (s buffer : List ℕ) → possible (verdict_of (judge_of s buffer)) ≡ true
unfolding judge_of
possible-answer s buffer =
    answer-possible (finding_of (nodes_of s)) (answer_of (reading_of s) buffer) (finding-fits (nodes_of s) (finding_of (nodes_of s)) refl)
    (answer-small s buffer)

-- The claim.
pub judge-possible : JudgePossible
unfolding writable
judge-possible s buffer = rw (possible-answer s buffer)

-- ---- The numbers of an answer are small

pub judge-small : (s buffer : List ℕ) → Small (verdict_of (judge_of s buffer))
judge-small s buffer = possible-small (verdict_of (judge_of s buffer)) (possible-answer s buffer)

rows_few : (f : Finding) (a : Result ℕ ReadError) → SmallAnswer a → (fields_of (answer_for f a)).rows ≤ most_rows
rows_few finding.Accepted (Ok n) h = h
rows_few (finding.Broken rule frame) (Ok n) h = h
rows_few f (Err (error.Refused r)) h = omega arith
rows_few f (Err error.TooLarge) h = omega arith
rows_few f (Err error.NoRoom) h = omega arith

pub judge-rows : (s buffer : List ℕ) → (fields_of (judge_of s buffer)).rows ≤ most_rows
unfolding judge_of
judge-rows s buffer = rows_few (finding_of (nodes_of s)) (answer_of (reading_of s) buffer) (answer-small s buffer)
