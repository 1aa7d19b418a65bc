-- Where judging accepted or found a rule broken, the rows stand in the buffer, since only a data set that was read is judged.
use Rattle.std.specs.Prelude.{Result, Ok, Err}
use mathlib.Core.Path.{◌≡◌, refl, ap}
use mathlib.Core.List.{List}
use Prim.Native.Nat.{ℕ, ◌*◌, ◌≤◌}
use native.Mathlib.Omega.{arith}
use lib.ListN.{length, take}
use Rattle.dataset.specs.Reading.{reading_of}
use Rattle.dataset.specs.Answer.{width, answer_of, buffer_of}
use Rattle.dataset.specs.declared.ReadError.{ReadError}
use Rattle.node.specs.Nodes.{nodes_of}
use Rattle.node.specs.Internal.{Table}
use Rattle.node.proofs.After.{after-reading}
use Rattle.conformance.specs.declared.Finding.{Finding}
use Rattle.conformance.specs.declared.Finding.TheVariants as finding
use Rattle.conformance.specs.declared.Outcome.{Outcome}
use Rattle.conformance.specs.declared.Outcome.TheVariants as outcome
use Rattle.conformance.specs.Judging.{finding_of, answer_for, judge_of, accepted_in, accept_of}

-- Two constructors are never equal: where an equation says so, `cc` finds that 0 is 1.
clash : {A : Type 0} → ◌≡◌ {A = ℕ} 0 1 → A
clash z = absurd (omega arith)

pub accepted-parts : (f : Finding) (r : Result ℕ ReadError) (n : ℕ) → Ok (outcome.Accepted n) ≡ answer_for f r → (Ok n ≡ r) × (f ≡ finding.Accepted)
accepted-parts finding.Accepted (Ok m) n e =
    let q : n ≡ m = cc in
    (ap (λ (k : ℕ). Ok k) q, refl)
accepted-parts (finding.Broken rule frame) (Ok m) n e = clash cc
accepted-parts f (Err r) n e = clash cc

broken-parts : (f : Finding) (r : Result ℕ ReadError) (n rule frame : ℕ) → Ok (outcome.Broken n rule frame) ≡ answer_for f r → Ok n ≡ r
broken-parts finding.Accepted (Ok m) n rule frame e = clash cc
broken-parts (finding.Broken rule' frame') (Ok m) n rule frame e =
    let q : n ≡ m = cc in
    ap (λ (k : ℕ). Ok k) q
broken-parts f (Err r) n rule frame e = clash cc

-- A call that needs an accepted data set is answered a number of rows only where judging accepts it with that number.
pub accepted-in : (a : Result Outcome ReadError) (n : ℕ) → Ok n ≡ accepted_in a → Ok (outcome.Accepted n) ≡ a
accepted-in (Ok (outcome.Accepted m)) n e =
    let q : n ≡ m = cc in
    ap (λ (k : ℕ). Ok (outcome.Accepted k)) q
accepted-in (Ok (outcome.Broken m rule frame)) n e = clash cc
accepted-in (Err r) n e = clash cc

module _ (s before buffer : List ℕ) (n : ℕ) where
  pub after-judging : Ok (outcome.Accepted n) ≡ judge_of s before → buffer ≡ buffer_of (reading_of s) before
      → ((width * n ≤ length buffer) × Table s (take (width * n) buffer)) × (finding_of (nodes_of s) ≡ finding.Accepted)
  unfolding judge_of
  after-judging e f =
      let p = accepted-parts (finding_of (nodes_of s)) (answer_of (reading_of s) before) n e in
      (after-reading s before buffer n p.0 f, p.1)

  pub after-broken : (rule frame : ℕ) → Ok (outcome.Broken n rule frame) ≡ judge_of s before → buffer ≡ buffer_of (reading_of s) before
      → (width * n ≤ length buffer) × Table s (take (width * n) buffer)
  unfolding judge_of
  after-broken rule frame e f =
      after-reading s before buffer n (broken-parts (finding_of (nodes_of s)) (answer_of (reading_of s) before) n rule frame e) f

  -- The same for a call that needs an accepted data set.
  pub after-accepting : Ok n ≡ accept_of s before → buffer ≡ buffer_of (reading_of s) before
      → ((width * n ≤ length buffer) × Table s (take (width * n) buffer)) × (finding_of (nodes_of s) ≡ finding.Accepted)
  after-accepting e f = after-judging (accepted-in (judge_of s before) n e) f
