-- A rule is broken only where the data set was read, so that its rows stand in the buffer; any other answer has no row. And the buffer is
-- large enough for every row, so the answer is the one that the program prints.
use Rattle.std.specs.Prelude.{Result, Ok}
use mathlib.Core.Path.{◌≡◌, sym, ap, ◌∙◌}
use mathlib.Core.List.{List}
use Prim.Native.Nat.{ℕ, ◌*◌, ◌≤◌, ◌<◌}
use native.Mathlib.Omega.{arith}
use lib.ListN.{length, take}
use lib.Seq.{length-take-le}
use Rattle.dataset.specs.Reading.{reading_of}
use Rattle.dataset.specs.Answer.{width, buffer_of}
use Rattle.dataset.specs.declared.ReadError.{ReadError}
use Rattle.node.specs.Nodes.{nodes_of}
use Rattle.node.specs.Internal.{Table}
use Rattle.conformance.specs.declared.Outcome.{Outcome}
use Rattle.conformance.specs.declared.Outcome.TheVariants as outcome
use Rattle.conformance.specs.Judging.{judge_of}
use Rattle.conformance.proofs.After.{after-broken}
use Rattle.judge_small.specs.declared.Located.{Located}
use Rattle.judge_small.specs.Located.{row_for, located, located_printed}
use Rattle.judge_small.proofs.Room.{roomy}

pub roomy-located : (s buffer : List ℕ) → width * length s ≤ 8 * length buffer → (a : Result Outcome ReadError) → a ≡ judge_of s buffer
    → located (nodes_of s) a ≡ located_printed s
roomy-located s buffer h a e = ap (located (nodes_of s)) (e ∙ roomy s buffer h)

-- An answer with no row is printed as it is.
pub rowless : (s buffer : List ℕ) → width * length s ≤ 8 * length buffer → {a x : Result Outcome ReadError} → a ≡ judge_of s buffer → a ≡ x
    → row_for (nodes_of s) x ≡ 0 → ◌≡◌ {A = Located} (record { answer = a; row = 0 }) (located_printed s)
rowless s buffer h {a} {x} e f z =
    let r : row_for (nodes_of s) a ≡ 0 = rw f z in
    sym (ap (λ (k : ℕ). record { answer = a; row = k }) r) ∙ roomy-located s buffer h a e

pub judged-broken : {a : Result Outcome ReadError} {o : Outcome} {n rule frame : ℕ} → a ≡ Ok o → o ≡ outcome.Broken n rule frame
    → a ≡ Ok (outcome.Broken n rule frame)
judged-broken judged broken = judged ∙ ap (λ (x : Outcome). Ok x) broken

pub judged-accepted : {a : Result Outcome ReadError} {o : Outcome} {n : ℕ} → a ≡ Ok o → o ≡ outcome.Accepted n → a ≡ Ok (outcome.Accepted n)
judged-accepted judged accepted = judged ∙ ap (λ (x : Outcome). Ok x) accepted

-- What stands in the buffer where a rule is broken.
module _ (s before buffer : List ℕ) (n rule frame : ℕ) {a : Result Outcome ReadError} {o : Outcome} (answered : a ≡ judge_of s before)
    (judged : a ≡ Ok o) (broken : o ≡ outcome.Broken n rule frame) (left : buffer ≡ buffer_of (reading_of s) before) where
  after : (width * n ≤ length buffer) × Table s (take (width * n) buffer)
  after = after-broken s before buffer n rule frame (sym (judged-broken judged broken) ∙ answered) left

  pub rows-there : width * n ≤ length buffer
  rows-there = after.0

  pub rows-are : Table s (take (width * n) buffer)
  rows-are = after.1

  pub rows-few : width * n < 18446744073709551616
  rows-few = omega (arith, after.1.size, after.1.few, length-take-le (width * n) buffer after.0)

  pub rows-length : length (take (width * n) buffer) ≡ width * n
  rows-length = length-take-le (width * n) buffer after.0

pub ruleset breaking = (rows-there, rows-are, rows-few, rows-length)
