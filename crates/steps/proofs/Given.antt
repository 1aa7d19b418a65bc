-- A computation that can lack something and gave something: each step of it gave something, since a step that lacks ends it.
use Rattle.std.specs.Prelude.{Option, Some, None}
use mathlib.Core.Path.{◌≡◌, refl}
use mathlib.Core.Bool.{Bool, true, false}
use Prim.Native.Nat.{ℕ, zero, suc, ◌<◌}
use native.Mathlib.Omega.{arith}
use Rattle.basics.proofs.Tests.{false-is-true}
use Rattle.steps.specs.Given.{need, check, then, collect}

module _ {A : Type 0} where
  pub never : {a : A} → None ≡ Some a → ⊥
  never e = let z : ◌≡◌ {A = ℕ} 0 1 = cc in omega arith

  -- Two answers of one step are the same.
  pub same_some : {x : Option A} {a b : A} → x ≡ Some a → x ≡ Some b → a ≡ b
  same_some e f = cc

  -- A check that is met goes on.
  pub checked : (t : Bool) (o : Option A) → t ≡ true → check t o ≡ o
  checked true o e = refl
  checked false o e = absurd (false-is-true e)

  pub check-some : (t : Bool) (o : Option A) {a : A} → check t o ≡ Some a → (t ≡ true) × (o ≡ Some a)
  check-some true o e = (refl, e)
  check-some false o e = absurd (never e)

  pub need-some : (o : Option ℕ) (go : ℕ → Option A) {a : A} → need o go ≡ Some a → (n : ℕ) × ((o ≡ Some n) × (go n ≡ Some a))
  need-some (Some n) go e = (n, (refl, e))
  need-some None go e = absurd (never e)

  module _ {B : Type 0} where
    pub then_some : (o : Option B) (go : B → Option A) {a : A} → then o go ≡ Some a → (b : B) × ((o ≡ Some b) × (go b ≡ Some a))
    then_some (Some b) go e = (b, (refl, e))
    then_some None go e = absurd (never e)

-- Cells that are the same are collected the same.
pub collect-same : (f h : ℕ → Option ℕ) (n : ℕ) → ((i : ℕ) → i < n → f i ≡ h i) → collect f n ≡ collect h n
unfolding collect
collect-same f h zero e = refl
collect-same f h (suc n) e = rw (collect-same f h n (λ i l. e i (omega arith)), e n (omega arith))
