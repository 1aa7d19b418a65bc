-- What a test of a read says. A test of a read that holds found what it tested, so each law goes by what was read.
use Rattle.std.specs.Prelude.{Option, Some, None}
use mathlib.Core.Path.{◌≡◌, refl, subst}
use mathlib.Core.Bool.{Bool, true}
use Prim.Native.Nat.{ℕ}
use Rattle.basics.proofs.Tests.{false-is-true}
use Rattle.node.specs.Find.{holds, if_present}

-- A read has one answer.
pub same-is : {o : Option ℕ} {a b : ℕ} → o ≡ Some a → o ≡ Some b → a ≡ b
same-is p q = cc

-- What a test that holds found.
pub holds-is : (o : Option ℕ) (p : ℕ → Bool) → holds o p ≡ true → (n : ℕ) × ((o ≡ Some n) × (p n ≡ true))
holds-is None p e = absurd (false-is-true e)
holds-is (Some n) p e = (n, (refl, e))

-- It holds of what was read.
pub holds_of : (o : Option ℕ) (p : ℕ → Bool) (n : ℕ) → o ≡ Some n → holds o p ≡ true → p n ≡ true
holds_of o p n q e = subst (λ (x : Option ℕ). holds x p ≡ true) q e

-- A test that asks less holds too.
pub holds_more : (o : Option ℕ) (p q : ℕ → Bool) → ((n : ℕ) → p n ≡ true → q n ≡ true) → holds o p ≡ true → holds o q ≡ true
holds_more None p q f e = e
holds_more (Some n) p q f e = f n e

pub present-more : (o : Option ℕ) (p q : ℕ → Bool) → ((n : ℕ) → p n ≡ true → q n ≡ true) → if_present o p ≡ true → if_present o q ≡ true
present-more None p q f e = e
present-more (Some n) p q f e = f n e
