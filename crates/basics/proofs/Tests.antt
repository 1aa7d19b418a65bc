-- A compound test that came out true is taken apart, and one that is decided by its parts is put together, by the cases of the first part.
use mathlib.Core.Path.{◌≡◌, refl}
use mathlib.Core.Bool.{Bool, true, false, cond, ◌&&◌, ◌||◌}
use mathlib.Core.Logic.{◌⊎◌, inl, inr}
use Prim.Native.Nat.{ℕ}
use native.Mathlib.Omega.{arith}

pub false-is-true : false ≡ true → ⊥
false-is-true e = let z : ◌≡◌ {A = ℕ} 0 1 = cc in omega arith

pub and_both : (a b : Bool) → (a && b) ≡ true → (a ≡ true) × (b ≡ true)
and_both true b e = (refl, e)
and_both false b e = absurd (false-is-true e)

pub or-either : (a b : Bool) → (a || b) ≡ true → (a ≡ true) ⊎ (b ≡ true)
or-either true b e = inl refl
or-either false b e = inr e

-- ---- Tests one after the other

pub both : {a b r : Bool} → a ≡ true → b ≡ r → (a && b) ≡ r
both e f = rw e f

pub not_first : {a : Bool} (b : Bool) → a ≡ false → (a && b) ≡ false
not_first b e = rw e

pub one : {a : Bool} (b : Bool) → a ≡ true → (a || b) ≡ true
one b e = rw e

pub other-one : {a b r : Bool} → a ≡ false → b ≡ r → (a || b) ≡ r
other-one e f = rw e f

pub then : {t a r : Bool} (b : Bool) → t ≡ true → a ≡ r → cond t a b ≡ r
then b e f = rw e f

pub otherwise : {t b r : Bool} (a : Bool) → t ≡ false → b ≡ r → cond t a b ≡ r
otherwise a e f = rw e f
