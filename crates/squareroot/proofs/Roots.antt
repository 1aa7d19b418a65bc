-- The largest p with p × p ≤ t is the only p with p × p ≤ t < (p + 1) × (p + 1).
use mathlib.Core.Path.{◌≡◌, refl}
use mathlib.Core.Bool.{Bool, true, false, cond}
use Prim.Native.Nat.{ℕ, zero, suc, ◌+◌, ◌*◌, ◌≤◌, ◌<◌}
use native.Mathlib.Nat.{mul-le-mul}
use native.Mathlib.Omega.{arith}
use borrow.Author.Tests.{leb-true, leb-false}
use lib.Dec.{leb}
use Rattle.squareroot.specs.SquareRoot.{largest_by, root_of}

pub square : (a b : ℕ) → a ≤ b → a * a ≤ b * b
square a b h = mul-le-mul {n₁ = a} {m₁ = a} {n₂ = b} {m₂ = b} h h

-- A square at most t is the square of a number at most p, where t is below the square after p's.
under-by : (b : Bool) (t p q : ℕ) → leb q p ≡ b → q * q ≤ t → t < (p + 1) * (p + 1) → q ≤ p
under-by true t p q e h k = leb-true q p e
under-by false t p q e h k =
    let a : p + 1 ≤ q = omega (arith, leb-false q p e) in
    let b : (p + 1) * (p + 1) ≤ q * q = square (p + 1) q a in
    omega arith

pub under : (t p q : ℕ) → q * q ≤ t → t < (p + 1) * (p + 1) → q ≤ p
under t p q h k = under-by (leb q p) t p q refl h k

not-above : (n p : ℕ) → p ≤ suc n → (suc n ≤ p → ⊥) → p ≤ n
not-above n p h k = not-by (leb p n) refl
  where
    not-by : (b : Bool) → leb p n ≡ b → p ≤ n
    not-by true e = leb-true p n e
    not-by false e = absurd (k (omega (arith, leb-false p n e)))

step : (b : Bool) (n t p rest : ℕ) → leb (suc n * suc n) t ≡ b → (p ≤ n → rest ≡ p) → p ≤ suc n → p * p ≤ t → t < (p + 1) * (p + 1)
    → cond b (suc n) rest ≡ p
step true n t p rest e go h low high =
    let a : suc n ≤ p = under t p (suc n) (leb-true (suc n * suc n) t e) high in omega arith
step false n t p rest e go h low high =
    let a : t < suc n * suc n = leb-false (suc n * suc n) t e in
    go (not-above n p h (λ e. let b : suc n * suc n ≤ p * p = square (suc n) p e in omega arith))

largest-by : (n t p : ℕ) → p ≤ n → p * p ≤ t → t < (p + 1) * (p + 1) → largest_by n t ≡ p
unfolding largest_by
largest-by zero t p h low high = omega arith
largest-by (suc n) t p h low high =
    step (leb (suc n * suc n) t) n t p (largest_by n t) refl (λ k. largest-by n t p k low high) h low high

-- The root from its two bounds.
pub root_is_lem : (t p : ℕ) → p * p ≤ t → t < (p + 1) * (p + 1) → root_of t ≡ p
unfolding root_of
root_is_lem t p h k = largest-by t t p (below p h) h k
  where
    below : (p : ℕ) → p * p ≤ t → p ≤ t
    below zero g = omega arith
    below (suc p) g = omega arith

-- Its two bounds.
low_by : (b : Bool) (n t rest : ℕ) → leb (suc n * suc n) t ≡ b → rest * rest ≤ t → cond b (suc n) rest * cond b (suc n) rest ≤ t
low_by true n t rest e h = leb-true (suc n * suc n) t e
low_by false n t rest e h = h

largest-low : (n t : ℕ) → largest_by n t * largest_by n t ≤ t
unfolding largest_by
largest-low zero t = omega arith
largest-low (suc n) t = low_by (leb (suc n * suc n) t) n t (largest_by n t) refl (largest-low n t)

-- What is below the square after n's is below the square after the answer's.
high-by : (b : Bool) (n t rest : ℕ) → leb (suc n * suc n) t ≡ b → (t < (n + 1) * (n + 1) → t < (rest + 1) * (rest + 1))
    → t < (suc n + 1) * (suc n + 1) → t < (cond b (suc n) rest + 1) * (cond b (suc n) rest + 1)
high-by true n t rest e go h = h
high-by false n t rest e go h = go (omega (arith, leb-false (suc n * suc n) t e))

largest-high : (n t : ℕ) → t < (n + 1) * (n + 1) → t < (largest_by n t + 1) * (largest_by n t + 1)
unfolding largest_by
largest-high zero t h = h
largest-high (suc n) t h = high-by (leb (suc n * suc n) t) n t (largest_by n t) refl (largest-high n t) h

pub root-low : (t : ℕ) → root_of t * root_of t ≤ t
unfolding root_of
root-low t = largest-low t t

pub root-high : (t : ℕ) → t < (root_of t + 1) * (root_of t + 1)
unfolding root_of
root-high t = largest-high t t (omega arith)
