-- The exact number m · 10^up / 10^down without the powers: a factor of ten at a time.
use Rattle.std.specs.Prelude.{Some, None}
use mathlib.Core.Path.{◌≡◌, refl, sym, ap, ◌∙◌}
use Prim.Native.Nat.{ℕ, zero, suc, ◌+◌, ◌-◌, ◌*◌, ◌/◌, ◌%◌, ◌^◌, ◌≤◌, ◌<◌}
use native.Mathlib.Omega.{arith}
use native.Mathlib.Nat.{mul_assoc, mul_comm, mul-sub, mul-mod_left, mul-mod_right, mul-div_cancel, mul-div-mul_left, mod_def, mod-one}
use native.Mathlib.Nat.{div-one, zero-mod, zero-div, div-add-mod, le_trans, le-mul_of_pos_right, one-le-pow, pow-succ'}
use mathlib.Core.Bool.{Bool, true, false}
use lib.Dec.{eqb}
use lib.Pow.{pow-add}
use borrow.Author.Tests.{eq-eqb, ne_eqb, eqb-true, eqb-false, lt-ltb, le-ltb}
use Rattle.value.specs.Number.{size_limit, if_small, wholly, exact_of}

pub within-is : (n : ℕ) → n < size_limit → if_small n ≡ Some n
within-is n h = rw (lt-ltb n size_limit h)

pub within-large : (n : ℕ) → size_limit ≤ n → if_small n ≡ None
within-large n h = rw (le-ltb n size_limit h)

-- ---- Multiplying

power-one : (e : ℕ) → 0 < 10 ^ e
power-one e = one-le-pow e 10 (omega arith)

-- After k of e turns, one turn more.
pub grown : (n e k : ℕ) → k < e → n * 10 * 10 ^ (e - (k + 1)) ≡ n * 10 ^ (e - k)
grown n e k h =
    let d : e - k ≡ suc (e - (k + 1)) = omega arith in
    rw (d, pow-succ' 10 (e - (k + 1))) (mul_assoc n 10 (10 ^ (e - (k + 1))))

pub too_large_lem : (n left : ℕ) → size_limit ≤ n → if_small (n * 10 ^ left) ≡ None
too_large_lem n left h = within-large (n * 10 ^ left) (le_trans h (le-mul_of_pos_right n (power-one left)))

pub times-one : (n left : ℕ) → left ≤ 0 → n * 10 ^ left ≡ n
times-one n zero h = omega arith
times-one n (suc l) h = absurd (omega arith)

-- ---- Dividing

pub over-one : (n left : ℕ) → left ≤ 0 → wholly n (10 ^ left) ≡ if_small n
over-one n zero h = rw (mod-one n, div-one n)
over-one n (suc l) h = absurd (omega arith)

-- A factor of both goes.
mod-factor : (k n m : ℕ) → 0 < k → k * n % (k * m) ≡ k * (n % m)
mod-factor k n m h =
    mod_def (k * n) (k * m)
    ∙ ap (λ (q : ℕ). k * n - k * m * q) (mul-div-mul_left {m = k} n m h)
    ∙ ap (λ (x : ℕ). k * n - x) (mul_assoc k m (n / m))
    ∙ sym (mul-sub k n (m * (n / m)))
    ∙ ap (λ (x : ℕ). k * x) (sym (mod_def n m))

factor-zero : (k n : ℕ) → 0 < k → (n ≡ 0 → ⊥) → k * n ≡ 0 → ⊥
factor-zero k zero h z e = z refl
factor-zero zero (suc n) h z e = omega arith
factor-zero (suc k) (suc n) h z e = omega (arith, e)

same-zero : (k r : ℕ) → 0 < k → eqb (k * r) 0 ≡ eqb r 0
same-zero k r h = go (eqb r 0) refl
  where
    go : (t : Bool) → eqb r 0 ≡ t → eqb (k * r) 0 ≡ eqb r 0
    go true e = rw (eqb-true r 0 e) (eq-eqb (k * 0) 0 (omega arith))
    go false e = ne_eqb (k * r) 0 (factor-zero k r h (eqb-false r 0 e)) ∙ sym e

pub wholly-factor : (k n m : ℕ) → 0 < k → wholly (k * n) (k * m) ≡ wholly n m
wholly-factor k n m h = rw (mod-factor k n m h, mul-div-mul_left {m = k} n m h, same-zero k (n % m) h)

-- After k of e turns, one turn more.
pub shrunk : (n e k : ℕ) → k < e → n % 10 ≡ 0 → wholly n (10 ^ (e - k)) ≡ wholly (n / 10) (10 ^ (e - (k + 1)))
shrunk n e k h z =
    let l : ℕ = e - (k + 1) in
    let d : e - k ≡ suc l = omega arith in
    let q : n ≡ 10 * (n / 10) = omega arith in
    rw (d, pow-succ' 10 l) (ap (λ (x : ℕ). wholly x (10 * 10 ^ l)) q ∙ wholly-factor 10 (n / 10) (10 ^ l) (omega arith))

-- What ten does not divide, no higher power divides.
pub no-multiple : (n left : ℕ) → 0 < left → (n % 10 ≡ 0 → ⊥) → wholly n (10 ^ left) ≡ None
no-multiple n zero h e = absurd (omega arith)
no-multiple n (suc l) h e = rw (pow-succ' 10 l, ne_eqb (n % (10 * 10 ^ l)) 0 (λ z. e (divides z)))
  where
    divides : n % (10 * 10 ^ l) ≡ 0 → n % 10 ≡ 0
    divides z =
        let a = div-add-mod n (10 * 10 ^ l) in
        let b : n ≡ 10 * (10 ^ l * (n / (10 * 10 ^ l))) = omega (arith, a, z, mul_assoc 10 (10 ^ l) (n / (10 * 10 ^ l))) in
        ap (λ (x : ℕ). x % 10) b ∙ mul-mod_right 10 (10 ^ l * (n / (10 * 10 ^ l)))

-- ---- The exact number

pub exact-zero : (m up down : ℕ) → m ≡ 0 → exact_of m up down ≡ Some 0
unfolding exact_of
exact-zero m up down e =
    let z : m * 10 ^ up ≡ 0 = ap (λ (x : ℕ). x * 10 ^ up) e ∙ omega arith in
    rw (z, zero-mod (10 ^ down), zero-div (10 ^ down))

split : (up down : ℕ) → down ≤ up → 10 ^ up ≡ 10 ^ (up - down) * 10 ^ down
split up down h =
    let d : up ≡ up - down + down = omega arith in
    ap (λ (x : ℕ). 10 ^ x) d ∙ pow-add 10 (up - down) down

pub exact-up : (m up down : ℕ) → down ≤ up → exact_of m up down ≡ if_small (m * 10 ^ (up - down))
unfolding exact_of
exact-up m up down h =
    let e : m * 10 ^ up
    ≡ m * 10 ^ (up - down) * 10 ^ down = ap (λ (x : ℕ). m * x) (split up down h) ∙ sym (mul_assoc m (10 ^ (up - down)) (10 ^ down)) in
    rw (e, mul-mod_left (m * 10 ^ (up - down)) (10 ^ down), mul-div_cancel (m * 10 ^ (up - down)) {n = 10 ^ down} (power-one down))

pub exact-down : (m up down : ℕ) → up < down → exact_of m up down ≡ wholly m (10 ^ (down - up))
unfolding exact_of
exact-down m up down h =
    let e : 10 ^ down ≡ 10 ^ up * 10 ^ (down - up) = split down up (omega arith) ∙ mul_comm (10 ^ (down - up)) (10 ^ up) in
    rw (e, mul_comm m (10 ^ up)) (wholly-factor (10 ^ up) m (10 ^ (down - up)) (power-one up))
