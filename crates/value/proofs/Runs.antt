-- Each digit makes the number at most ten times as large plus nine, so what was read of digits stays within ten to the power of their
-- count; and going on by a byte reads the digits of what follows.
use mathlib.Core.Path.{◌≡◌, refl, sym, ap, ◌∙◌}
use Prim.Native.Nat.{ℕ, zero, suc, ◌+◌, ◌-◌, ◌*◌, ◌^◌, ◌≤◌, ◌<◌}
use native.Mathlib.Omega.{arith}
use native.Mathlib.Nat.{mul_assoc, mul_comm, mul-le-mul_right, le_trans, one-le-pow, le-mul_of_pos_right, pow-succ'}
use mathlib.Core.List.{List, [], ◌∷◌}
use mathlib.Core.Bool.{Bool, true, false}
use lib.ListN.{length, drop, length-drop}
use lib.Dec.{leb}
use borrow.Author.Tests.{leb-true}
use Rattle.value.specs.Number.{Digits, is_digit, digits_of}
use Rattle.value.specs.Internal.{DigitsRead}
use Rattle.basics.proofs.Lists.{from_next}
use Rattle.basics.proofs.Tests.{and_both}

-- What is read where no digit follows.
abbrev pub stopped : ℕ → ℕ → List ℕ → Digits
stopped n k s = record { number = n; count = k; rest = s }

digits-go : (limit n k c : ℕ) (s : List ℕ) → is_digit c ≡ true
    → digits_of (suc limit) n k (c ∷ s) ≡ digits_of limit (10 * n + (c - 0x30)) (k + 1) s
unfolding digits_of
digits-go limit n k c s e = rw e

digits-stop : (limit n k c : ℕ) (s : List ℕ) → is_digit c ≡ false → digits_of (suc limit) n k (c ∷ s) ≡ stopped n k (c ∷ s)
unfolding digits_of
digits-stop limit n k c s e = rw e

digits-none : (limit n k : ℕ) → digits_of limit n k [] ≡ stopped n k []
unfolding digits_of
digits-none zero n k = refl
digits-none (suc limit) n k = refl

digits-full : (n k : ℕ) (s : List ℕ) → digits_of zero n k s ≡ stopped n k s
unfolding digits_of
digits-full n k s = refl

-- ---- One step of the code

-- A digit more, where `later` digits may still come after it.
pub next-digit : (left later n k c : ℕ) (s : List ℕ) → later + 1 ≡ left → true ≡ is_digit c
    → digits_of left n k (c ∷ s) ≡ digits_of later (10 * n + (c - 0x30)) (k + 1) s
next-digit left later n k c s h e = let d : left ≡ suc later = omega arith in rw d (digits-go later n k c s (sym e))

-- Enough digits, or no byte left.
pub digits-end : (left n k : ℕ) (s : List ℕ) → (0 < left → length s ≡ 0) → digits_of left n k s ≡ stopped n k s
digits-end zero n k s h = digits-full n k s
digits-end (suc left) n k [] h = digits-none (suc left) n k
digits-end (suc left) n k (c ∷ s) h = absurd (omega (arith, h (omega arith)))

-- Another byte.
pub no-digit : (left n k c : ℕ) (s : List ℕ) → false ≡ is_digit c → digits_of left n k (c ∷ s) ≡ stopped n k (c ∷ s)
no-digit zero n k c s e = digits-full n k (c ∷ s)
no-digit (suc left) n k c s e = digits-stop left n k c s (sym e)

-- The place of what follows a byte.
pub next-place : (s l : List ℕ) (i c : ℕ) → c ∷ l ≡ drop i s → (l ≡ drop (i + 1) s) × (i < length s)
next-place s l i c e =
    let h : i < length s = omega (arith, ap length e, length-drop i s) in
    let f = from_next s i h in
    (cc, h)

-- What the code answers where it stops, with the bytes l left.
pub read_at : (limit start left n i : ℕ) (s l : List ℕ) → digits_of left n i l ≡ digits_of limit start 0 s → digits_of left n i l ≡ stopped n i l
    → l ≡ drop i s → i ≤ length s → i ≤ limit → DigitsRead limit start s (record { number = n; count = i })
read_at limit start left n i s l e t p w f =
    let d : stopped n i l ≡ digits_of limit start 0 s = sym t ∙ e in
    record {
      number = ap (λ (x : Digits). x.number) d;
      count = ap (λ (x : Digits). x.count) d;
      rest = ap (λ (x : Digits). x.rest) (sym d) ∙ p;
      within = w;
      few = f;
    }

-- ---- How large

regroup : (a p : ℕ) → 10 * a * p ≡ a * (10 * p)
regroup a p = ap (λ (x : ℕ). x * p) (mul_comm 10 a) ∙ mul_assoc a 10 p

-- One digit more.
larger : (n x l : ℕ) → x ≤ 9 → (10 * n + x + 1) * 10 ^ l ≤ (n + 1) * 10 ^ suc l
larger n x l h =
    let m : 10 * n + x + 1 ≤ 10 * (n + 1) = omega arith in
    let t = mul-le-mul_right (10 ^ l) m in
    rw (pow-succ' 10 l) (rw (regroup (n + 1) (10 ^ l)) at t)

-- With `later` digits to come, it stays within a bound.
pub next-size : (n x left later most : ℕ) → later + 1 ≡ left → x ≤ 9 → (n + 1) * 10 ^ left ≤ most → (10 * n + x + 1) * 10 ^ later ≤ most
next-size n x left later most d h b = let e : left ≡ suc later = omega arith in le_trans (larger n x later h) (rw e at b)

pub bounded : (n left most : ℕ) → (n + 1) * 10 ^ left ≤ most → n < most
bounded n left most b = omega (arith, b, le-mul_of_pos_right (n + 1) (one-le-pow left 10 (omega arith)))

same : (n k limit : ℕ) → (n + 1) * 10 ^ (limit + k - k) ≤ (n + 1) * 10 ^ limit
same n k limit = let d : limit + k - k ≡ limit = omega arith in rw d (omega arith)

-- The number, as if zeros stood for the digits that may still come.
abbrev Sized : ℕ → ℕ → ℕ → List ℕ → Type 0
Sized limit n k s = ((digits_of limit n k s).number + 1) * 10 ^ (limit + k - (digits_of limit n k s).count) ≤ (n + 1) * 10 ^ limit

by-digit : (limit n k c : ℕ) (s : List ℕ) (t : Bool) → is_digit c ≡ t → Sized limit (10 * n + (c - 0x30)) (k + 1) s
    → Sized (suc limit) n k (c ∷ s)
by-digit limit n k c s true e h =
    let x : c ≤ 0x39 = leb-true c 0x39 (and_both (leb 0x30 c) (leb c 0x39) e).1 in
    let d : suc limit + k ≡ limit + (k + 1) = omega arith in
    rw (digits-go limit n k c s e, d) (le_trans h (larger n (c - 0x30) limit (omega arith)))
by-digit limit n k c s false e h = rw (digits-stop limit n k c s e) (same n k (suc limit))

pub digits-size : (limit n k : ℕ) (s : List ℕ)
    → ((digits_of limit n k s).number + 1) * 10 ^ (limit + k - (digits_of limit n k s).count) ≤ (n + 1) * 10 ^ limit
digits-size zero n k s = rw (digits-full n k s) (same n k zero)
digits-size (suc limit) n k [] = rw (digits-none (suc limit) n k) (same n k (suc limit))
digits-size (suc limit) n k (c ∷ s) = by-digit limit n k c s (is_digit c) refl (digits-size limit (10 * n + (c - 0x30)) (k + 1) s)

pub digits-below : (limit n : ℕ) (s : List ℕ) → (digits_of limit n 0 s).number < (n + 1) * 10 ^ limit
digits-below limit n s = bounded (digits_of limit n 0 s).number (limit + 0 - (digits_of limit n 0 s).count) ((n + 1) * 10 ^ limit)
    (digits-size limit n 0 s)
