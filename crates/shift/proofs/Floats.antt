-- Why the test of a float is right: four times a float up to the largest shift is exact, and the product, cut to a whole number and
-- turned into a float again, is the same exactly where nothing was cut off. A finite float is a fraction n / d, so each
-- law is one on fractions first.
use Rattle.std.specs.Prelude.{Option, Some, None}
use Rattle.std.proofs.Common.{◌≡◌, ℕ, zero, suc, ◌+◌, ◌-◌, ◌*◌, ◌/◌, ◌%◌, ◌^◌, ◌<◌, ◌≤◌, Bool, true, false, cond, not, ◌&&◌, ◌||◌, T, eqb, ltb, leb, ℤ, pos, negsuc, sym, refl, ap, ◌∙◌, subst, true≢false, lt_trans, lt_of_lt_of_le, lt_irrefl, mul-le-mul_right, mul_assoc, mul_comm, div-add-mod', zero-mul, mul-one, mul_right_comm, le_of_mul-le-mul_right, arith, lit<, lt→ltb, pow_pos, pow-add, shl_lt, ltb-false, ltb-true, le-ltb, lt-ltb, eq-eqb, ne_eqb, eqb-true, le-leb, leb-false, leb-true}
use mathlib.Core.Bool.{beq, and-true}
use native.Mathlib.Nat.{div-le_of_le-mul, zero-div, eq_of_mul-eq-mul_right}
use native.Mathlib.Nat.{mul-mod_left, mul-div-mul_right, min-eq_left}
use borrow.Author.Tests.{eqb-false, lt-leb}
use lib.Pow.{pow-lt}
use lib.Ieee.{Float, nan, inf, fin, up, down, lt, le, eq, neg, mul, is_nan, fits, round, of_bits, of_int, to_unsigned, binary32}
use lib.Ieee.Fits.{down_pos}
use lib.Ieee.Exact.{HasValue, round_exact}
use lib.Ieee.Back.{round_whole}
use Rattle.basics.proofs.Tests.{false-is-true}
use Rattle.value.specs.declared.Signed.{Signed}
use Rattle.value.specs.declared.Signed.TheVariants as signed
use Rattle.value.specs.Number.{with_sign}
use Rattle.shift.specs.Shift.{signed_size, quarters_of, largest_shift, largest_move, is_short}
use Rattle.shift.specs.Internal.{whole_up_to, short_size, short_of}

-- ---- Tests

pub nan-of : (x : Float) → is_nan x ≡ true → x ≡ nan
unfolding is_nan
nan-of nan h = refl
nan-of (inf s) h = absurd (false-is-true h)
nan-of (fin s m e) h = absurd (false-is-true h)

-- A float's `<=` is `<` or `==`.
at_most : (a b : ℕ) → ltb a b || (eqb a b && true) ≡ leb a b
at_most a b = go (ltb a b) (eqb a b) refl refl
  where
    go : (p q : Bool) → ltb a b ≡ p → eqb a b ≡ q → p || (q && true) ≡ leb a b
    go true q e f = sym (le-leb a b (omega (arith, ltb-true a b e)))
    go false true e f = sym (le-leb a b (omega (arith, eqb-true a b f)))
    go false false e f = sym (lt-leb a b (omega (arith, ltb-false a b e, eqb-false a b f)))

-- ---- Fractions

module _ (n d : ℕ) where
  exact : n % d ≡ 0 → n / d * d ≡ n
  exact p = omega (arith, div-add-mod' n d)

  quotient-low : (l : ℕ) → n ≤ l * d → n / d ≤ l
  quotient-low l h = div-le_of_le-mul d (subst (λ (x : ℕ). n ≤ x) (mul_comm l d) h)

  quotient-none : n ≡ 0 → n / d ≡ 0
  quotient-none z = ap (λ (x : ℕ). x / d) z ∙ zero-div d

  quotient-some : 0 < n → n % d ≡ 0 → n / d ≡ 0 → ⊥
  quotient-some h p z = let k : 0 ≡ n = sym (zero-mul d) ∙ ap (λ (x : ℕ). x * d) (sym z) ∙ exact p in omega arith

  fraction-high : (l : ℕ) → l * d < n → whole_up_to l n d ≡ None
  fraction-high l h = go (leb (n / d) l) (eqb (n % d) 0) refl refl
    where
      clash : n % d ≡ 0 → n / d * d ≤ l * d → ⊥
      clash p q = omega (arith, exact p)

      go : (p q : Bool) → leb (n / d) l ≡ p → eqb (n % d) 0 ≡ q → cond (p && q) (Some (n / d)) None ≡ None
      go true true a b = absurd (clash (eqb-true _ _ b) (mul-le-mul_right d (leb-true _ _ a)))
      go true false a b = refl
      go false q a b = refl

  -- The quotient, over c, is the fraction where nothing is left.
  quotient_is : (c : ℕ) → 0 < c → eqb (n / d * c * d) (n * c) ≡ eqb (n % d) 0
  quotient_is c some = go (eqb (n % d) 0) refl
    where
      same : n % d ≡ 0 → n / d * c * d ≡ n * c
      same p = mul_right_comm (n / d) c d ∙ ap (λ (x : ℕ). x * c) (exact p)

      left : n / d * c * d ≡ n * c → n % d ≡ 0
      left p =
          let z : n / d * d ≡ n = eq_of_mul-eq-mul_right c some (n / d * d) n (mul_right_comm (n / d) d c ∙ p) in
          omega (arith, div-add-mod' n d)

      go : (t : Bool) → eqb (n % d) 0 ≡ t → eqb (n / d * c * d) (n * c) ≡ t
      go true h = eq-eqb _ _ (same (eqb-true _ _ h))
      go false h = ne_eqb _ _ (λ p. eqb-false _ _ h (left p))

-- Two fractions of one size.
fraction-same : (l a b c d : ℕ) → 0 < b → 0 < d → a * d ≡ c * b → whole_up_to l a b ≡ whole_up_to l c d
fraction-same l a b c d pb pd h = rw (quotients, tests)
  where
    quotients : a / b ≡ c / d
    quotients = sym (mul-div-mul_right a b pd) ∙ ap (λ (x : ℕ). x / (b * d)) h ∙ ap (λ (x : ℕ). c * b / x) (mul_comm b d)
        ∙ mul-div-mul_right c d pb

    one_way : (a b c d : ℕ) → 0 < b → a * d ≡ c * b → a % b ≡ 0 → c % d ≡ 0
    one_way a b c d pb h z =
        let e : a / b * d * b ≡ c * b = mul_right_comm (a / b) d b ∙ ap (λ (x : ℕ). x * d) (exact a b z) ∙ h in
        ap (λ (x : ℕ). x % d) (sym (eq_of_mul-eq-mul_right b pb (a / b * d) c e)) ∙ mul-mod_left (a / b) d

    tests : eqb (a % b) 0 ≡ eqb (c % d) 0
    tests = go (eqb (c % d) 0) refl
      where
        go : (t : Bool) → eqb (c % d) 0 ≡ t → eqb (a % b) 0 ≡ t
        go true e = eq-eqb _ _ (one_way c d a b pd (sym h) (eqb-true _ _ e))
        go false e = ne_eqb _ _ (λ z. eqb-false _ _ e (one_way a b c d pb h z))

-- ---- Floats from 0 to l

-- A sign stands only before a zero.
abbrev pub Low : ℕ → Float → Type 0
Low l nan = ⊥
Low l (inf s) = ⊥
Low l (fin s m e) = (m * up e ≤ l * down e) × (s ≡ true → m * up e ≡ 0)

-- The largest shift as a float.
abbrev largest_float : Float
largest_float = of_int binary32 (pos largest_shift)

pub low : (y : Float) → lt y (of_bits binary32 0) ≡ false → le y largest_float ≡ true → Low largest_shift y
unfolding lt le eq of_bits of_int
low nan h k = absurd (false-is-true k)
low (inf true) h k = absurd (true≢false h)
low (inf false) h k = absurd (false-is-true k)
low (fin false m e) h k =
    let a : m * up e * 1 ≤ largest_shift * down e = leb-true _ _ (sym (at_most (m * up e * 1) (largest_shift * down e)) ∙ k) in
    (omega arith, λ (z : false ≡ true). absurd (false-is-true z))
low (fin true m e) h k =
    let a : m * up e * 1 + 0 * down e ≤ 0 = ltb-false _ _ h in
    (omega arith, λ _. omega arith)

pub high : (y : Float) → lt y (of_bits binary32 0) ≡ false → le y largest_float ≡ false → short_size y ≡ None
unfolding lt le eq of_bits of_int short_size
high nan h k = refl
high (inf s) h k = refl
high (fin false m e) h k =
    let a : largest_shift * down e < m * up e * 1 = leb-false _ _ (sym (at_most (m * up e * 1) (largest_shift * down e)) ∙ k) in
    fraction-high (m * up e * 4) (down e) largest_move (omega arith)
high (fin true m e) h k =
    let a : 0 < m * up e * 1 + largest_shift * down e = omega (arith, down_pos e) in
    absurd (true≢false (sym (ap (λ (t : Bool). t || eq (fin true m e) largest_float) (lt-ltb _ _ a)) ∙ k))

-- What cutting off requires: above -1, below 2^64.
pub castable : (z : Float) → Low largest_move z → T (lt (fin true 1 (pos 0)) z) × T (lt z (fin false 1 (pos 64)))
unfolding lt
castable nan h = absurd h
castable (inf s) h = absurd h
castable (fin false m e) h =
    let a : 0 < 1 * down e + m * up e * 1 = omega (arith, down_pos e) in
    let b : m * up e * 1 < 18446744073709551616 * down e = omega (arith, down_pos e) in
    (lt→ltb _ _ a, lt→ltb _ _ b)
castable (fin true m e) h =
    let a : m * up e * 1 < 1 * down e = omega (arith, down_pos e, h.1 refl) in
    let b : 0 < m * up e * 1 + 18446744073709551616 * down e = omega (arith, down_pos e) in
    (lt→ltb _ _ a, lt→ltb _ _ b)

cut-is : (s : Bool) (m : ℕ) (e : ℤ) → Low largest_move (fin s m e) → to_unsigned 64 (fin s m e) ≡ m * up e / down e
unfolding to_unsigned
cut-is false m e h =
    let q : m * up e / down e ≤ largest_move = quotient-low (m * up e) (down e) largest_move h.0 in
    min-eq_left (omega arith)
cut-is true m e h = sym (quotient-none (m * up e) (down e) (h.1 refl))

pub cut_low : (z : Float) → Low largest_move z → to_unsigned 64 z ≤ largest_move
cut_low nan h = absurd h
cut_low (inf s) h = absurd h
cut_low (fin s m e) h = rw (cut-is s m e h) (quotient-low (m * up e) (down e) largest_move h.0)

-- A float b of the quotient equals the float where nothing was cut off.
back_is : (b : Float) (s : Bool) (m : ℕ) (e : ℤ) → HasValue b false (m * up e / down e) 1 → Low largest_move (fin s m e)
    → eq b (fin s m e) ≡ eqb (m * up e % down e) 0
unfolding eq
back_is nan s m e v h = absurd v
back_is (inf t) s m e v h = absurd v
back_is (fin true a d) s m e v h = absurd (true≢false v.0)
back_is (fin false a d) s m e v h =
    let size : a * up d ≡ m * up e / down e * down d = sym (mul-one (a * up d)) ∙ v.1 in
    rw (size, quotient_is (m * up e) (down e) (down d) (down_pos d)) (signs s h.1)
  where
    none : m * up e ≡ 0 → m * up e / down e * down d * down e ≡ 0
    none z =
        ap (λ (x : ℕ). x * down d * down e) (quotient-none (m * up e) (down e) z)
        ∙ ap (λ (x : ℕ). x * down e) (zero-mul (down d))
        ∙ zero-mul (down e)

    signs : (s : Bool) → (s ≡ true → m * up e ≡ 0)
        → eqb (m * up e % down e) 0 && (beq false s || eqb (m * up e / down e * down d * down e) 0) ≡ eqb (m * up e % down e) 0
    signs false w = and-true (eqb (m * up e % down e) 0)
    signs true w = rw (eq-eqb _ 0 (none (w refl))) (and-true (eqb (m * up e % down e) 0))

-- The whole number that a float is, up to the largest move.
abbrev pub whole_up : Float → Option ℕ
whole_up nan = None
whole_up (inf s) = None
whole_up (fin s m e) = whole_up_to largest_move (m * up e) (down e)

whole_is : (z : Float) → Low largest_move z
    → whole_up z ≡ cond (eq (of_int binary32 (pos (to_unsigned 64 z))) z) (Some (to_unsigned 64 z)) None
unfolding of_int
whole_is nan h = absurd h
whole_is (inf s) h = absurd h
whole_is (fin s m e) h =
    let q : m * up e / down e ≤ largest_move = quotient-low (m * up e) (down e) largest_move h.0 in
    rw (
      cut-is s m e h,
      le-leb (m * up e / down e) largest_move q,
      back_is (of_int binary32 (pos (m * up e / down e))) s m e (round_whole binary32 false (m * up e / down e) (omega arith)) h,
    )

-- ---- Four times a float is exact

-- Four times m * 2^e, in units of 2^-149, is m * 2^j.
module _ (s : Bool) (m : ℕ) (few : m < 16777216) where
  exact-up : (k : ℕ) → m * 2 ^ k ≤ largest_shift * 1 → HasValue (round binary32 s (m * 2 ^ k * 4) (1 * 1)) s (m * 2 ^ k * 4) (1 * 1)
  exact-up k h = round_exact binary32 s (m * 2 ^ k * 4) 1 m (k + 151) (lit< tt) few (subst (λ (x : ℕ). x < 2 ^ 277) (sym big-is) room)
      (level (m * 2 ^ k) (m * 2 ^ (k + 151)) big-is)
    where
      big-is : m * 2 ^ (k + 151) ≡ m * 2 ^ k * 2 ^ 151
      big-is = ap (λ (x : ℕ). m * x) (pow-add 2 k 151) ∙ sym (mul_assoc m (2 ^ k) (2 ^ 151))

      near : m * 2 ^ k < 128
      near = omega arith

      room : m * 2 ^ k * 2 ^ 151 < 2 ^ 277
      room = lt_trans (shl_lt 7 151 near) (lit< tt)

      level : (x y : ℕ) → y ≡ x * 2 ^ 151 → x * 4 * 2 ^ 149 ≡ y * 1
      level x y h = mul_assoc x 4 (2 ^ 149) ∙ sym h ∙ sym (mul-one y)

  exact-down : (k : ℕ) → suc k ≤ 149 → HasValue (round binary32 s (m * 1 * 4) (2 ^ suc k * 1)) s (m * 1 * 4) (2 ^ suc k * 1)
  exact-down k h = round_exact binary32 s (m * 1 * 4) (2 ^ suc k * 1) m (151 - suc k) some few
      (lt_trans (shl_lt 24 (151 - suc k) few) (pow-lt below)) (level m _ big-is)
    where
      some : 0 < 2 ^ suc k * 1
      some = omega (arith, pow_pos (suc k))

      below : 24 + (151 - suc k) < 277
      below = omega arith

      back : 151 - suc k + suc k ≡ 151
      back = omega arith

      big-is : m * 2 ^ (151 - suc k) * (2 ^ suc k * 1) ≡ m * 2 ^ 151
      big-is = ap (λ (x : ℕ). m * 2 ^ (151 - suc k) * x) (mul-one (2 ^ suc k)) ∙ mul_assoc m (2 ^ (151 - suc k)) (2 ^ suc k)
          ∙ ap (λ (x : ℕ). m * x) (sym (pow-add 2 (151 - suc k) (suc k)) ∙ ap (λ (x : ℕ). 2 ^ x) back)

      level : (x y : ℕ) → y ≡ x * 2 ^ 151 → x * 1 * 4 * 2 ^ 149 ≡ y
      level x y h = ap (λ (z : ℕ). z * 4 * 2 ^ 149) (mul-one x) ∙ mul_assoc x 4 (2 ^ 149) ∙ sym h

middle : (a b c d : Bool) → a && b && c && d ≡ true → (b ≡ true) × (c ≡ true)
middle true true true d h = (refl, refl)
middle true true false d h = absurd (false-is-true h)
middle true false c d h = absurd (false-is-true h)
middle false b c d h = absurd (false-is-true h)

parts : (s : Bool) (m : ℕ) (e : ℤ) → fits binary32 (fin s (suc m) e) ≡ true → (suc m < 16777216) × (down e ≤ 2 ^ 149)
unfolding fits
parts s m e f =
    let p = middle (eqb (suc m % 2) 1) (ltb (suc m) (2 ^ 24)) (leb (down e) (2 ^ 149)) (ltb (suc m * up e) (2 ^ 128 * down e)) f in
    (ltb-true _ _ p.0, leb-true _ _ p.1)

four-exact : (s : Bool) (m : ℕ) (e : ℤ) → fits binary32 (fin s m e) ≡ true → m * up e ≤ largest_shift * down e
    → HasValue (round binary32 s (m * up e * 4) (down e * 1)) s (m * up e * 4) (down e * 1)
four-exact s zero e f h = round_exact binary32 s (0 * up e * 4) (down e * 1) 0 0 some (lit< tt) (lit< tt) none
  where
    some : 0 < down e * 1
    some = omega (arith, down_pos e)

    none : 0 * up e * 4 * 2 ^ 149 ≡ 0 * 2 ^ 0 * (down e * 1)
    none = ap (λ (z : ℕ). z * 4 * 2 ^ 149) (zero-mul (up e)) ∙ sym (zero-mul (down e * 1))
four-exact s (suc m) (pos k) f h = exact-up s (suc m) (parts s m (pos k) f).0 k h
four-exact s (suc m) (negsuc k) f h = exact-down s (suc m) (parts s m (negsuc k) f).0 k (go (leb (suc k) 149) refl)
  where
    go : (t : Bool) → leb (suc k) 149 ≡ t → suc k ≤ 149
    go true e = leb-true _ _ e
    go false e = absurd (lt_irrefl _ (lt_of_lt_of_le (pow-lt (leb-false _ _ e)) (parts s m (negsuc k) f).1))

four-by : (z : Float) (s : Bool) (n d : ℕ) → 0 < d → n ≤ largest_shift * d → (s ≡ true → n ≡ 0) → HasValue z s (n * 4) (d * 1)
    → Low largest_move z × (whole_up z ≡ whole_up_to largest_move (n * 4) d)
four-by nan s n d p h w v = absurd v
four-by (inf t) s n d p h w v = absurd v
four-by (fin t a e) s n d p h w v = ((small, sign), fraction-same largest_move (a * up e) (down e) (n * 4) d (down_pos e) p value)
  where
    value : a * up e * d ≡ n * 4 * down e
    value = ap (λ (x : ℕ). a * up e * x) (sym (mul-one d)) ∙ v.1

    four-le : n * 4 ≤ largest_move * d
    four-le = omega arith

    small : a * up e ≤ largest_move * down e
    small =
        le_of_mul-le-mul_right {m = a * up e} {n = largest_move * down e} {k = d}
        (subst (λ (x : ℕ). x ≤ largest_move * down e * d) (sym value)
        (subst (λ (x : ℕ). n * 4 * down e ≤ x) (mul_right_comm largest_move d (down e)) (mul-le-mul_right (down e) four-le)))
        p

    sign : t ≡ true → a * up e ≡ 0
    sign q = eq_of_mul-eq-mul_right d p (a * up e) 0
        (value ∙ ap (λ (x : ℕ). x * 4 * down e) (w (sym v.0 ∙ q)) ∙ zero-mul (down e) ∙ sym (zero-mul d))

unlike-plus : (s : Bool) → not (beq s false) ≡ s
unlike-plus true = refl
unlike-plus false = refl

-- 0x40800000 is 4.0.
abbrev pub four_times : Float → Float
four_times y = mul binary32 y (of_bits binary32 0x40800000)

pub four-times : (y : Float) → fits binary32 y ≡ true → Low largest_shift y
    → Low largest_move (four_times y) × (whole_up (four_times y) ≡ short_size y)
unfolding mul of_bits short_size
four-times nan f h = absurd h
four-times (inf s) f h = absurd h
four-times (fin s m e) f h = four-by (round binary32 (not (beq s false)) (m * up e * 4) (down e * 1)) s (m * up e) (down e)
    (down_pos e) h.0 h.1 (subst (λ (t : Bool). HasValue (round binary32 t (m * up e * 4) (down e * 1)) s (m * up e * 4) (down e * 1))
    (sym (unlike-plus s)) (four-exact s m e f h.0))

-- The same of the code's numbers: z is four times y, n is what is left of it, b is n as a float, t the test.
pub size-by : (y : Float) → fits binary32 y ≡ true → Low largest_shift y → (n : ℕ) (b : Float) (t : Bool) → n ≡ to_unsigned 64 (four_times y)
    → b ≡ of_int binary32 (pos n) → eq b (four_times y) ≡ t → cond t (Some n) None ≡ short_size y
size-by y f h n b t e d g =
    let k = four-times y f h in
    sym (sym k.1 ∙ whole_is (four_times y) k.0 ∙ rw (← e, ← d, g))

-- ---- The sign

pub neg_low : (x : Float) → lt x (of_bits binary32 0) ≡ true → lt (neg x) (of_bits binary32 0) ≡ false
unfolding lt neg of_bits
neg_low nan h = refl
neg_low (inf true) h = refl
neg_low (inf false) h = sym h
neg_low (fin true m e) h =
    let a : 0 * down e ≤ m * up e * 1 = omega arith in
    le-ltb _ _ a
neg_low (fin false m e) h =
    let a : m * up e * 1 < 0 * down e = ltb-true _ _ h in
    absurd (omega arith)

-- A short number w of quarters is a short size with the sign that `sign` puts on.
short-by : (sign : Option ℕ → Option Signed) (q : ℕ) → is_short (sign (Some q)) ≡ leb q largest_move → sign None ≡ None
    → (p : Bool) (w : Option Signed) → (p ≡ true → w ≡ sign (Some q))
    → cond (is_short (cond p w None)) (cond p w None) None ≡ sign (cond (leb q largest_move && p) (Some q) None)
short-by sign q short lacks p w is = go p (leb q largest_move) refl is
  where
    go : (p t : Bool) → leb q largest_move ≡ t → (p ≡ true → w ≡ sign (Some q))
        → cond (is_short (cond p w None)) (cond p w None) None ≡ sign (cond (t && p) (Some q) None)
    go true true e is = rw (is refl, short, e)
    go true false e is = rw (is refl, short, e) (sym lacks)
    go false true e is = sym lacks
    go false false e is = sym lacks

pub short-plus : (x : Float) → lt x (of_bits binary32 0) ≡ false → short_of x ≡ with_sign false (short_size x)
unfolding lt of_bits quarters_of short_of short_size
short-plus nan h = refl
short-plus (inf s) h = refl
short-plus (fin false m e) h = short-by (with_sign false) (m * up e * 4 / down e) refl refl (eqb (m * up e * 4 % down e) 0)
    (Some (signed.Plus (m * up e * 4 / down e))) (λ _. refl)
short-plus (fin true m e) h =
    let a : m * up e * 1 + 0 * down e ≤ 0 = ltb-false _ _ h in
    let z : m * up e * 4 / down e ≡ 0 = quotient-none (m * up e * 4) (down e) (omega arith) in
    short-by (with_sign false) (m * up e * 4 / down e) refl refl (eqb (m * up e * 4 % down e) 0) (signed_size true (m * up e * 4 / down e))
    (λ _. rw z)

pub short-minus : (x : Float) → lt x (of_bits binary32 0) ≡ true → short_of x ≡ with_sign true (short_size (neg x))
unfolding lt neg of_bits quarters_of short_of short_size
short-minus nan h = refl
short-minus (inf s) h = refl
short-minus (fin false m e) h =
    let a : m * up e * 1 < 0 * down e = ltb-true _ _ h in
    absurd (omega arith)
short-minus (fin true m e) h =
    let a : 0 < m * up e * 1 + 0 * down e = ltb-true _ _ h in
    short-by (with_sign true) (m * up e * 4 / down e) refl refl (eqb (m * up e * 4 % down e) 0) (signed_size true (m * up e * 4 / down e))
    (λ p. some (m * up e * 4 / down e) (quotient-some (m * up e * 4) (down e) (omega arith) (eqb-true _ _ p)))
  where
    some : (q : ℕ) → (q ≡ 0 → ⊥) → signed_size true q ≡ Some (signed.Minus q)
    some zero f = absurd (f refl)
    some (suc q) f = refl
