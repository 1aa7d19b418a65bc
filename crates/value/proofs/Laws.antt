-- What callers use: the bound of a number holds of what was matched; a text form has few digits, so its number is small; and each value of
-- a US takes two bytes, so value k stands 2k bytes on.
use Rattle.std.specs.Prelude.{Option, Some, None}
use mathlib.Core.Path.{◌≡◌, refl, ap, ◌∙◌, subst}
use Prim.Native.Nat.{ℕ, zero, suc, ◌+◌, ◌*◌, ◌^◌, ◌/◌, ◌%◌, ◌≤◌, ◌<◌}
use native.Mathlib.Omega.{arith}
use native.Mathlib.Numerals.{add-one}
use mathlib.Core.List.{List, [], ◌∷◌}
use mathlib.Core.Bool.{Bool, true, false, cond}
use lib.ListN.{length, get_or, drop}
use lib.Dec.{eqb, leb, ltb}
use borrow.Author.Tests.{ltb-true}
use Rattle.basics.specs.Bytes.{le16}
use Rattle.basics.proofs.Lists.{from_next, from_end}
use Rattle.value.specs.declared.Signed.{Signed}
use Rattle.value.specs.declared.Signed.TheVariants as signed
use Rattle.value.specs.Text.{is_single, value_of, trimmed}
use Rattle.value.specs.Number.{number_or0, Digits, us_values, digits_of, after_sign, is_minus, with_sign, signed_by, whole_on, whole_of}
use Rattle.value.specs.Number.{integer_digits, integer_limit, integer_of, decimals, size_limit}
use Rattle.value.specs.Number.{characters, run_of, if_small, exact_of, scaled_by, is_mark, exponent_of, end_of, point_by, fraction_on, size_of}
use Rattle.value.specs.Number.{decimal_of, is_number}
use Rattle.std.specs.Option.{is_some}
use Rattle.value.specs.Internal.{Below, SizeBelow}
use Rattle.value.proofs.Runs.{digits-below}

-- ---- Matches one within the other

-- What was found, where it was told apart further.
pub some-is : {A : Type 0} {o : Option A} {x y : A} → o ≡ Some x → x ≡ y → o ≡ Some y
some-is e f = e ∙ ap Some f

-- A number is there where the test says so.
pub number-some : (n : Option Signed) → is_number n ≡ is_some n
number-some (Some (signed.Plus k)) = refl
number-some (Some (signed.Minus k)) = refl
number-some None = refl

-- ---- A number that was matched

pub below-is : (n k : ℕ) (r : Option ℕ) → r ≡ Some k → Below n r → k < n
below-is n k r e b = subst (Below n) e b

pub below-or-0 : (n : ℕ) (r : Option ℕ) → 0 < n → Below n r → number_or0 r < n
below-or-0 n (Some k) h b = b
below-or-0 n None h b = h

pub below-plus : (n k : ℕ) (r : Option Signed) → r ≡ Some (signed.Plus k) → SizeBelow n r → k < n
below-plus n k r e b = subst (SizeBelow n) e b

pub below-minus : (n k : ℕ) (r : Option Signed) → r ≡ Some (signed.Minus k) → SizeBelow n r → k < n
below-minus n k r e b = subst (SizeBelow n) e b

-- ---- The values of a US

pub us_values-length : (v : List ℕ) → length (us_values v) ≡ length v / 2
unfolding us_values
us_values-length [] = omega arith
us_values-length (a ∷ []) = omega arith
us_values-length (a ∷ b ∷ s) = omega (arith, us_values-length s)

pub us_values-at : (v : List ℕ) (k : ℕ) → 2 * k + 2 ≤ length v → get_or (us_values v) k 0 ≡ le16 v (2 * k)
unfolding us_values le16
us_values-at [] k h = absurd (omega arith)
us_values-at (a ∷ []) k h = absurd (omega arith)
us_values-at (a ∷ b ∷ s) zero h = refl
us_values-at (a ∷ b ∷ s) (suc k) h =
    let d : 2 * suc k ≡ suc (suc (2 * k)) = omega arith in
    rw (d, add-one (suc (suc (2 * k))))
    (us_values-at s k (omega arith) ∙ ap (λ (j : ℕ). get_or s (2 * k) 0 + 256 * get_or s j 0) (add-one (2 * k)))

-- One value on.
pub value-next : (v : List ℕ) (k : ℕ) → k < length v / 2 → drop k (us_values v) ≡ get_or (us_values v) k 0 ∷ drop (k + 1) (us_values v)
value-next v k h = from_next (us_values v) k (omega (arith, us_values-length v))

pub values-end : (v : List ℕ) (k : ℕ) → k ≡ length v / 2 → drop k (us_values v) ≡ []
values-end v k e = from_end (us_values v) k (omega (arith, us_values-length v))

-- Two at a time.
pub pair-at : (v : List ℕ) (k a b : ℕ) → a ≡ get_or (us_values v) (2 * k) 0 → b ≡ get_or (us_values v) (2 * k + 1) 0 → 2 * k + 1 < length v / 2
    → drop (2 * k) (us_values v) ≡ a ∷ b ∷ drop (2 * (k + 1)) (us_values v)
pair-at v k a b ea eb h =
    let d : 2 * (k + 1) ≡ 2 * k + 1 + 1 = omega arith in
    rw (value-next v (2 * k) (omega arith), value-next v (2 * k + 1) h, ← ea, ← eb, d)

-- ---- Bounds of the text forms

by_flag : (n k : ℕ) (t : Bool) → k < n → Below n (cond t None (Some k))
by_flag n k true h = tt
by_flag n k false h = h

whole-on : (n : ℕ) (d : Digits) (rest : List ℕ) → d.number < n → Below n (whole_on d rest)
whole-on n d [] h = by_flag n d.number (eqb d.count 0) h
whole-on n d (c ∷ s) h = tt

pub whole_below_lem : (limit : ℕ) (s : List ℕ) → Below (10 ^ limit) (whole_of limit s)
unfolding whole_of
whole_below_lem limit s = whole-on (10 ^ limit) (digits_of limit 0 0 s) (digits_of limit 0 0 s).rest (omega (arith, digits-below limit 0 s))

within-below : (n : ℕ) → Below size_limit (if_small n)
within-below n = go (ltb n size_limit) refl
  where
    go : (t : Bool) → ltb n size_limit ≡ t → Below size_limit (cond t (Some n) None)
    go true e = ltb-true n size_limit e
    go false e = tt

by-test : (n : ℕ) (t : Bool) (a b : Option ℕ) → Below n a → Below n b → Below n (cond t a b)
by-test n true a b p q = p
by-test n false a b p q = q

exact_below : (m up down : ℕ) → Below size_limit (exact_of m up down)
unfolding exact_of
exact_below m up down = by-test size_limit (eqb (m * 10 ^ up % 10 ^ down) 0) (if_small (m * 10 ^ up / 10 ^ down)) None
    (within-below (m * 10 ^ up / 10 ^ down)) tt

scaled-below : (m after : ℕ) (e : Option Signed) → Below size_limit (scaled_by m after e)
scaled-below m after (Some (signed.Plus e)) = exact_below m (decimals + e) after
scaled-below m after (Some (signed.Minus e)) = exact_below m decimals (after + e)
scaled-below m after None = tt

end_below : (count m after : ℕ) (s : List ℕ) → Below size_limit (end_of count m after s)
unfolding end_of
end_below count m after [] = by-test size_limit (eqb count 0) None (scaled_by m after (Some (signed.Plus 0))) tt
    (scaled-below m after (Some (signed.Plus 0)))
end_below count m after (c ∷ s) =
    by-test size_limit (eqb count 0) None (cond (is_mark c) (scaled_by m after (exponent_of s)) None) tt
    (by-test size_limit (is_mark c) (scaled_by m after (exponent_of s)) None (scaled-below m after (exponent_of s)) tt)

fraction-on : (d : Digits) (rest : List ℕ) → Below size_limit (fraction_on d rest)
fraction-on d [] = end_below d.count d.number 0 []
fraction-on d (c ∷ s) =
    by-test size_limit (eqb c 0x2E) (point_by d.count (run_of d.number s)) (end_of d.count d.number 0 (c ∷ s))
    (end_below (d.count + (run_of d.number s).count) (run_of d.number s).number (run_of d.number s).count
    (run_of d.number s).rest)
    (end_below d.count d.number 0 (c ∷ s))

pub size_below : (s : List ℕ) → Below size_limit (size_of s)
unfolding size_of
size_below s = fraction-on (run_of 0 s) (run_of 0 s).rest

by-minus : (n k : ℕ) (minus : Bool) → k < n → SizeBelow n (cond minus (Some (signed.Minus k)) (Some (signed.Plus k)))
by-minus n k true h = h
by-minus n k false h = h

sign_below : (n : ℕ) (minus : Bool) (r : Option ℕ) → Below n r → SizeBelow n (with_sign minus r)
sign_below n minus (Some k) h = by-minus n k minus h
sign_below n minus None h = tt

signed_below : (n : ℕ) (size : List ℕ → Option ℕ) → ((s : List ℕ) → Below n (size s)) → (s : List ℕ) → SizeBelow n (signed_by size s)
unfolding signed_by
signed_below n size h s = sign_below n (is_minus s) (size (after_sign s)) (h (after_sign s))

if-read : (n : ℕ) (t : Bool) (a : Option Signed) → SizeBelow n a → SizeBelow n (cond t a None)
if-read n true a h = h
if-read n false a h = tt

pub integer_of-below : (v : List ℕ) → SizeBelow integer_limit (integer_of v)
unfolding integer_of
integer_of-below v =
    if-read integer_limit (is_single v) (signed_by (whole_of integer_digits) (trimmed (value_of v 0)))
    (signed_below integer_limit (whole_of integer_digits) (whole_below_lem integer_digits) (trimmed (value_of v 0)))

pub exponent-below : (s : List ℕ) → SizeBelow (10 ^ characters) (exponent_of s)
unfolding exponent_of
exponent-below s = signed_below (10 ^ characters) (whole_of characters) (whole_below_lem characters) s

pub decimal_of-below : (v : List ℕ) → SizeBelow size_limit (decimal_of v)
unfolding decimal_of
decimal_of-below v =
    if-read size_limit (leb (length (trimmed v)) characters) (signed_by size_of (trimmed v))
    (signed_below size_limit size_of size_below (trimmed v))
