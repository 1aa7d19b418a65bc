-- What the digits that the code read come to, for each form of a number: a case for each answer of the code.
use Rattle.std.specs.Prelude.{Some, None}
use mathlib.Core.Path.{◌≡◌, refl, ◌∙◌}
use Prim.Native.Nat.{ℕ, suc, ◌+◌, ◌-◌, ◌*◌, ◌^◌, ◌≤◌}
use native.Mathlib.Nat.{pow-le-pow_right, mul-le-mul_left, le_trans}
use native.Mathlib.Omega.{arith}
use mathlib.Core.List.{List, [], ◌∷◌}
use mathlib.Core.Bool.{Bool, true, false, cond, ◌||◌}
use lib.ListN.{length, get_or, drop}
use lib.Dec.{eqb}
use borrow.Author.Tests.{eq-eqb, ne_eqb}
use Rattle.value.specs.declared.Run.{Run}
use Rattle.value.specs.Number.{digits_of, after_sign, whole_of, decimals, run_of, exact_of, scaled_by, is_mark, exponent_of}
use Rattle.value.specs.Number.{characters, end_of, point_by, size_of}
use Rattle.value.specs.Internal.{DigitsRead}
use Rattle.basics.proofs.Lists.{from_next, from_end}
use Rattle.value.proofs.Runs.{digits-size, digits-below}

-- What follows the digits: nothing, or a byte.
module _ (limit start : ℕ) (s : List ℕ) (r : Run) (d : DigitsRead limit start s r) where
  rest-none : r.count ≡ length s → (digits_of limit start 0 s).rest ≡ []
  rest-none e = d.rest ∙ from_end s r.count (omega arith)

  rest_some : (r.count ≡ length s → ⊥) → (digits_of limit start 0 s).rest ≡ get_or s r.count 0 ∷ drop (r.count + 1) s
  rest_some e = d.rest ∙ from_next s r.count (omega (arith, d.within))

-- ---- Digits alone

module _ (limit : ℕ) (s : List ℕ) (r : Run) (d : DigitsRead limit 0 s r) where
  pub whole-none : r.count ≡ length s → r.count ≡ 0 → whole_of limit s ≡ None
  unfolding whole_of
  whole-none e z = rw (rest-none limit 0 s r d e, ← d.count, eq-eqb r.count 0 z)

  pub whole_is : r.count ≡ length s → (r.count ≡ 0 → ⊥) → whole_of limit s ≡ Some r.number
  unfolding whole_of
  whole_is e z = rw (rest-none limit 0 s r d e, ← d.count, ne_eqb r.count 0 z, ← d.number)

  pub whole-more : (r.count ≡ length s → ⊥) → whole_of limit s ≡ None
  unfolding whole_of
  whole-more e = rw (rest_some limit 0 s r d e)

-- ---- DS

pub point-is : (before whole : ℕ) (s : List ℕ) (r : Run) → DigitsRead (length s) whole s r
    → point_by before (run_of whole s) ≡ end_of (before + r.count) r.number r.count (drop r.count s)
point-is before whole s r d = rw (d.rest, ← d.count, ← d.number)

module _ (s : List ℕ) (r : Run) (d : DigitsRead (length s) 0 s r) where
  pub size-end : r.count ≡ length s → size_of s ≡ end_of r.count r.number 0 (drop r.count s)
  unfolding size_of
  size-end e = rw (rest-none (length s) 0 s r d e, ← d.count, ← d.number, from_end s r.count (omega arith))

  pub size-point : (r.count ≡ length s → ⊥) → get_or s r.count 0 ≡ 0x2E
      → size_of s ≡ point_by r.count (run_of r.number (drop (r.count + 1) s))
  unfolding size_of
  size-point e p = rw (rest_some (length s) 0 s r d e, eq-eqb (get_or s r.count 0) 0x2E p, ← d.count, ← d.number)

  pub size-other : (r.count ≡ length s → ⊥) → (get_or s r.count 0 ≡ 0x2E → ⊥)
      → size_of s ≡ end_of r.count r.number 0 (drop r.count s)
  unfolding size_of
  size-other e p = rw (
    rest_some (length s) 0 s r d e,
    ne_eqb (get_or s r.count 0) 0x2E p,
    ← d.count,
    ← d.number,
    from_next s r.count (omega (arith, d.within)),
  )

module _ (count m after : ℕ) (s : List ℕ) where
  pub end_none : count ≡ 0 → end_of count m after s ≡ None
  unfolding end_of
  end_none z = go s
    where
      go : (l : List ℕ) → end_of count m after l ≡ None
      go [] = rw (eq-eqb count 0 z)
      go (c ∷ l) = rw (eq-eqb count 0 z)

  pub end_empty : (count ≡ 0 → ⊥) → length s ≡ 0 → end_of count m after s ≡ exact_of m decimals after
  unfolding end_of
  end_empty z e = rw (from_empty s e, ne_eqb count 0 z)
    where
      from_empty : (l : List ℕ) → length l ≡ 0 → l ≡ []
      from_empty [] h = refl
      from_empty (c ∷ l) h = absurd (omega arith)

  pub end_mark : (count ≡ 0 → ⊥) → (length s ≡ 0 → ⊥) → is_mark (get_or s 0 0) ≡ true
      → end_of count m after s ≡ scaled_by m after (exponent_of (drop 1 s))
  unfolding end_of
  end_mark z e p = go s e p
    where
      go : (l : List ℕ) → (length l ≡ 0 → ⊥) → is_mark (get_or l 0 0) ≡ true → end_of count m after l ≡ scaled_by m after (exponent_of (drop 1 l))
      go [] e p = absurd (e refl)
      go (c ∷ l) e p = rw (ne_eqb count 0 z, p)

  pub end-other : (count ≡ 0 → ⊥) → (length s ≡ 0 → ⊥) → is_mark (get_or s 0 0) ≡ false → end_of count m after s ≡ None
  unfolding end_of
  end-other z e p = go s e p
    where
      go : (l : List ℕ) → (length l ≡ 0 → ⊥) → is_mark (get_or l 0 0) ≡ false → end_of count m after l ≡ None
      go [] e p = absurd (e refl)
      go (c ∷ l) e p = rw (ne_eqb count 0 z, p)

-- ---- A sign in front

pub after-short : (s : List ℕ) → length (after_sign s) ≤ length s
after-short [] = omega arith
after-short (c ∷ s) = go (eqb c 0x2B || eqb c 0x2D)
  where
    go : (t : Bool) → length (cond t s (c ∷ s)) ≤ suc (length s)
    go true = omega arith
    go false = omega arith

-- ---- Sixteen characters make a number of 64 bits

pub run_fits : (n : ℕ) → n ≤ characters → (0 + 1) * 10 ^ n ≤ 10 ^ characters
run_fits n h = omega (arith, pow-le-pow_right {n = 10} (omega arith) {i = n} {j = 16} h)

pub number_fits : (whole : ℕ) (s : List ℕ) (r : Run) → DigitsRead (length s) whole s r → (whole + 1) * 10 ^ length s ≤ 10 ^ characters
    → r.number ≤ 10 ^ characters
number_fits whole s r d h = omega (arith, d.number, digits-below (length s) whole s)

-- With what follows the point as digits.
pub point-fits : (s : List ℕ) (r : Run) → DigitsRead (length s) 0 s r → length s ≤ 16 → (k : ℕ) → k + r.count ≤ length s
    → (r.number + 1) * 10 ^ k ≤ 10 ^ characters
point-fits s r d h k l =
    let n = (digits_of (length s) 0 0 s).number in
    let more : k ≤ length s + 0 - (digits_of (length s) 0 0 s).count = omega (arith, d.count) in
    let a : (n + 1) * 10 ^ k ≤ (n + 1) * 10 ^ (length s + 0 - (digits_of (length s) 0 0 s).count) = mul-le-mul_left (n + 1)
    (pow-le-pow_right {n = 10} (omega arith) {i = k} {j = length s + 0 - (digits_of (length s) 0 0 s).count} more) in
    rw d.number (le_trans a (le_trans (digits-size (length s) 0 0 s) (run_fits (length s) h)))
