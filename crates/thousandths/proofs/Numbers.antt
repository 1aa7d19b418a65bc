-- A number that was read as n thousandths is read as 1000 n millionths.
use Rattle.std.specs.Prelude.{Option, Some, None}
use mathlib.Core.Path.{◌≡◌, refl, ap, ◌∙◌}
use mathlib.Core.Bool.{Bool, true, false, cond, not, ◌||◌, false≢true}
use mathlib.Core.List.{List, [], ◌∷◌}
use Prim.Native.Nat.{ℕ, zero, suc, ◌+◌, ◌-◌, ◌*◌, ◌^◌, ◌≤◌, ◌<◌}
use native.Mathlib.Nat.{mul_left_comm, one-le-pow}
use native.Mathlib.Omega.{arith}
use lib.ListN.{length}
use lib.Pow.{pow-add}
use lib.Dec.{eqb}
use borrow.Author.Tests.{ne_eqb, eqb-true, eqb-false, le-leb}
use Rattle.value.specs.declared.Signed.{Signed}
use Rattle.value.specs.Text.{trimmed}
use Rattle.value.specs.Number as current
use Rattle.value.specs.Number.{Digits, is_digit, digits_of, after_sign, is_minus, with_sign, signed_by, run_of, if_small, exact_of, end_of, is_number}
use Rattle.value.proofs.Runs.{digits-size, digits-below}
use Rattle.steps.proofs.Given.{never}
use Rattle.value.proofs.Powers.{within-is, exact-up}
use Rattle.thousandths.specs.Number.{decimals_before, unit_before, point_on_before, fraction_on_before, size_of_before, decimal_of_before}
use Rattle.thousandths.specs.Number.{factor, scaled}

-- ---- Digits

-- No digit follows.
abbrev stops : List ℕ → Bool
stops [] = true
stops (c ∷ s) = not (is_digit c)

-- Where the digits ended before the limit, a larger limit reads the same.
same_digits : (limit more n k : ℕ) (s : List ℕ) → stops (digits_of limit n k s).rest ≡ true → length s ≤ more
    → digits_of more n k s ≡ digits_of limit n k s
unfolding digits_of
same_digits zero zero n k s e h = refl
same_digits zero (suc more) n k [] e h = refl
same_digits zero (suc more) n k (c ∷ s) e h = go (is_digit c) e
  where
    go : (t : Bool) → not t ≡ true → cond t (digits_of more (10 * n + (c - 0x30)) (k + 1) s) (record { number = n; count = k; rest = c ∷ s })
        ≡ record { number = n; count = k; rest = c ∷ s }
    go true e = absurd (false≢true e)
    go false e = refl
same_digits (suc limit) zero n k [] e h = refl
same_digits (suc limit) (suc more) n k [] e h = refl
same_digits (suc limit) zero n k (c ∷ s) e h = absurd (omega arith)
same_digits (suc limit) (suc more) n k (c ∷ s) e h = go (is_digit c)
    (λ q. same_digits limit more (10 * n + (c - 0x30)) (k + 1) s q (omega arith)) e
  where
    go : (t : Bool) → (stops (digits_of limit (10 * n + (c - 0x30)) (k + 1) s).rest ≡ true
        → digits_of more (10 * n + (c - 0x30)) (k + 1) s ≡ digits_of limit (10 * n + (c - 0x30)) (k + 1) s)
        → stops (cond t (digits_of limit (10 * n + (c - 0x30)) (k + 1) s) (record { number = n; count = k; rest = c ∷ s })).rest ≡ true
        → cond t (digits_of more (10 * n + (c - 0x30)) (k + 1) s) (record { number = n; count = k; rest = c ∷ s })
        ≡ cond t (digits_of limit (10 * n + (c - 0x30)) (k + 1) s) (record { number = n; count = k; rest = c ∷ s })
    go true f e = f e
    go false f e = refl

-- How long what was read is.
record Counted (limit n k : ℕ) (s : List ℕ) (d : Digits) : Type 0 where
  pub all : d.count + length d.rest ≡ k + length s
  pub few : d.count ≤ limit + k

counted : (limit n k : ℕ) (s : List ℕ) → Counted limit n k s (digits_of limit n k s)
unfolding digits_of
counted zero n k s = record { all = refl; few = omega arith }
counted (suc limit) n k [] = record { all = refl; few = omega arith }
counted (suc limit) n k (c ∷ s) = go (is_digit c) (counted limit (10 * n + (c - 0x30)) (k + 1) s)
  where
    go : (t : Bool) → Counted limit (10 * n + (c - 0x30)) (k + 1) s (digits_of limit (10 * n + (c - 0x30)) (k + 1) s)
        → Counted (suc limit) n k (c ∷ s)
        (cond t (digits_of limit (10 * n + (c - 0x30)) (k + 1) s) (record { number = n; count = k; rest = c ∷ s }))
    go true r = record { all = omega (arith, r.all); few = omega (arith, r.few) }
    go false r = record { all = refl; few = omega arith }

-- ---- Sizes

pub record Reads (s : List ℕ) (n : ℕ) : Type 0 where
  pub is : current.size_of s ≡ Some (factor * n)
  pub short : length s ≤ 10

chosen : (k m n : ℕ) → cond (eqb k 0) None (Some m) ≡ Some n → (k ≡ 0 → ⊥) × (m ≡ n)
chosen k m n e = go (eqb k 0) refl e
  where
    go : (t : Bool) → eqb k 0 ≡ t → cond t None (Some m) ≡ Some n → (k ≡ 0 → ⊥) × (m ≡ n)
    go true p e = absurd (never e)
    go false p e = (eqb-false k 0 p, let q : m ≡ n = cc in q)

-- With `after` decimals, at most 3.
powers : (m after : ℕ) → after ≤ 3 → m * 10 ^ (current.decimals - after) ≡ factor * (m * 10 ^ (3 - after))
powers m after h =
    let d : current.decimals - after ≡ current.decimals - decimals_before + (decimals_before - after) = omega arith in
    ap (λ (x : ℕ). m * 10 ^ x) d ∙ ap (λ (x : ℕ). m * x) (pow-add 10 (current.decimals - decimals_before) (decimals_before - after))
    ∙ mul_left_comm m factor (10 ^ (decimals_before - after))

exact-is : (m after : ℕ) → after ≤ 3 → m * 10 ^ (3 - after) < 1000000000
    → exact_of m current.decimals after ≡ Some (factor * (m * 10 ^ (3 - after)))
exact-is m after h b =
    exact-up m current.decimals after (omega arith)
    ∙ ap if_small (powers m after h)
    ∙ within-is (factor * (m * 10 ^ (3 - after))) (omega arith)

end_is : (count m after : ℕ) → (count ≡ 0 → ⊥) → after ≤ 3 → m * 10 ^ (3 - after) < 1000000000
    → end_of count m after [] ≡ Some (factor * (m * 10 ^ (3 - after)))
unfolding end_of
end_is count m after z h b = rw (ne_eqb count 0 z) (exact-is m after h b)

grown : (m p a b : ℕ) → 1 ≤ p → (m + 1) * p ≤ a → a ≤ b → m * p < b
grown m p a b q h l = omega arith

point-size : (whole : ℕ) (s : List ℕ) → whole < 1000000 → (digits_of 3 whole 0 s).number * 10 ^ (3 - (digits_of 3 whole 0 s).count) < 1000000000
point-size whole s h =
    grown (digits_of 3 whole 0 s).number (10 ^ (3 - (digits_of 3 whole 0 s).count)) ((whole + 1) * 1000) 1000000000
    (one-le-pow (3 - (digits_of 3 whole 0 s).count) 10 (omega arith)) (digits-size 3 whole 0 s) (omega arith)

-- Behind a point.
point-reads : (before whole : ℕ) (s : List ℕ) (n : ℕ) → whole < 1000000
    → point_on_before before (digits_of decimals_before whole 0 s) (digits_of decimals_before whole 0 s).rest ≡ Some n
    → (current.point_by before (run_of whole s) ≡ Some (factor * n)) × (length s ≤ 3)
point-reads before whole s n h e = go (digits_of 3 whole 0 s).rest refl e
  where
    go : (rest : List ℕ) → (digits_of 3 whole 0 s).rest ≡ rest → point_on_before before (digits_of decimals_before whole 0 s) rest ≡ Some n
        → (current.point_by before (run_of whole s) ≡ Some (factor * n)) × (length s ≤ 3)
    go (c ∷ t) r e = absurd (never e)
    go [] r e =
        let x = digits_of 3 whole 0 s in
        let k = counted 3 whole 0 s in
        let p = chosen (before + x.count) (x.number * 10 ^ (3 - x.count)) n e in
        let same : run_of whole s ≡ x = same_digits 3 (length s) whole 0 s (ap stops r) (omega arith) in
        let l = ap (λ (y : List ℕ). length y) r in (
          ap (current.point_by before) same
              ∙ ap (end_of (before + x.count) x.number x.count) r
              ∙ end_is (before + x.count) x.number x.count p.0 (omega (arith, k.few)) (point-size whole s h)
              ∙ ap (λ (y : ℕ). Some (factor * y)) p.1,
          omega (arith, k.all, k.few, l),
        )

pub reads : (s : List ℕ) (n : ℕ) → size_of_before s ≡ Some n → Reads s n
unfolding size_of_before current.size_of
reads s n e = go (digits_of 6 0 0 s).rest refl e
  where
    go : (rest : List ℕ) → (digits_of 6 0 0 s).rest ≡ rest → fraction_on_before (digits_of 6 0 0 s) rest ≡ Some n → Reads s n
    go [] r e =
        let d = digits_of 6 0 0 s in
        let k = counted 6 0 0 s in
        let p = chosen d.count (d.number * unit_before) n e in
        let same : run_of 0 s ≡ d = same_digits 6 (length s) 0 0 s (ap stops r) (omega arith) in
        let l = ap (λ (y : List ℕ). length y) r in
        let b : d.number < 1000000 = digits-below 6 0 s in
        record {
          is =
              ap current.fraction_by same
              ∙ ap (current.fraction_on d) r
              ∙ end_is d.count d.number 0 p.0 (omega arith) (omega arith)
              ∙ ap (λ (y : ℕ). Some (factor * y)) p.1;
          short = omega (arith, k.all, k.few, l);
        }
    go (c ∷ t) r e = by-point (eqb c 0x2E) refl e
      where
        by-point : (b : Bool) → eqb c 0x2E ≡ b
            → cond b (point_on_before (digits_of 6 0 0 s).count (digits_of 3 (digits_of 6 0 0 s).number 0 t)
            (digits_of 3 (digits_of 6 0 0 s).number 0 t).rest) None ≡ Some n
            → Reads s n
        by-point false q e = absurd (never e)
        by-point true q e =
            let d = digits_of 6 0 0 s in
            let k = counted 6 0 0 s in
            let point : stops (c ∷ t) ≡ true = rw (eqb-true c 0x2E q) in
            let same : run_of 0 s ≡ d = same_digits 6 (length s) 0 0 s (ap stops r ∙ point) (omega arith) in
            let l = ap (λ (y : List ℕ). length y) r in
            let p = point-reads d.count d.number t n (digits-below 6 0 s) e in
            record {
              is =
                  ap current.fraction_by same
                  ∙ ap (current.fraction_on d) r
                  ∙ rw q p.0;
              short = omega (arith, k.all, k.few, l, p.1);
            }

-- ---- With a sign, and without outer spaces

record SignedReads (s : List ℕ) (old : Option Signed) : Type 0 where
  pub is : signed_by current.size_of s ≡ scaled old
  pub short : length s ≤ 11

sign_reads : (minus : Bool) (t : List ℕ) (o : Option ℕ) → size_of_before t ≡ o → is_number (with_sign minus o) ≡ true
    → (with_sign minus (current.size_of t) ≡ scaled (with_sign minus o)) × (length t ≤ 10)
sign_reads true t (Some n) q e = let r = reads t n q in (ap (with_sign true) r.is, r.short)
sign_reads false t (Some n) q e = let r = reads t n q in (ap (with_sign false) r.is, r.short)
sign_reads minus t None q e = absurd (false≢true e)

after-long : (s : List ℕ) → length s ≤ length (after_sign s) + 1
after-long [] = omega arith
after-long (c ∷ s) = go (eqb c 0x2B || eqb c 0x2D)
  where
    go : (t : Bool) → suc (length s) ≤ length (cond t s (c ∷ s)) + 1
    go true = omega arith
    go false = omega arith

signed_reads : (s : List ℕ) → is_number (signed_by size_of_before s) ≡ true → SignedReads s (signed_by size_of_before s)
unfolding signed_by
signed_reads s e =
    let r = sign_reads (is_minus s) (after_sign s) (size_of_before (after_sign s)) refl e in
    record { is = r.0; short = omega (arith, r.1, after-long s) }

pub numbers : (v : List ℕ) → is_number (decimal_of_before v) ≡ true → current.decimal_of v ≡ scaled (decimal_of_before v)
unfolding decimal_of_before current.decimal_of
numbers v e =
    let r = signed_reads (trimmed v) e in
    rw (le-leb (length (trimmed v)) 16 (omega (arith, r.short))) r.is
