-- The lowest and the highest level of a list are the first and the last place with a count above 0.
use mathlib.Core.Path.{◌≡◌, refl, sym, ap, ◌∙◌}
use mathlib.Core.List.{List, [], ◌∷◌}
use mathlib.Core.Logic.{◌⊎◌, inl, inr, ⊎_elim, dite}
use Prim.Native.Nat.{ℕ, zero, suc, ◌+◌, ◌-◌, ◌≤◌, ◌<◌, min, max}
use native.Mathlib.Nat.{min-le_left, min-le_right, le-max_left, le-max_right, min-eq_left, min-eq_right, max-eq_left, max-eq_right, max-le}
use native.Mathlib.Decide.{ℕ_discrete}
use native.Mathlib.Omega.{arith}
use lib.ListN.{get_or}
use borrow.Author.Tests.{eq-eqb, ne_eqb}
use Rattle.display.specs.Drawing.{AllLevels}
use Rattle.sheet.specs.Sheet.{times, counts_of, lowest_of, highest_of}
use Rattle.sheet.specs.Internal.{First, Last}
use Rattle.sheet.proofs.Counts.{count-is}

pub either : (a b : ℕ) → (a ≤ b) ⊎ (b ≤ a)
either zero b = inl (omega arith)
either (suc a) zero = inr (omega arith)
either (suc a) (suc b) = ⊎_elim (λ h. inl (omega arith)) (λ h. inr (omega arith)) (either a b)

pub times-same : (x : ℕ) (l : List ℕ) → 1 ≤ times x (x ∷ l)
unfolding times
times-same x l = rw (eq-eqb x x refl) (omega arith)

pub times_more : (y x : ℕ) (l : List ℕ) → times y l ≤ times y (x ∷ l)
unfolding times
times_more y x l = omega arith

times-other : (y x : ℕ) (l : List ℕ) → (x ≡ y → ⊥) → times y l ≡ 0 → times y (x ∷ l) ≡ 0
unfolding times
times-other y x l d e = rw (ne_eqb x y d, e)

-- ---- The lowest

pub low-most : (l : List ℕ) → lowest_of l ≤ 255
unfolding lowest_of
low-most [] = omega arith
low-most (x ∷ l) = omega (arith, min-le_right x (lowest_of l), low-most l)

pub low-none : (l : List ℕ) (y : ℕ) → y < lowest_of l → times y l ≡ 0
unfolding lowest_of times
low-none [] y h = refl
low-none (x ∷ l) y h =
    times-other y x l (λ e. omega (arith, min-le_left x (lowest_of l))) (low-none l y (omega (arith, min-le_right x (lowest_of l))))

pub low-found : (l : List ℕ) → (1 ≤ times (lowest_of l) l) ⊎ (lowest_of l ≡ 255)
unfolding lowest_of
low-found [] = inr refl
low-found (x ∷ l) = ⊎_elim left (right (low-found l)) (either x (lowest_of l))
  where
    left : x ≤ lowest_of l → (1 ≤ times (min x (lowest_of l)) (x ∷ l)) ⊎ (min x (lowest_of l) ≡ 255)
    left h = inl (rw (min-eq_left h) (times-same x l))

    right : (1 ≤ times (lowest_of l) l) ⊎ (lowest_of l ≡ 255) → lowest_of l ≤ x
        → (1 ≤ times (min x (lowest_of l)) (x ∷ l)) ⊎ (min x (lowest_of l) ≡ 255)
    right (inl f) h = inl (rw (min-eq_right h) (omega (arith, f, times_more (lowest_of l) x l)))
    right (inr e) h = inr (min-eq_right h ∙ e)

-- ---- The highest

pub high-most : (l : List ℕ) → AllLevels l → highest_of l ≤ 255
unfolding highest_of
high-most [] a = omega arith
high-most (x ∷ l) a = max-le a.0 (high-most l a.1)

pub high-none : (l : List ℕ) (y : ℕ) → highest_of l < y → times y l ≡ 0
unfolding highest_of times
high-none [] y h = refl
high-none (x ∷ l) y h =
    times-other y x l (λ e. omega (arith, le-max_left x (highest_of l))) (high-none l y (omega (arith, le-max_right x (highest_of l))))

pub high-found : (l : List ℕ) → (1 ≤ times (highest_of l) l) ⊎ (highest_of l ≡ 0)
unfolding highest_of
high-found [] = inr refl
high-found (x ∷ l) = ⊎_elim left (right (high-found l)) (either (highest_of l) x)
  where
    left : highest_of l ≤ x → (1 ≤ times (max x (highest_of l)) (x ∷ l)) ⊎ (max x (highest_of l) ≡ 0)
    left h = inl (rw (max-eq_left h) (times-same x l))

    right : (1 ≤ times (highest_of l) l) ⊎ (highest_of l ≡ 0) → x ≤ highest_of l
        → (1 ≤ times (max x (highest_of l)) (x ∷ l)) ⊎ (max x (highest_of l) ≡ 0)
    right (inl f) h = inl (rw (max-eq_right h) (omega (arith, f, times_more (highest_of l) x l)))
    right (inr e) h = inr (max-eq_right h ∙ e)

-- ---- What the code finds

-- One place more of which there is none.
pub none_more : (f : ℕ → ℕ) (y : ℕ) → ((z : ℕ) → z < y → f z ≡ 0) → f y ≡ 0 → (z : ℕ) → z < y + 1 → f z ≡ 0
none_more f y h e z l = dite (ℕ_discrete z y) (λ q. ap f q ∙ e) (λ d. h z (below d l))
  where
    below : (z ≡ y → ⊥) → z < y + 1 → z < y
    below d l = omega arith

pub none-less : (f : ℕ → ℕ) (y : ℕ) → 0 < y → ((z : ℕ) → y < z → z < 256 → f z ≡ 0) → f y ≡ 0 → (z : ℕ) → y - 1 < z → z < 256 → f z ≡ 0
none-less f y some h e z l k = dite (ℕ_discrete z y) (λ q. ap f q ∙ e) (λ d. h z (above d l) k)
  where
    above : (z ≡ y → ⊥) → y - 1 < z → y < z
    above d l = omega arith

-- Below, at, or above.
order : (a b : ℕ) → (a < b) ⊎ ((b < a) ⊎ (a ≡ b))
order zero zero = inr (inr refl)
order zero (suc b) = inl (omega arith)
order (suc a) zero = inr (inl (omega arith))
order (suc a) (suc b) = ⊎_elim (λ h. inl (omega arith)) (⊎_elim (λ h. inr (inl (omega arith))) (λ e. inr (inr (ap suc e)))) (order a b)

none-some : (n : ℕ) → 1 ≤ n → n ≡ 0 → ⊥
none-some n h k = omega arith

module _ (l : List ℕ) (a : AllLevels l) (counts : List ℕ) (e : counts ≡ counts_of l) (r : ℕ) where
  count_at : (y : ℕ) → y ≤ 255 → get_or counts y 0 ≡ times y l
  count_at y h = ap (λ (c : List ℕ). get_or c y 0) e ∙ count-is l y (omega arith)

  pub first-is : First counts r → r ≡ lowest_of l
  first-is f = ⊎_elim (λ k. below k f.found) (⊎_elim (λ k. above k (low-found l)) (λ q. q)) (order r (lowest_of l))
    where
      below : r < lowest_of l → (1 ≤ get_or counts r 0) ⊎ (r ≡ 255) → r ≡ lowest_of l
      below k (inl m) = absurd (none-some (get_or counts r 0) m (count_at r f.most ∙ low-none l r k))
      below k (inr m) = omega (arith, m, k, low-most l)

      above : lowest_of l < r → (1 ≤ times (lowest_of l) l) ⊎ (lowest_of l ≡ 255) → r ≡ lowest_of l
      above k (inl m) = absurd
          (none-some (times (lowest_of l) l) m (sym (count_at (lowest_of l) (low-most l)) ∙ f.none_below (lowest_of l) k))
      above k (inr m) = omega (arith, m, k, f.most)

  pub last-is : Last counts r → r ≡ highest_of l
  last-is f = ⊎_elim (λ k. below k (high-found l)) (⊎_elim (λ k. above k f.found) (λ q. q)) (order r (highest_of l))
    where
      below : r < highest_of l → (1 ≤ times (highest_of l) l) ⊎ (highest_of l ≡ 0) → r ≡ highest_of l
      below k (inl m) = absurd (none-some (times (highest_of l) l) m
          (sym (count_at (highest_of l) (high-most l a)) ∙ f.none_above (highest_of l) k (omega (arith, high-most l a))))
      below k (inr m) = omega (arith, m, k)

      above : highest_of l < r → (1 ≤ get_or counts r 0) ⊎ (r ≡ 0) → r ≡ highest_of l
      above k (inl m) = absurd (none-some (get_or counts r 0) m (count_at r f.most ∙ high-none l r k))
      above k (inr m) = omega (arith, m, k)
