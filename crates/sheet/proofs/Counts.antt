-- A tally adds one at the place of each level, so from zeros it comes to the counts; and each level adds one to the counts, and itself to
-- the sum.
use mathlib.Core.Path.{◌≡◌, refl, sym, ap, ◌∙◌}
use mathlib.Core.Bool.{cond}
use mathlib.Core.List.{List, [], ◌∷◌, ◌++◌}
use mathlib.Core.Logic.{dite}
use Prim.Native.Nat.{ℕ, zero, suc, ◌+◌, ◌-◌, ◌*◌, ◌≤◌, ◌<◌, ◌^◌}
use native.Mathlib.Decide.{ℕ_discrete}
use native.Mathlib.Omega.{arith}
use native.Mathlib.Nat.{mul-add}
use native.Mathlib.Numerals.{add-one}
use lib.Dec.{eqb}
use lib.ListN.{length, get_or, set, drop, replicate, length-replicate, get_or-replicate, length-set, drop_of_length-le}
use lib.Seq.{get_or-set_same, get_or-set_other, drop-cons, ext_get_or}
use borrow.Author.Tests.{eq-eqb, ne_eqb}
use Rattle.display.specs.Drawing.{AllLevels}
use Rattle.basics.specs.Lists.{up_to}
use Rattle.lines.proofs.Lists.{up_to-length, up_to-at}
use Rattle.sheet.specs.Sheet.{times, sum_of, counts_of}
use Rattle.sheet.specs.Sampling.{total}
use Rattle.sheet.specs.Internal.{tallied, Room}

-- ---- Sums of f 0 up to f (n - 1)

sum-append : (xs ys : List ℕ) → sum_of (xs ++ ys) ≡ sum_of xs + sum_of ys
unfolding sum_of
sum-append [] ys = omega arith
sum-append (x ∷ xs) ys = omega (arith, sum-append xs ys)

pub sum-up_to : (f : ℕ → ℕ) (n : ℕ) → sum_of (up_to f n) ≡ total f n
unfolding sum_of up_to total
sum-up_to f zero = refl
sum-up_to f (suc n) = sum-append (up_to f n) (f n ∷ []) ∙ omega (arith, sum-up_to f n)

total-zero : (n : ℕ) → total (λ _. 0) n ≡ 0
unfolding total
total-zero zero = refl
total-zero (suc n) = omega (arith, total-zero n)

total-plus : (f g : ℕ → ℕ) (n : ℕ) → total (λ y. f y + g y) n ≡ total f n + total g n
unfolding total
total-plus f g zero = refl
total-plus f g (suc n) = omega (arith, total-plus f g n)

pub total-more : (f : ℕ → ℕ) (n : ℕ) → total f n + f n ≡ total f (n + 1)
unfolding total
total-more f n = rw (add-one n)

pub total-most : (f : ℕ → ℕ) (n m : ℕ) → ((y : ℕ) → y < n → f y ≤ m) → total f n ≤ n * m
unfolding total
total-most f zero m h = omega arith
total-most f (suc n) m h =
    let e : suc n * m ≡ n * m + m = omega arith in
    omega (arith, e, total-most f n m (λ y l. h y (omega arith)), h n (omega arith))

pub total-within : (f g : ℕ → ℕ) (n : ℕ) → ((y : ℕ) → y < n → f y ≡ g y) → total f n ≡ total g n
unfolding total
total-within f g zero e = refl
total-within f g (suc n) e = omega (arith, total-within f g n (λ y h. e y (omega arith)), e n (omega arith))

-- One of n places is x, and counts as much as it weighs.
total-above : (w : ℕ → ℕ) (x n : ℕ) → n ≤ x → total (λ y. w y * cond (eqb x y) 1 0) n ≡ 0
unfolding total
total-above w x zero h = refl
total-above w x (suc n) h = rw (ne_eqb x n (λ e. omega arith)) (omega (arith, total-above w x n (omega arith)))

total-one : (w : ℕ → ℕ) (x n : ℕ) → x < n → total (λ y. w y * cond (eqb x y) 1 0) n ≡ w x
unfolding total
total-one w x zero h = absurd (omega arith)
total-one w x (suc n) h =
    dite (ℕ_discrete x n)
    (λ e. rw (eq-eqb x n e) (omega (arith, total-above w x n (omega arith), ap w e)))
    (λ d. rw (ne_eqb x n d) (omega (arith, total-one w x n (below x n h d))))
  where
    below : (x n : ℕ) → x < suc n → (x ≡ n → ⊥) → x < n
    below x n h d = omega arith

total-times : (l : List ℕ) → AllLevels l → total (λ y. times y l) 256 ≡ length l
unfolding times
total-times [] h = total-zero 256
total-times (x ∷ l) h =
    total-within (λ y. cond (eqb x y) 1 0 + times y l) (λ y. 1 * cond (eqb x y) 1 0 + times y l) 256 (λ y k. omega arith)
    ∙ (total-plus (λ y. 1 * cond (eqb x y) 1 0) (λ y. times y l) 256
    ∙ omega (arith, total-one (λ _. 1) x 256 (omega (arith, h.0)), total-times l h.1))

-- The counts of levels add up to how many there are.
pub counts-add : (l : List ℕ) → AllLevels l → sum_of (counts_of l) ≡ length l
counts-add l h = sum-up_to (λ y. times y l) 256 ∙ total-times l h

-- ---- Tallies

pub tallied-append : (xs ys c : List ℕ) → tallied (xs ++ ys) c ≡ tallied ys (tallied xs c)
unfolding tallied
tallied-append [] ys c = refl
tallied-append (x ∷ xs) ys c = tallied-append xs ys (set c x (get_or c x 0 + 1))

pub tallied-next : (l c : List ℕ) (i : ℕ) → i < length l
    → tallied (drop i l) c ≡ tallied (drop (i + 1) l) (set c (get_or l i 0) (get_or c (get_or l i 0) 0 + 1))
unfolding tallied
tallied-next l c i h = rw (add-one i, drop-cons l i 0)

pub bump-most : (c : List ℕ) (x y : ℕ) → get_or (set c x (get_or c x 0 + 1)) y 0 ≤ get_or c y 0 + 1
bump-most [] x y = omega arith
bump-most (a ∷ c) zero zero = omega arith
bump-most (a ∷ c) zero (suc y) = omega arith
bump-most (a ∷ c) (suc x) zero = omega arith
bump-most (a ∷ c) (suc x) (suc y) = bump-most c x y

-- Room for the cells that are left.
pub room-next : (c : List ℕ) (x l i : ℕ) → i < l → Room c (l - i) → Room (set c x (get_or c x 0 + 1)) (l - (i + 1))
room-next c x l i h room = record { below = λ y. omega (arith, bump-most c x y, room.below y) }

pub tallied-all : (l c : List ℕ) (i : ℕ) → length l ≤ i → tallied (drop i l) c ≡ c
unfolding tallied
tallied-all l c i h = rw (drop_of_length-le l {i = i} h)

-- ---- Tallies from zeros are the counts

zeros-at : (n y : ℕ) → ◌≡◌ {A = ℕ} (get_or (replicate n 0) y 0) 0
zeros-at zero y = refl
zeros-at (suc n) zero = refl
zeros-at (suc n) (suc y) = zeros-at n y

pub room-start : (counts : List ℕ) (n : ℕ) → counts ≡ replicate 256 0 → n ≤ 281462092005375 → Room counts n
room-start counts n e h = record { below = λ y. rw (e, zeros-at 256 y) (omega arith) }

pub tallied-length : (l c : List ℕ) → length (tallied l c) ≡ length c
unfolding tallied
tallied-length [] c = refl
tallied-length (x ∷ l) c = tallied-length l (set c x (get_or c x 0 + 1)) ∙ length-set c x (get_or c x 0 + 1)

bump_at : (c : List ℕ) (x y : ℕ) → y < length c → get_or (set c x (get_or c x 0 + 1)) y 0 ≡ get_or c y 0 + cond (eqb x y) 1 0
bump_at c x y h =
    dite (ℕ_discrete x y)
    (λ e. rw (eq-eqb x y e, e) (get_or-set_same c y (get_or c y 0 + 1) 0 h))
    (λ d. rw (ne_eqb x y d) (get_or-set_other c x y (get_or c x 0 + 1) 0 (λ e. d (sym e)) ∙ omega arith))

pub tallied-at : (l c : List ℕ) (y : ℕ) → y < length c → get_or (tallied l c) y 0 ≡ get_or c y 0 + times y l
unfolding tallied times
tallied-at [] c y h = omega arith
tallied-at (x ∷ l) c y h =
    tallied-at l (set c x (get_or c x 0 + 1)) y (rw (length-set c x (get_or c x 0 + 1)) h) ∙ omega (arith, bump_at c x y h)

-- Counting from 256 zeros gives the counts of the sheet.
pub counts-are : (l : List ℕ) → tallied l (replicate 256 0) ≡ counts_of l
counts-are l =
    ext_get_or 0 (tallied l (replicate 256 0)) (counts_of l)
    (tallied-length l (replicate 256 0) ∙ (length-replicate {A = ℕ} 256 0 ∙ sym (up_to-length (λ y. times y l) 256)))
    (λ y h.
    let k : y < 256 = omega (arith, tallied-length l (replicate 256 0), length-replicate {A = ℕ} 256 0) in
    tallied-at l (replicate 256 0) y (omega (arith, length-replicate {A = ℕ} 256 0))
    ∙ (ap (λ (x : ℕ). x + times y l) (get_or-replicate {A = ℕ} 256 y 0 0 k) ∙ (omega arith ∙ sym (up_to-at (λ x. times x l) 256 y k))))

-- The count of a level.
pub count-is : (l : List ℕ) (y : ℕ) → y < 256 → get_or (counts_of l) y 0 ≡ times y l
count-is l y h = up_to-at (λ x. times x l) 256 y h

-- Every place of a list f 0, f 1, .. is no more than what each f is.
pub up_to-most : (f : ℕ → ℕ) (n m : ℕ) → ((k : ℕ) → f k ≤ m) → (y : ℕ) → get_or (up_to f n) y 0 ≤ m
unfolding up_to
up_to-most f zero m h y = omega arith
up_to-most f (suc n) m h y = append-most (up_to f n) (f n) m (up_to-most f n m h) (h n) y
  where
    append-most : (l : List ℕ) (x m : ℕ) → ((y : ℕ) → get_or l y 0 ≤ m) → x ≤ m → (y : ℕ) → get_or (l ++ (x ∷ [])) y 0 ≤ m
    append-most [] x m a b zero = b
    append-most [] x m a b (suc y) = omega arith
    append-most (z ∷ l) x m a b zero = a zero
    append-most (z ∷ l) x m a b (suc y) = append-most l x m (λ i. a (suc i)) b y

-- No count is above how many there are.
pub times-most : (y : ℕ) (l : List ℕ) → times y l ≤ length l
unfolding times
times-most y [] = omega arith
times-most y (x ∷ l) =
    dite (ℕ_discrete x y)
    (λ e. rw (eq-eqb x y e) (omega (arith, times-most y l)))
    (λ d. rw (ne_eqb x y d) (omega (arith, times-most y l)))

-- ---- The sum of all levels, from the counts

-- Each level times its count: so the sum needs nothing more for a cell.
pub sum-weighted : (l : List ℕ) → AllLevels l → total (λ y. y * times y l) 256 ≡ sum_of l
unfolding times sum_of
sum-weighted [] h = total-within (λ y. y * 0) (λ _. 0) 256 (λ y k. omega arith) ∙ total-zero 256
sum-weighted (x ∷ l) h =
    total-within (λ y. y * (cond (eqb x y) 1 0 + times y l)) (λ y. y * cond (eqb x y) 1 0 + y * times y l) 256
    (λ y k. mul-add y (cond (eqb x y) 1 0) (times y l))
    ∙ (total-plus (λ y. y * cond (eqb x y) 1 0) (λ y. y * times y l) 256
    ∙ omega (arith, total-one (λ y. y) x 256 (omega (arith, h.0)), sum-weighted l h.1))
