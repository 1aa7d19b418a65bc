-- A frame is in some pair exactly if the pairs that start at it or before reach it, and the largest mark up to the frame is how far those
-- reach.
use mathlib.Core.Path.{◌≡◌, refl, sym, ap, ◌∙◌}
use mathlib.Core.Bool.{Bool, true, false, cond, ◌&&◌, ◌||◌}
use mathlib.Core.List.{List, [], ◌∷◌}
use mathlib.Core.Logic.{◌⊎◌, inl, inr, ⊎_elim}
use Prim.Native.Nat.{ℕ, zero, suc, ◌+◌, ◌-◌, ◌≤◌, ◌<◌, max}
use native.Mathlib.Nat.{le-max_left, le-max_right, max-le, zero-max, max-zero}
use native.Mathlib.Omega.{arith}
use lib.Dec.{eqb, leb}
use lib.ListN.{get_or}
use borrow.Author.Tests.{eq-eqb, ne_eqb, le-leb, lt-leb}
use Rattle.steps.specs.Steps.{is_in_pairs}
use Rattle.ranges.specs.Internal.{mark_of, reach_of, far_of}

pub either : (a b : ℕ) → (a ≤ b) ⊎ (b < a)
either zero b = inl (omega arith)
either (suc a) zero = inr (omega arith)
either (suc a) (suc b) = ⊎_elim (λ h. inl (omega arith)) (λ h. inr (omega arith)) (either a b)

-- ---- The larger of numbers

pub max-pairs : (a b c d : ℕ) → max (max a b) (max c d) ≡ max (max a c) (max b d)
max-pairs a b c d =
    let p : max (max a b) (max c d) ≤ max (max a c) (max b d) = max-le (max-le
    (omega (arith, le-max_left a c, le-max_left (max a c) (max b d)))
    (omega (arith, le-max_left b d, le-max_right (max a c) (max b d)))) (max-le
    (omega (arith, le-max_right a c, le-max_left (max a c) (max b d)))
    (omega (arith, le-max_right b d, le-max_right (max a c) (max b d)))) in
    let q : max (max a c) (max b d) ≤ max (max a b) (max c d) = max-le (max-le
    (omega (arith, le-max_left a b, le-max_left (max a b) (max c d)))
    (omega (arith, le-max_left c d, le-max_right (max a b) (max c d)))) (max-le
    (omega (arith, le-max_right a b, le-max_left (max a b) (max c d)))
    (omega (arith, le-max_right c d, le-max_right (max a b) (max c d)))) in
    omega (arith, p, q)

pub max-next : (a b c : ℕ) → max (max a b) c ≡ max a (max b c)
max-next a b c =
    let p : max (max a b) c ≤ max a (max b c) = max-le
    (max-le (le-max_left a (max b c)) (omega (arith, le-max_left b c, le-max_right a (max b c))))
    (omega (arith, le-max_right b c, le-max_right a (max b c))) in
    let q : max a (max b c) ≤ max (max a b) c = max-le (omega (arith, le-max_left a b, le-max_left (max a b) c))
    (max-le (omega (arith, le-max_right a b, le-max_left (max a b) c)) (le-max_right (max a b) c)) in
    omega (arith, p, q)

leb-max : (f a b : ℕ) → leb f (max a b) ≡ (leb f a || leb f b)
leb-max f a b = ⊎_elim yes (λ h. ⊎_elim (right h) (no h) (either f b)) (either f a)
  where
    yes : f ≤ a → leb f (max a b) ≡ (leb f a || leb f b)
    yes h = rw (le-leb f a h, le-leb f (max a b) (omega (arith, le-max_left a b)))

    right : a < f → f ≤ b → leb f (max a b) ≡ (leb f a || leb f b)
    right l h = rw (lt-leb f a l, le-leb f b h, le-leb f (max a b) (omega (arith, le-max_right a b)))

    no : a < f → b < f → leb f (max a b) ≡ (leb f a || leb f b)
    no l h =
        let m : max a b + 1 ≤ f = omega (arith, max-le {a = a} {b = b} {k = f - 1} (omega arith) (omega arith)) in
        rw (lt-leb f a l, lt-leb f b h, lt-leb f (max a b) (omega (arith, m)))

-- ---- Reaching

-- A frame stands in pairs where those that start at it or before reach it.
pub in_reach : (f : ℕ) (l : List ℕ) → 1 ≤ f → is_in_pairs f l ≡ leb f (reach_of f l)
unfolding is_in_pairs reach_of
in_reach f [] h = sym (lt-leb f 0 h)
in_reach f (a ∷ []) h = sym (lt-leb f 0 h)
in_reach f (a ∷ b ∷ l) h = sym
    (leb-max f (cond (leb a f) b 0) (reach_of f l) ∙ rw (← in_reach f l h) (ap (λ (t : Bool). t || is_in_pairs f l) (here (leb a f))))
  where
    here : (t : Bool) → leb f (cond t b 0) ≡ (t && leb f b)
    here true = refl
    here false = lt-leb f 0 h

reach-first : (l : List ℕ) → reach_of 0 l ≡ mark_of 0 l
unfolding reach_of mark_of
reach-first [] = refl
reach-first (a ∷ []) = refl
reach-first (a ∷ b ∷ l) = rw (reach-first l) (ap (λ (t : Bool). max (cond t b 0) (mark_of 0 l)) (at_zero a))
  where
    at_zero : (a : ℕ) → leb a 0 ≡ eqb a 0
    at_zero zero = le-leb 0 0 (omega arith) ∙ sym (eq-eqb 0 0 refl)
    at_zero (suc a) = lt-leb (suc a) 0 (omega arith) ∙ sym (ne_eqb (suc a) 0 (λ e. omega arith))

reach-next : (f : ℕ) (l : List ℕ) → reach_of (suc f) l ≡ max (reach_of f l) (mark_of (suc f) l)
unfolding reach_of mark_of
reach-next f [] = refl
reach-next f (a ∷ []) = refl
reach-next f (a ∷ b ∷ l) =
    rw (reach-next f l) (ap (λ (x : ℕ). max x (max (reach_of f l) (mark_of (suc f) l)))
    (⊎_elim early (λ h. ⊎_elim (there h) (late h) (either a (suc f))) (either a f))
    ∙ max-pairs (cond (leb a f) b 0) (cond (eqb a (suc f)) b 0) (reach_of f l) (mark_of (suc f) l))
  where
    early : a ≤ f → cond (leb a (suc f)) b 0 ≡ max (cond (leb a f) b 0) (cond (eqb a (suc f)) b 0)
    early h = rw (le-leb a (suc f) (omega arith), le-leb a f h, ne_eqb a (suc f) (λ e. omega arith)) (sym (max-zero b))

    there : f < a → a ≤ suc f → cond (leb a (suc f)) b 0 ≡ max (cond (leb a f) b 0) (cond (eqb a (suc f)) b 0)
    there l h = rw (le-leb a (suc f) h, lt-leb a f l, eq-eqb a (suc f) (omega arith)) (sym (zero-max b))

    late : f < a → suc f < a → cond (leb a (suc f)) b 0 ≡ max (cond (leb a f) b 0) (cond (eqb a (suc f)) b 0)
    late l h = rw (lt-leb a (suc f) h, lt-leb a f l, ne_eqb a (suc f) (λ e. omega arith)) (sym (zero-max 0))

-- Marks of all pairs, gone along, say how far the pairs reach.
pub far-marks : (t l : List ℕ) (n f : ℕ) → ((i : ℕ) → i ≤ n → get_or t i 0 ≡ mark_of i l) → f ≤ n → far_of t f ≡ reach_of f l
unfolding far_of
far-marks t l n zero h k = h 0 (omega arith) ∙ sym (reach-first l)
far-marks t l n (suc f) h k =
    ap (λ (x : ℕ). max x (get_or t (suc f) 0)) (far-marks t l n f h (omega arith))
    ∙ (ap (max (reach_of f l)) (h (suc f) k) ∙ sym (reach-next f l))

-- A mark at 0 reaches at least as far everywhere.
pub far-first : (t : List ℕ) (f : ℕ) → get_or t 0 0 ≤ far_of t f
unfolding far_of
far-first t zero = omega arith
far-first t (suc f) = omega (arith, far-first t f, le-max_left (far_of t f) (get_or t (suc f) 0))

pub far-next : (t : List ℕ) (f : ℕ) → 1 ≤ f → max (far_of t (f - 1)) (get_or t f 0) ≡ far_of t f
unfolding far_of
far-next t zero h = absurd (omega arith)
far-next t (suc f) h =
    let e : suc f - 1 ≡ f = omega arith in
    rw e
