-- A table that is filled cell by cell holds what each cell was given: a store at one place leaves every other place as it was.
use mathlib.Core.Path.{◌≡◌, refl, sym, ap, ◌∙◌}
use mathlib.Core.Bool.{Bool, cond}
use mathlib.Core.List.{List, ◌∷◌}
use mathlib.Core.Logic.{dite}
use Prim.Native.Nat.{ℕ, ◌+◌, ◌*◌, ◌/◌, ◌≤◌, ◌<◌, max}
use native.Mathlib.Nat.{zero-max}
use native.Mathlib.Decide.{ℕ_discrete}
use native.Mathlib.Omega.{arith}
use lib.Dec.{eqb}
use lib.ListN.{length, get_or, set, drop}
use lib.Seq.{get_or-set_same, get_or-set_other}
use borrow.Author.Tests.{eq-eqb, ne_eqb}
use Rattle.value.specs.Number.{us_values}
use Rattle.value.proofs.Laws.{values-end, pair-at}
use Rattle.ranges.specs.Internal.{mark_of, taken_by}
use Rattle.ranges.proofs.Reach.{max-next}

-- ---- Marks

pub marks-end : (i : ℕ) (v : List ℕ) (k : ℕ) → 2 * k ≡ length v / 2 → mark_of i (drop (2 * k) (us_values v)) ≡ 0
unfolding mark_of
marks-end i v k e = rw (values-end v (2 * k) e)

mark-one : (reach : List ℕ) (a b i : ℕ) (rest : List ℕ) → a < length reach
    → max (get_or (set reach a (max (get_or reach a 0) b)) i 0) (mark_of i rest) ≡ max (get_or reach i 0) (mark_of i (a ∷ b ∷ rest))
unfolding mark_of
mark-one reach a b i rest h = dite (ℕ_discrete i a) here there
  where
    here : i ≡ a → max (get_or (set reach a (max (get_or reach a 0) b)) i 0) (mark_of i rest)
        ≡ max (get_or reach i 0) (max (cond (eqb a i) b 0) (mark_of i rest))
    here e = rw (e, get_or-set_same reach a (max (get_or reach a 0) b) 0 h, eq-eqb a a refl) (max-next (get_or reach a 0) b (mark_of a rest))

    there : (i ≡ a → ⊥) → max (get_or (set reach a (max (get_or reach a 0) b)) i 0) (mark_of i rest)
        ≡ max (get_or reach i 0) (max (cond (eqb a i) b 0) (mark_of i rest))
    there n = rw (get_or-set_other reach a i (max (get_or reach a 0) b) 0 n, ne_eqb a i (λ e. n (sym e)), zero-max (mark_of i rest))

pub mark-more : (v : List ℕ) (k a b : ℕ) → a ≡ get_or (us_values v) (2 * k) 0 → b ≡ get_or (us_values v) (2 * k + 1) 0 → 2 * k + 1 < length v / 2
    → (reach : List ℕ) (x i : ℕ) → a < length reach → x ≡ max (get_or reach a 0) b
    → max (get_or (set reach a x) i 0) (mark_of i (drop (2 * (k + 1)) (us_values v)))
    ≡ max (get_or reach i 0) (mark_of i (drop (2 * k) (us_values v)))
mark-more v k a b ea eb h reach x i l ex =
    rw (ex, pair-at v k a b ea eb h) (mark-one reach a b i (drop (2 * (k + 1)) (us_values v)) l)

-- ---- Frames that are taken

module _ (holds : ℕ → Bool) (item f : ℕ) (old which : List ℕ) (x : ℕ) where
  pub done_more : f < length which → x ≡ taken_by (get_or which f 0) (holds f) item → get_or which f 0 ≡ get_or old f 0
      → ((i : ℕ) → 1 ≤ i → i < f → get_or which i 0 ≡ taken_by (get_or old i 0) (holds i) item)
      → (i : ℕ) → 1 ≤ i → i < f + 1 → get_or (set which f x) i 0 ≡ taken_by (get_or old i 0) (holds i) item
  done_more h ex same q i low t = dite (ℕ_discrete i f) here there
    where
      here : i ≡ f → get_or (set which f x) i 0 ≡ taken_by (get_or old i 0) (holds i) item
      here e = rw e (get_or-set_same which f x 0 h ∙ (ex ∙ ap (λ (w : ℕ). taken_by w (holds f) item) same))

      there : (i ≡ f → ⊥) → get_or (set which f x) i 0 ≡ taken_by (get_or old i 0) (holds i) item
      there n = get_or-set_other which f i x 0 n ∙ q i low (omega (arith, n))

  pub rest_more : ((i : ℕ) → f ≤ i → get_or which i 0 ≡ get_or old i 0) → (i : ℕ) → f + 1 ≤ i → get_or (set which f x) i 0 ≡ get_or old i 0
  rest_more q i h = get_or-set_other which f i x 0 (λ e. omega (arith, e)) ∙ q i (omega arith)
