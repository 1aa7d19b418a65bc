-- Trimming goes byte by byte: a byte that is trimmed changes nothing, and the first that is not ends it.
use mathlib.Core.Path.{◌≡◌, refl, sym, ap, ◌∙◌}
use Prim.Native.Nat.{ℕ, zero, suc, ◌-◌, ◌≤◌, ◌<◌}
use native.Mathlib.Omega.{arith}
use mathlib.Core.List.{List, [], ◌∷◌, ◌++◌}
use lib.ListN.{length, get_or, take, drop}
use lib.Seq.{take-suc, take-length}
use borrow.Author.Tests.{eq-eqb, ne_eqb}
use Rattle.value.specs.Text.{trim_start, before, trim_end}

-- ---- In front

pub start-same : (b : ℕ) (s : List ℕ) → 1 ≤ length s → get_or s 0 0 ≡ b → trim_start b s ≡ trim_start b (drop 1 s)
unfolding trim_start
start-same b [] h e = absurd (omega arith)
start-same b (c ∷ s) h e = rw (eq-eqb c b e)

pub start-other : (b : ℕ) (s : List ℕ) → 1 ≤ length s → (get_or s 0 0 ≡ b → ⊥) → trim_start b s ≡ s
unfolding trim_start
start-other b [] h e = absurd (omega arith)
start-other b (c ∷ s) h e = rw (ne_eqb c b e)

pub start-none : (b : ℕ) (s : List ℕ) → length s < 1 → trim_start b s ≡ s
unfolding trim_start
start-none b [] h = refl
start-none b (c ∷ s) h = absurd (omega arith)

-- ---- Behind

before_more : (b c : ℕ) (s t : List ℕ) (x : ℕ) → before b c (s ++ (x ∷ t)) ≡ c ∷ (s ++ (x ∷ t))
before_more b c [] t x = refl
before_more b c (y ∷ s) t x = refl

-- One byte more behind.
last-same : (b : ℕ) (s : List ℕ) (c : ℕ) → c ≡ b → trim_end b (s ++ (c ∷ [])) ≡ trim_end b s
unfolding trim_end
last-same b [] c e = rw (eq-eqb c b e)
last-same b (x ∷ s) c e = ap (before b x) (last-same b s c e)

last-other : (b : ℕ) (s : List ℕ) (c : ℕ) → (c ≡ b → ⊥) → trim_end b (s ++ (c ∷ [])) ≡ s ++ (c ∷ [])
unfolding trim_end
last-other b [] c e = rw (ne_eqb c b e)
last-other b (x ∷ s) c e = ap (before b x) (last-other b s c e) ∙ before_more b x s [] c

take_last : (s : List ℕ) (n : ℕ) → 1 ≤ n → n ≤ length s → take n s ≡ take (n - 1) s ++ (get_or s (n - 1) 0 ∷ [])
take_last s zero p h = absurd (omega arith)
take_last s (suc n) p h = let e : suc n - 1 ≡ n = omega arith in rw e (take-suc s n 0 (omega arith))

module _ (b : ℕ) (s : List ℕ) (h : 1 ≤ length s) where
  by_last : s ≡ take (length s - 1) s ++ (get_or s (length s - 1) 0 ∷ [])
  by_last = sym (take-length s) ∙ take_last s (length s) h (omega arith)

  pub end-same : get_or s (length s - 1) 0 ≡ b → trim_end b s ≡ trim_end b (take (length s - 1) s)
  end-same e = ap (trim_end b) by_last ∙ last-same b (take (length s - 1) s) (get_or s (length s - 1) 0) e

  pub end-other : (get_or s (length s - 1) 0 ≡ b → ⊥) → trim_end b s ≡ s
  end-other e = ap (trim_end b) by_last ∙ last-other b (take (length s - 1) s) (get_or s (length s - 1) 0) e ∙ sym by_last

pub end-none : (b : ℕ) (s : List ℕ) → length s < 1 → trim_end b s ≡ s
unfolding trim_end
end-none b [] h = refl
end-none b (c ∷ s) h = absurd (omega arith)
