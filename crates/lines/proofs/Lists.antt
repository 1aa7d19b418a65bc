-- What is painted on n places is the list f 0, f 1, .. up to f (n - 1), and behind it what was there before: each turn sets one place more.
use mathlib.Core.Path.{◌≡◌, refl, sym, ap, ◌∙◌, subst}
use mathlib.Core.List.{List, [], ◌∷◌, ◌++◌, append_assoc, append-nil}
use mathlib.Core.Logic.{dite}
use Prim.Native.Nat.{ℕ, zero, suc, ◌+◌, ◌≤◌, ◌<◌}
use native.Mathlib.Nat.{add-zero, add-suc}
use native.Mathlib.Decide.{ℕ_discrete}
use native.Mathlib.Omega.{arith}
use lib.ListN.{length, length-append, get_or, set, drop, take, get_or-append}
use lib.Seq.{drop-cons, set_at, take-append_seam, get_or_at}
use Rattle.pixel.specs.Internal.{painted}
use Rattle.pixel.proofs.Laws.{painted-length}
use Rattle.basics.specs.Lists.{up_to}

pub up_to-length : (f : ℕ → ℕ) (n : ℕ) → length (up_to f n) ≡ n
unfolding up_to
up_to-length f zero = refl
up_to-length f (suc n) = length-append (up_to f n) (f n ∷ []) ∙ omega (arith, up_to-length f n)

pub up_to-at : (f : ℕ → ℕ) (n k : ℕ) → k < n → get_or (up_to f n) k 0 ≡ f k
unfolding up_to
up_to-at f zero k h = absurd (omega arith)
up_to-at f (suc n) k h =
    dite (ℕ_discrete k n)
    (λ e. rw e (get_or_at (up_to f n) (f n) [] 0 n (up_to-length f n)))
    (λ d.
    let l : k < n = omega arith in
    get_or-append (up_to f n) (f n ∷ []) 0 k (omega (arith, up_to-length f n, l)) ∙ up_to-at f n k l)

pub up_to-plus : (f : ℕ → ℕ) (m n : ℕ) → up_to f (m + n) ≡ up_to f m ++ up_to (λ c. f (m + c)) n
unfolding up_to
up_to-plus f m zero = ap (up_to f) (add-zero m) ∙ sym (append-nil (up_to f m))
up_to-plus f m (suc n) =
    ap (up_to f) (add-suc m n) ∙ (ap (λ (l : List ℕ). l ++ (f (m + n) ∷ [])) (up_to-plus f m n)
    ∙ append_assoc (up_to f m) (up_to (λ c. f (m + c)) n) (f (m + n) ∷ []))

pub up_to-same : (f h : ℕ → ℕ) (n : ℕ) → ((k : ℕ) → k < n → f k ≡ h k) → up_to f n ≡ up_to h n
unfolding up_to
up_to-same f h zero e = refl
up_to-same f h (suc n) e = rw (up_to-same f h n (λ k l. e k (omega arith)), e n (omega arith))

pub painted-list : (f : ℕ → ℕ) (n : ℕ) (s : List ℕ) → n ≤ length s → painted f n s ≡ up_to f n ++ drop n s
unfolding painted up_to
painted-list f zero s h = refl
painted-list f (suc n) s h =
    ap (λ (l : List ℕ). set l n (f n))
    (painted-list f n s (omega arith) ∙ ap (λ (l : List ℕ). up_to f n ++ l) (drop-cons s n 0 (omega arith)))
    ∙ set_at (up_to f n) (get_or s n 0) (drop (suc n) s) (f n) n (up_to-length f n)
    ∙ sym (append_assoc (up_to f n) (f n ∷ []) (drop (suc n) s))

-- The first n places of what is painted.
pub painted-take : (f : ℕ → ℕ) (n : ℕ) (s : List ℕ) → n ≤ length s → take n (painted f n s) ≡ up_to f n
painted-take f n s h =
    ap (take n) (painted-list f n s h)
    ∙ subst (λ (k : ℕ). take k (up_to f n ++ drop n s) ≡ up_to f n) (up_to-length f n) (take-append_seam (up_to f n) (drop n s))

-- A line that was painted, and its first n places.
pub line-length : (f : ℕ → ℕ) (n : ℕ) (s : List ℕ) {after : List ℕ} → after ≡ painted f n s → length after ≡ length s
line-length f n s e = ap length e ∙ painted-length f n s

pub line-list : (f : ℕ → ℕ) (n : ℕ) (s : List ℕ) {after : List ℕ} → after ≡ painted f n s → n ≤ length s → take n after ≡ up_to f n
line-list f n s e h = ap (take n) e ∙ painted-take f n s h
