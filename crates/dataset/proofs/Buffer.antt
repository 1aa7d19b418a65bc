-- Rows as numbers in a buffer: a run of numbers written after another is one run, and runs that do not overlap may be
-- written in either order.
use mathlib.Core.Path.{◌≡◌, refl, sym, ap, ◌∙◌}
use Prim.Native.Nat.{ℕ, suc, ◌+◌, ◌*◌, ◌≤◌, ◌<◌}
use native.Mathlib.Omega.{arith}
use native.Mathlib.Nat.{add-zero}
use mathlib.Core.List.{List, [], ◌∷◌, ◌++◌}
use lib.ListN.{length, set, drop}
use lib.Seq.{sets, set-set, set_comm, sets-eq}
use Rattle.dataset.specs.declared.Row.{Row}
use Rattle.dataset.specs.Answer.{flat, width}

pub length-flat : (rs : List Row) → length (flat rs) ≡ width * length rs
length-flat [] = refl
length-flat (r ∷ rs) = omega (arith, length-flat rs)

pub flat_append : (a b : List Row) → flat (a ++ b) ≡ flat a ++ flat b
flat_append [] b = refl
flat_append (r ∷ rs) b = rw (flat_append rs b)

pub sets-append : (xs l : List ℕ) (i : ℕ) (ys : List ℕ) → sets l i (xs ++ ys) ≡ sets (sets l i xs) (i + length xs) ys
sets-append [] l i ys = rw (add-zero i)
sets-append (x ∷ xs) l i ys =
    sets-append xs (set l i x) (suc i) ys ∙ ap (λ (k : ℕ). sets (sets (set l i x) (suc i) xs) k ys) (omega arith)

set-sets : (ys l : List ℕ) (i j a : ℕ) → i < j → sets (set l i a) j ys ≡ set (sets l j ys) i a
set-sets [] l i j a h = refl
set-sets (y ∷ ys) l i j a h =
    ap (λ (r : List ℕ). sets r (suc j) ys) (set_comm l i j a y (λ e. omega arith))
    ∙ set-sets ys (set l j y) i (suc j) a (omega arith)

pub sets-swap : (xs l : List ℕ) (i j : ℕ) (ys : List ℕ) → i + length xs ≤ j → sets (sets l i xs) j ys ≡ sets (sets l j ys) i xs
sets-swap [] l i j ys h = refl
sets-swap (x ∷ xs) l i j ys h =
    sets-swap xs (set l i x) (suc i) j ys (omega arith)
    ∙ ap (λ (r : List ℕ). sets r (suc i) xs) (set-sets ys l i j x (omega arith))

-- A run written over a shorter one.
pub sets_over : (xs ys l : List ℕ) (i : ℕ) → length xs ≤ length ys → sets (sets l i xs) i ys ≡ sets l i ys
sets_over [] ys l i h = refl
sets_over (x ∷ xs) [] l i h = absurd (omega arith)
sets_over (x ∷ xs) (y ∷ ys) l i h =
    ap (λ (r : List ℕ). sets r (suc i) ys)
    (sym (set-sets xs (set l i x) i (suc i) y (omega arith)) ∙ ap (λ (r : List ℕ). sets r (suc i) xs) (set-set l i x y))
    ∙ sets_over xs ys (set l i y) (suc i) (omega arith)

-- The rows below row n, then row n itself.
pub row-over : (buffer : List ℕ) (n : ℕ) (r : Row) (below : List Row)
    → sets (sets buffer (width * (n + 1)) (flat below)) (width * n) (flat (r ∷ [])) ≡ sets buffer (width * n) (flat (r ∷ below))
row-over buffer n r below =
    sym (sets-swap (flat (r ∷ [])) buffer (width * n) (width * (n + 1)) (flat below) (omega arith))
    ∙ ap (λ (k : ℕ). sets (sets buffer (width * n) (flat (r ∷ []))) k (flat below)) (omega arith)
    ∙ sym (sets-append (flat (r ∷ [])) buffer (width * n) (flat below))

-- Rows written from the buffer's start.
pub rows-first : (buffer : List ℕ) (rows : List Row) → width * length rows ≤ length buffer
    → sets buffer (width * 0) (flat rows) ≡ flat rows ++ drop (width * length rows) buffer
rows-first buffer rows h =
    let e : 0 + length (flat rows) ≡ width * length rows = omega (arith, length-flat rows) in
    sets-eq (flat rows) buffer 0 (omega (arith, length-flat rows)) ∙ ap (λ (k : ℕ). flat rows ++ drop k buffer) e
