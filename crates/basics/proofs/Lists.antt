-- What goes along a list takes one element on each step; and what it is for two lists to be the same.
use mathlib.Core.Path.{◌≡◌, refl, ap}
use mathlib.Core.Bool.{true, false, and-false}
use mathlib.Core.List.{List, [], ◌∷◌}
use Prim.Native.Nat.{ℕ, suc, ◌+◌, ◌-◌, ◌≤◌, ◌<◌}
use native.Mathlib.Omega.{arith}
use native.Mathlib.Numerals.{add-one}
use lib.ListN.{length, get_or, take, drop, drop_of_length-le, length-drop}
use lib.Seq.{drop-cons, take_all}
use lib.Dec.{eqb}
use borrow.Author.Tests.{eqb-true}
use Rattle.std.specs.Cmp.Lexicographic.{pointwise}
use Rattle.basics.specs.Bytes.{same_bytes}
use Rattle.basics.proofs.Tests.{false-is-true, and_both}

-- The list from i on.
pub from_next : (v : List ℕ) (i : ℕ) → i < length v → drop i v ≡ get_or v i 0 ∷ drop (i + 1) v
from_next v i h = rw (add-one, drop-cons v i 0)

pub from_end : (v : List ℕ) (i : ℕ) → length v ≤ i → drop i v ≡ []
from_end v i h = drop_of_length-le v h

-- A part that goes up to the end.
pub to_end : (v : List ℕ) (i : ℕ) → take (length v - i) (drop i v) ≡ drop i v
to_end v i = take_all (length v - i) (drop i v) (simp length-drop (omega arith))

-- ---- The same bytes

-- What `==` on slices computes is that definition.
pub pointwise-same : (a b : List ℕ) → pointwise eqb a b ≡ same_bytes a b
unfolding same_bytes
pointwise-same [] [] = refl
pointwise-same [] (y ∷ ys) = refl
pointwise-same (x ∷ xs) [] = refl
pointwise-same (x ∷ xs) (y ∷ ys) = rw (pointwise-same xs ys)

pub other-lengths : (a b : List ℕ) → (length a ≡ length b → ⊥) → same_bytes a b ≡ false
unfolding same_bytes
other-lengths [] [] h = absurd (h refl)
other-lengths [] (y ∷ ys) h = refl
other-lengths (x ∷ xs) [] h = refl
other-lengths (x ∷ xs) (y ∷ ys) h = rw (other-lengths xs ys (λ e. h (ap suc e)), and-false)

pub same-is : (a b : List ℕ) → same_bytes a b ≡ true → a ≡ b
unfolding same_bytes
same-is [] [] e = refl
same-is [] (y ∷ ys) e = absurd (false-is-true e)
same-is (x ∷ xs) [] e = absurd (false-is-true e)
same-is (x ∷ xs) (y ∷ ys) e =
    let m = and_both (eqb x y) (same_bytes xs ys) e in
    rw (eqb-true x y m.0, same-is xs ys m.1)
