-- What the test of the mark comes to.
use mathlib.Core.Path.{◌≡◌, refl}
use mathlib.Core.Bool.{false}
use Prim.Native.Nat.{ℕ, ◌<◌}
use native.Mathlib.Omega.{arith}
use mathlib.Core.List.{List, [], ◌∷◌}
use lib.ListN.{length, take, drop, length-take, length-drop}
use lib.Dec.{eqb}
use Rattle.std.specs.Cmp.Lexicographic.{pointwise}
use Rattle.basics.specs.Bytes.{same_bytes}
use Rattle.basics.proofs.Lists.{other-lengths}
use Rattle.value.specs.Text.{ascii}
use Rattle.meta.specs.Meta.{mark, start, is_marked}

-- What `==` on slices computes is the definition's comparison.
pub pointwise-same : (a b : List ℕ) → pointwise eqb a b ≡ same_bytes a b
unfolding same_bytes
pointwise-same [] [] = refl
pointwise-same [] (y ∷ ys) = refl
pointwise-same (x ∷ xs) [] = refl
pointwise-same (x ∷ xs) (y ∷ ys) = rw (pointwise-same xs ys)

pub unmarked : (s : List ℕ) → length s < start → is_marked s ≡ false
unfolding is_marked
unmarked s h = other-lengths (take 4 (drop mark s)) (ascii "DICM") (λ e. omega (arith, e, length-take 4 (drop mark s), length-drop mark s))
