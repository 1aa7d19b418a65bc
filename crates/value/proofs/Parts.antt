-- The parting of a value at its backslashes is what `split` gives, and there is at least one part.
use mathlib.Core.Path.{◌≡◌, refl}
use Prim.Native.Nat.{ℕ, ◌<◌}
use native.Mathlib.Omega.{arith}
use mathlib.Core.List.{List, [], ◌∷◌}
use mathlib.Core.Bool.{Bool, true, false, cond}
use lib.ListN.{length}
use lib.Dec.{eqb}
use Rattle.std.specs.List.{slice_split, onto_first, list_all}
use Rattle.value.specs.Text.{values_of, on_first}
use Rattle.value.specs.Number.{all}

-- ---- At least one part

some_first : (c : ℕ) (vs : List (List ℕ)) → 0 < length (on_first c vs)
some_first c [] = omega arith
some_first c (v ∷ vs) = omega arith

by_byte : (c : ℕ) (s : List ℕ) (t : Bool) → 0 < length (values_of s) → 0 < length (cond t ([] ∷ values_of s) (on_first c (values_of s)))
by_byte c s true h = omega arith
by_byte c s false h = some_first c (values_of s)

pub values-some : (s : List ℕ) → 0 < length (values_of s)
unfolding values_of
values-some [] = omega arith
values-some (c ∷ s) = by_byte c s (eqb c 0x5C) (values-some s)

-- ---- The parts that `split` gives

first-is : (c : ℕ) (vs : List (List ℕ)) → onto_first c vs ≡ on_first c vs
first-is c [] = refl
first-is c (v ∷ vs) = refl

pub parts-are : (s : List ℕ) → slice_split (λ b. eqb b 0x5C) s ≡ values_of s
unfolding values_of
parts-are [] = refl
parts-are (c ∷ s) = rw (parts-are s, first-is c (values_of s))

pub all-is : (p : List ℕ → Bool) (vs : List (List ℕ)) → list_all p vs ≡ all p vs
unfolding all
all-is p [] = refl
all-is p (v ∷ vs) = rw (all-is p vs)
