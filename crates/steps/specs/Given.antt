-- Computations that can lack something: `none` if a step lacks what it needs.
use Rattle.std.specs.Prelude.{ℕ, zero, suc, Bool, true, false, List, [], ◌∷◌, ◌++◌, Option, Some, None}

module _ {A : Type 0} where
  -- Goes on with the number, if there is one.
  abbrev pub need : Option ℕ → (ℕ → Option A) → Option A
  need None go = None
  need (Some n) go = go n

  -- Goes on if the test holds.
  abbrev pub check : Bool → Option A → Option A
  check false go = None
  check true go = go

  module _ {B : Type 0} where
    -- Goes on with what an earlier step gave.
    abbrev pub then : Option B → (B → Option A) → Option A
    then None go = None
    then (Some b) go = go b

-- The numbers that f gives for 0 up to n - 1, if it gives them all.
unfoldable pub collect : (ℕ → Option ℕ) → ℕ → Option (List ℕ)
collect f zero = Some []
collect f (suc n) = then (collect f n) (λ l. need (f n) (λ y. Some (l ++ (y ∷ []))))
