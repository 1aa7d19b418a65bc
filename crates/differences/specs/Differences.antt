-- Where another workstation's picture differs from ours (document 02, Q-12): which cells are not within t of ours, how many there are,
-- and which is the first.
use Rattle.std.specs.Prelude.{ℕ, zero, suc, ◌+◌, Bool, cond, not, ◌&&◌, List, get_or, leb, eqb}

-- Two levels are within t of each other.
abbrev pub within : ℕ → ℕ → ℕ → Bool
within t x y = leb x (y + t) && leb y (x + t)

-- Cell i is not within t of ours.
unfoldable pub is_off : ℕ → List ℕ → List ℕ → ℕ → Bool
is_off t ours cells i = not (within t (get_or ours i 0) (get_or cells i 0))

-- How many of the places 0 to n - 1 are off.
unfoldable pub how_many : (ℕ → Bool) → ℕ → ℕ
how_many off zero = 0
how_many off (suc n) = cond (off n) 1 0 + how_many off n

-- The first of them: the last place if it is off and none before it is, otherwise the first of those before; 0 if none is off.
unfoldable pub first_off : (ℕ → Bool) → ℕ → ℕ
first_off off zero = 0
first_off off (suc n) = cond (off n && eqb (how_many off n) 0) n (first_off off n)
