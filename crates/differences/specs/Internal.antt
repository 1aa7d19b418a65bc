-- What the comparing functions require and promise. None of this is in the papers.
use Rattle.std.specs.Prelude.{◌≡◌, Bool, cond, not, List, ℕ, zero, suc, ◌+◌, ◌≤◌, length, get_or, eqb}
use Rattle.differences.specs.declared.Differing.{Differing}
use Rattle.differences.specs.Differences.{within}

-- ---- Cell by cell

-- One more cell, at place i.
unfoldable pub seen : Bool → ℕ → Differing → Differing
seen off i d = cond off (record { first = cond (eqb d.count 0) i d.first; count = d.count + 1 }) d

-- n more cells, from place `at` on.
unfoldable pub along : (ℕ → Bool) → ℕ → ℕ → Differing → Differing
along off at zero d = d
along off at (suc n) d = seen (off n) (at + n) (along off at n d)

-- Before the first cell.
abbrev pub none_off : Differing
none_off = record { first = 0; count = 0 }

-- The first n cells against the levels f 0, f 1, ..
unfoldable pub off_by : ℕ → (ℕ → ℕ) → List ℕ → ℕ → Bool
off_by t f cells i = not (within t (f i) (get_or cells i 0))

unfoldable pub met : ℕ → (ℕ → ℕ) → List ℕ → ℕ → Differing
met t f cells n = along (off_by t f cells) 0 n none_off

-- ---- What is compared

-- As many cells as the frame has, and a tolerance of at most 255.
pub record Against (cells : List ℕ) (t n : ℕ) : Type 0 where
  pub size : length cells ≡ n
  pub most : t ≤ 255

-- A line's part of the cells, and no more places off than there are cells before it.
pub record LineOf (line cells : List ℕ) (at t : ℕ) (d : Differing) : Type 0 where
  pub inside : at + length line ≤ length cells
  pub most : t ≤ 255
  pub few : d.count ≤ at
