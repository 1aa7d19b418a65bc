-- What the seventh number of a row means (document 02, Q-6), for every row of every data set that reads well.
--
-- A row's seventh number, its parent, is the number of the row of the item or sequence that directly holds the row, or 0 at the root.
-- Follow it: from the row to its parent, from there to that row's parent, and so on. The rows met are exactly those that count the row
-- among their rows below, from the innermost to the outermost. 0 is reached within 17 steps, the step to 0 counted. An item is in a
-- sequence and one deeper than it; an element is in an item and has the item's depth, or it is at the root, at depth 0.
--
-- The number counts rows from 1. The definitions count them from 0, so the row of number suc i is row i.
use Rattle.std.specs.Prelude.{◌≡◌, ℕ, zero, suc, ◌+◌, ◌≤◌, ◌<◌, List, length}
use Rattle.basics.specs.Vr.{SQ}
use Rattle.dataset.specs.declared.Row.{Row}
use Rattle.dataset.specs.Tree.{rows_of, row_at, next_row}

-- The seventh number of the row with a given number; the root stays the root.
abbrev pub parent_of : List Row → ℕ → ℕ
parent_of rows zero = zero
parent_of rows (suc i) = (row_at rows i).parent

-- Following it for some steps from the row with a given number.
unfoldable pub climb : List Row → ℕ → ℕ → ℕ
climb rows zero n = n
climb rows (suc steps) n = climb rows steps (parent_of rows n)

-- Row j counts row i among its rows below.
abbrev pub Counts : List Row → ℕ → ℕ → Type 0
Counts rows j i = (j < i) × (i < next_row rows j)

-- Following it from row i meets row j, after one step or more.
abbrev pub Meets : List Row → ℕ → ℕ → Type 0
Meets rows i j = (more : ℕ) × (climb rows (suc more) (suc i) ≡ suc j)

-- What holds for row i. `counts` and `meets`: following the number meets a row exactly if that row counts row i among its rows below.
-- `descends`: from row j it leads to a row before row j, or to the root; so each row met is inside the next. `ends`: 0 within 17 steps.
-- `item`, `element`, `root`: what holds a row, and at which depth.
pub record Parented (rows : List Row) (i : ℕ) : Type 0 where
  pub counts : (j : ℕ) → Meets rows i j → Counts rows j i
  pub meets : (j : ℕ) → Counts rows j i → Meets rows i j
  pub descends : (steps j : ℕ) → climb rows steps (suc i) ≡ suc j → climb rows (suc steps) (suc i) ≤ j
  pub ends : (steps : ℕ) × ((steps ≤ 17) × (climb rows steps (suc i) ≡ 0))
  pub item : (j : ℕ) → (row_at rows i).parent ≡ suc j → (row_at rows i).vr ≡ 0
      → ((row_at rows j).vr ≡ SQ) × ((row_at rows i).depth ≡ (row_at rows j).depth + 1)
  pub element : (j : ℕ) → (row_at rows i).parent ≡ suc j → ((row_at rows i).vr ≡ 0 → ⊥)
      → ((row_at rows j).vr ≡ 0) × ((row_at rows i).depth ≡ (row_at rows j).depth)
  pub root : (row_at rows i).parent ≡ 0 → ((row_at rows i).vr ≡ 0 → ⊥) × ((row_at rows i).depth ≡ 0)

-- For every row of every data set that reads well; any other data set has no row.
abbrev pub Parents : List ℕ → Type 0
Parents s = (i : ℕ) → i < length (rows_of s) → Parented (rows_of s) i
