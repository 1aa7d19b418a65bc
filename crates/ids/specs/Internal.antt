-- IDs of items as the code reads them, and the table in which they are marked. None of this is in the papers.
use Rattle.std.specs.Prelude.{◌≡◌, ℕ, List, map, length, get_or}
use Rattle.value.specs.Number.{number_or0}
use Rattle.node.specs.Nodes.{Node}
use Rattle.element.specs.Frames.{id_in}

-- The ID of an item, 0 if it has none; the IDs of items.
abbrev pub id_of : List Node → ℕ → ℕ
id_of ns j = number_or0 (id_in ns j)

abbrev pub ids_of : List Node → List ℕ → List ℕ
ids_of ns is = map (λ j. id_of ns j) is

-- A table of n numbers, each 0.
pub record AllZero (n : ℕ) (l : List ℕ) : Type 0 where
  pub size : length l ≡ n
  pub zeros : (k : ℕ) → get_or l k 0 ≡ 0
