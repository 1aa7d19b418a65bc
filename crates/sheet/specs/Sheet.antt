-- The sampling sheet of frames a to b (document 02, Q-5): 256 counts of how often each grey level was drawn, the number of native
-- frames, the lowest and the highest level, and the sum of all levels. It is made of the pictures that the drawing steps give
-- (`steps_of` of `Rattle.steps`) and of nothing else.
use Rattle.std.specs.Prelude.{ℕ, zero, suc, ◌+◌, ◌-◌, min, max, cond, List, [], ◌∷◌, ◌++◌, replicate, eqb}
use Rattle.node.specs.Nodes.{Node}
use Rattle.basics.specs.Lists.{up_to}
use Rattle.display.specs.Show.{picture_of}
use Rattle.sheet.specs.declared.Numbers.{Numbers}

-- ---- The pictures of n frames from frame a on

-- All their cells, frame after frame.
unfoldable pub levels_of : List Node → ℕ → ℕ → List ℕ
levels_of ns a zero = []
levels_of ns a (suc n) = (picture_of ns a).samples ++ levels_of ns (a + 1) n

-- How many of them are native.
unfoldable pub natives_of : List Node → ℕ → ℕ → ℕ
natives_of ns a zero = 0
natives_of ns a (suc n) = cond (picture_of ns a).masked 0 1 + natives_of ns (a + 1) n

-- ---- Numbers of a list of levels

-- How often y occurs in a list.
unfoldable pub times : ℕ → List ℕ → ℕ
times y [] = 0
times y (x ∷ xs) = cond (eqb x y) 1 0 + times y xs

-- The count of each level, from 0 to 255 (`up_to f n` is f 0, f 1, .. up to f (n - 1)).
abbrev pub counts_of : List ℕ → List ℕ
counts_of levels = up_to (λ y. times y levels) 256

-- The lowest and the highest level. No picture is empty; for no level at all these would be 255 and 0.
unfoldable pub lowest_of : List ℕ → ℕ
lowest_of [] = 255
lowest_of (y ∷ ys) = min y (lowest_of ys)

unfoldable pub highest_of : List ℕ → ℕ
highest_of [] = 0
highest_of (y ∷ ys) = max y (highest_of ys)

unfoldable pub sum_of : List ℕ → ℕ
sum_of [] = 0
sum_of (y ∷ ys) = y + sum_of ys

-- ---- The sheet

abbrev pub sheet_by : List ℕ → ℕ → Numbers
sheet_by levels natives =
    record { counts = counts_of levels; natives = natives; lowest = lowest_of levels; highest = highest_of levels; sum = sum_of levels }

-- The sheet of frames a to b.
unfoldable pub frames_sheet : List Node → ℕ → ℕ → Numbers
frames_sheet ns a b = sheet_by (levels_of ns a (b - a + 1)) (natives_of ns a (b - a + 1))

-- The sheet of zeros, which comes with a refusal.
abbrev pub no_sheet : Numbers
no_sheet = record { counts = replicate 256 0; natives = 0; lowest = 0; highest = 0; sum = 0 }

-- How many numbers a sheet has; and the numbers, in the order named.
abbrev pub sheet_size : ℕ
sheet_size = 260

abbrev pub numbers_in : Numbers → List ℕ
numbers_in t = t.counts ++ (t.natives ∷ t.lowest ∷ t.highest ∷ t.sum ∷ [])
