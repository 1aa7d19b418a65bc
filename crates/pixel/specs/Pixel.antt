-- Drawing steps 1, 3 and 4 over the bytes of Pixel Data: samples (the paper's cells), the average of mask frames, and
-- the mask value that a sample takes, blended from four. Samples of a frame are numbered row by row from 0, frames from 1.
use Rattle.std.specs.Prelude.{ℕ, ◌+◌, ◌-◌, ◌*◌, ◌/◌, ◌%◌, ◌^◌, min, Bool, ◌&&◌, List, [], ◌∷◌, length, get_or, leb, ltb, ℤ, pos, negsuc, nat_abs, ◌+ℤ◌, ◌-ℤ◌, ◌*ℤ◌, Option}
use Rattle.basics.specs.Bytes.{le_number}
use Rattle.value.specs.declared.Signed.{Signed}
use Rattle.shift.specs.declared.Moves.{Moves}
use Rattle.shift.specs.Shift.{shift_unit}
use Rattle.window.specs.Window.{integer, floor}
use Rattle.pixel.specs.declared.Geometry.{Geometry}

-- How many samples a frame has.
abbrev pub samples_of : Geometry → ℕ
samples_of g = g.rows * g.columns

-- The whole frame k lies inside the pixel bytes v.
unfoldable pub is_frame : Geometry → List ℕ → ℕ → Bool
is_frame g v k = leb 1 k && leb (k * samples_of g * g.width) (length v)

-- Step 1. A cell is its little-endian number modulo 2^stored: sample i of frame k.
unfoldable pub sample_at : Geometry → List ℕ → ℕ → ℕ → ℕ
sample_at g v k i = le_number g.width v (((k - 1) * samples_of g + i) * g.width) % 2 ^ g.stored

-- The same counted over all frames: sample j, from 0.
unfoldable pub cell_at : Geometry → List ℕ → ℕ → ℕ
cell_at g v j = le_number g.width v (j * g.width) % 2 ^ g.stored

-- Step 3. The mask is floor((2S + n) / 2n), S the sum of the n mask frames' cells.
unfoldable pub sum_at : Geometry → List ℕ → List ℕ → ℕ → ℕ
sum_at g v [] i = 0
sum_at g v (k ∷ ks) i = sample_at g v k i + sum_at g v ks i

unfoldable pub average_of : ℕ → ℕ → ℕ
average_of sum n = (2 * sum + n) / (2 * n)

unfoldable pub mask_at : Geometry → List ℕ → List ℕ → ℕ → ℕ
mask_at g v ks i = average_of (sum_at g v ks i) (length ks)

-- Step 4, in quarters of a pixel. Row or column r minus the shift.
abbrev pub less_shift : Option Signed → ℕ → ℤ
less_shift m r = pos (shift_unit * r) -ℤ integer m

-- The whole number below, rounded down, and the quarters above that.
abbrev pub whole_below : ℤ → ℤ
whole_below z = floor z (pos shift_unit)

abbrev pub quarters_above : ℤ → ℕ
quarters_above z = nat_abs (z -ℤ pos shift_unit *ℤ whole_below z)

-- A row or column, of which there are `size`, limited to the picture's edges.
abbrev pub limited_to : ℕ → ℤ → ℕ
limited_to size (pos n) = min n (size - 1)
limited_to size (negsuc n) = 0

-- The k-th row or column from the whole one below r minus the shift, and the quarters above it.
unfoldable pub place_of : Option Signed → ℕ → ℕ → ℕ → ℕ
place_of m size r k = limited_to size (whole_below (less_shift m r) +ℤ pos k)

unfoldable pub rest_of : Option Signed → ℕ → ℕ
rest_of m r = quarters_above (less_shift m r)

-- One of the four neighbouring mask cells that sample i takes, `down` rows and `right` columns from the first: its row, its
-- column, and its number.
abbrev pub row_of : Geometry → Moves → ℕ → ℕ → ℕ
row_of g m i down = place_of m.vertical g.rows (i / g.columns) down

abbrev pub column_of : Geometry → Moves → ℕ → ℕ → ℕ
column_of g m i right = place_of m.horizontal g.columns (i % g.columns) right

unfoldable pub neighbour_of : Geometry → Moves → ℕ → ℕ → ℕ → ℕ
neighbour_of g m i down right = row_of g m i down * g.columns + column_of g m i right

-- Each of the four lies inside the picture, by its row and by its column.
abbrev pub is_inside : Geometry → Moves → ℕ → ℕ → ℕ → Bool
is_inside g m i down right = ltb (row_of g m i down) g.rows && ltb (column_of g m i right) g.columns

unfoldable pub are_inside : Geometry → Moves → ℕ → Bool
are_inside g m i = (is_inside g m i 0 0 && is_inside g m i 0 1) && (is_inside g m i 1 0 && is_inside g m i 1 1)

-- The two by two block of mask values, row by row.
abbrev pub block_of : (ℕ → ℕ → ℕ) → List (List ℕ)
block_of f = (f 0 0 ∷ f 0 1 ∷ []) ∷ (f 1 0 ∷ f 1 1 ∷ []) ∷ []

-- The four weights in reading order, for a quarters down and b to the right.
abbrev pub weights_of : ℕ → ℕ → List ℕ
weights_of a b = (shift_unit - a) * (shift_unit - b) ∷ (shift_unit - a) * b ∷ a * (shift_unit - b) ∷ a * b ∷ []

-- The sum by the weights, plus 8, divided by 16, rounded down.
unfoldable pub blend_of : List (List ℕ) → List ℕ → ℕ
blend_of block w =
    (get_or (get_or block 0 []) 0 0 * get_or w 0 0
    + get_or (get_or block 0 []) 1 0 * get_or w 1 0
    + get_or (get_or block 1 []) 0 0 * get_or w 2 0
    + get_or (get_or block 1 []) 1 0 * get_or w 3 0
    + 8)
    / 16

-- The mask value that sample i takes; the average comes first.
unfoldable pub blended_at : Geometry → List ℕ → List ℕ → Moves → ℕ → ℕ
blended_at g v ks m i =
    blend_of (block_of (λ down right. mask_at g v ks (neighbour_of g m i down right)))
    (weights_of (rest_of m.vertical (i / g.columns)) (rest_of m.horizontal (i % g.columns)))
