-- What the functions of this crate require of and promise each other. None of this is in the papers.
use Rattle.std.specs.Prelude.{◌≡◌, true, List, [], ◌∷◌, ◌⊎◌, ℕ, zero, suc, ◌+◌, ◌-◌, ◌^◌, ◌*◌, ◌/◌, ◌%◌, ◌≤◌, ◌<◌, min, get_or, set, length, Option}
use Rattle.basics.specs.Limits.{last_frame, most_mask_frames}
use Rattle.value.specs.Number.{us_values}
use Rattle.value.specs.declared.Signed.{Signed}
use Rattle.shift.specs.Shift.{shift_unit, largest_shift, largest_move}
use Rattle.shift.specs.declared.Moves.{Moves}
use Rattle.window.specs.Internal.{shade_places}
use Rattle.pixel.specs.declared.Geometry.{Geometry}
use Rattle.pixel.specs.Pixel.{sample_at, blended_at, is_frame, sum_at, average_of, mask_at, place_of, rest_of, block_of, weights_of}
use Rattle.pixel.specs.Pixel.{cell_at, blend_of}

-- ---- What the painting functions write: one byte for each sample of the frame, from a table of shades. The place in the table is
-- sample - mask + 2^stored - 1; a native sample takes the place that a mask of 2^(stored - 1) would give it.

-- The first n bytes of an image are f 0, f 1, ..; it is untouched beyond them.
unfoldable pub painted : (ℕ → ℕ) → ℕ → List ℕ → List ℕ
painted f zero image = image
painted f (suc n) image = set (painted f n image) n (f n)

unfoldable pub native_shade : List ℕ → Geometry → List ℕ → ℕ → ℕ → ℕ
native_shade table g v f i = get_or table (sample_at g v f i + (2 ^ g.stored - 1 - 2 ^ (g.stored - 1))) 0

unfoldable pub masked_shade : List ℕ → Geometry → List ℕ → ℕ → List ℕ → Moves → ℕ → ℕ
masked_shade table g v f ks m i = get_or table (sample_at g v f i + (2 ^ g.stored - 1) - blended_at g v ks m i) 0

-- ---- Room for moves

-- The places of a row beside its columns: the largest move at either edge, and one more for the right neighbour.
abbrev pub edges : ℕ
edges = 2 * largest_shift + 1

-- The most rows and columns of a frame: each number is a US.
abbrev pub largest_side : ℕ
largest_side = 65535

-- The places of the longest row.
abbrev pub longest_row : ℕ
longest_row = largest_side + edges

-- The largest sample, of 16 bits, and the largest sum of the mask frames' samples at one place.
abbrev pub largest_sample : ℕ
largest_sample = 65535

abbrev pub largest_sum : ℕ
largest_sum = most_mask_frames * largest_sample

-- The largest offset of a whole move, and of one in quarters (see `shifted`, `OffsetOf`).
abbrev pub farthest : ℕ
farthest = 2 * largest_shift

abbrev pub farthest_move : ℕ
farthest_move = 2 * largest_move

-- ---- What drawing needs

-- A sample is one byte or two, and holds 1 to 16 bits; a row fits the room for sums.
pub record Shaped (g : Geometry) : Type 0 where
  pub width : (g.width ≡ 1) ⊎ (g.width ≡ 2)
  pub stored_some : 1 ≤ g.stored
  pub stored-most : g.stored ≤ 16
  pub rows-some : 1 ≤ g.rows
  pub rows-most : g.rows ≤ largest_side
  pub columns-some : 1 ≤ g.columns
  pub columns-most : g.columns ≤ largest_side

-- Mask frames: 1 to 64 numbers of frames.
pub record Masks (pixels : List ℕ) (g : Geometry) (masks : List ℕ) : Type 0 where
  pub some : 1 ≤ length (us_values masks)
  pub few : length (us_values masks) ≤ most_mask_frames
  pub frames : (k : ℕ) → k < length (us_values masks) → is_frame g pixels (get_or (us_values masks) k 0) ≡ true

-- ---- Numbers below which no product passes 64 bits

pub record SmallProducts (g : Geometry) (k : ℕ) : Type 0 where
  pub rows : g.rows ≤ largest_side
  pub columns : g.columns ≤ largest_side
  pub width : g.width ≤ 8191
  pub number : k ≤ last_frame

-- ---- Samples

-- The place of sample j in a table of shades, where it takes no mask, and where it takes mask values that begin at an offset.
unfoldable pub plain_place : Geometry → List ℕ → ℕ → ℕ
plain_place g v j = cell_at g v j + (2 ^ g.stored - 1 - 2 ^ (g.stored - 1))

unfoldable pub mask_place : Geometry → List ℕ → List ℕ → ℕ → ℕ → ℕ
mask_place g v masks s j = cell_at g v j + (2 ^ g.stored - 1) - get_or masks (s + j) 0

-- Sample j lies in the pixel bytes, and `low` keeps its stored bits.
pub record Lies (v : List ℕ) (g : Geometry) (low j : ℕ) : Type 0 where
  pub width : (g.width ≡ 1) ⊎ (g.width ≡ 2)
  pub kept : low ≡ 2 ^ g.stored - 1
  pub inside : j * g.width + g.width ≤ length v

-- The samples of a row that begins with sample `from` lie in the pixel bytes.
pub record RowLies (v : List ℕ) (g : Geometry) (from : ℕ) : Type 0 where
  pub shape : Shaped g
  pub inside : (from + g.columns) * g.width ≤ length v

-- ---- Moves

-- The place that place i takes by an offset, that is the largest move minus a whole move, limited to `size` places at either edge.
abbrev pub shifted : ℕ → ℕ → ℕ → ℕ
shifted s size i = min (i + s - largest_shift) (size - 1)

-- An offset in quarters, that is the largest move minus a move: its whole part is an offset, its rest the quarters above.
pub record OffsetOf (m : Option Signed) (d : ℕ) : Type 0 where
  pub most : d ≤ farthest_move
  pub places : (size r k : ℕ) → place_of m size r k ≡ shifted (d / shift_unit + k) size r
  pub above : (r : ℕ) → rest_of m r ≡ d % shift_unit

-- ---- Sums of a row

-- A row's sums are those of the mask frames.
pub record Summed (v : List ℕ) (g : Geometry) (ks : List ℕ) (row : ℕ) (sums : List ℕ) : Type 0 where
  pub at : (c : ℕ) → c < g.columns → get_or sums c 0 ≡ sum_at g v ks (row * g.columns + c)

-- The same after the left edge, with the first of them in the places before and the last in the places after.
pub record Spread (v : List ℕ) (g : Geometry) (ks : List ℕ) (row : ℕ) (sums : List ℕ) : Type 0 where
  pub at : (j : ℕ) → j < g.columns + edges → get_or sums j 0 ≡ sum_at g v ks (row * g.columns + min (j - largest_shift) (g.columns - 1))

-- Averages in place of sums.
pub record Averaged (v : List ℕ) (g : Geometry) (ks : List ℕ) (row : ℕ) (cells : List ℕ) : Type 0 where
  pub at : (j : ℕ) → j < g.columns + edges → get_or cells j 0 ≡ mask_at g v ks (row * g.columns + min (j - largest_shift) (g.columns - 1))

-- ---- Blending

-- Four cells of a mask, none above `most`, and four weights of sixteenths.
pub record Cells (most : ℕ) (block : List (List ℕ)) : Type 0 where
  pub first : get_or (get_or block 0 []) 0 0 ≤ most
  pub second : get_or (get_or block 0 []) 1 0 ≤ most
  pub third : get_or (get_or block 1 []) 0 0 ≤ most
  pub fourth : get_or (get_or block 1 []) 1 0 ≤ most

pub record Weights (w : List ℕ) : Type 0 where
  pub total : get_or w 0 0 + get_or w 1 0 + get_or w 2 0 + get_or w 3 0 ≡ 16

-- ---- Painting

-- From place `at` on, n places are f 0, f 1, ..; the others are untouched.
unfoldable pub painted_from : (ℕ → ℕ) → ℕ → ℕ → List ℕ → List ℕ
painted_from f at zero image = image
painted_from f at (suc n) image = set (painted_from f at n image) (at + n) (f n)

-- The shade of cell c of a row, by the spread sums of a row of n mask frames.
unfoldable pub row_shade : List ℕ → Geometry → List ℕ → List ℕ → ℕ → ℕ → ℕ → ℕ
row_shade table g v sums n s c = get_or table (cell_at g v c + (2 ^ g.stored - 1) - average_of (get_or sums (c + s) 0) n) 0

-- The shade of sample i by two offsets, down and to the right.
unfoldable pub offset_shade : List ℕ → Geometry → List ℕ → ℕ → List ℕ → ℕ → ℕ → ℕ → ℕ
offset_shade table g v f ks down right i =
    get_or table
    (sample_at g v f i + (2 ^ g.stored - 1)
    - mask_at g v ks (shifted down g.rows (i / g.columns) * g.columns + shifted right g.columns (i % g.columns)))
    0

-- What a row is drawn from.
pub record Drawn (v : List ℕ) (g : Geometry) (n s : ℕ) (table sums line : List ℕ) : Type 0 where
  pub row : RowLies v g 0
  pub some : 1 ≤ n
  pub few : n ≤ most_mask_frames
  pub most : s ≤ farthest
  pub shades : shade_places ≤ length table
  pub summed : (j : ℕ) → j < g.columns + edges → (j < length sums) × (get_or sums j 0 ≤ n * (2 ^ g.stored - 1))
  pub room : g.columns ≤ length line

-- ---- Drawing by quarters

-- The two by two block at place j of two rows.
abbrev pub block_at : List ℕ → List ℕ → ℕ → List (List ℕ)
block_at upper lower j = (get_or upper j 0 ∷ get_or upper (j + 1) 0 ∷ []) ∷ (get_or lower j 0 ∷ get_or lower (j + 1) 0 ∷ []) ∷ []

-- The mask value of cell c of a row, blended from two rows of averages.
abbrev pub blends_at : List ℕ → List ℕ → List ℕ → ℕ → ℕ → ℕ
blends_at upper lower w s c = blend_of (block_at upper lower (s + c)) w

-- The shade of sample i by two offsets of quarters, down and to the right.
unfoldable pub quarter_shade : List ℕ → Geometry → List ℕ → ℕ → List ℕ → ℕ → ℕ → ℕ → ℕ
quarter_shade table g v f ks down right i =
    get_or table
    (sample_at g v f i
    + (2 ^ g.stored - 1)
    - blend_of
    (block_of (λ y x. mask_at g v ks (shifted (down / shift_unit + y) g.rows (i / g.columns) * g.columns
    + shifted (right / shift_unit + x) g.columns (i % g.columns))))
    (weights_of (down % shift_unit) (right % shift_unit)))
    0

-- A row of averages, of which none is above what the samples hold.
pub record Averages (g : Geometry) (cells : List ℕ) : Type 0 where
  pub at : (j : ℕ) → j < g.columns + edges → (j < length cells) × (get_or cells j 0 ≤ 2 ^ g.stored - 1)

-- What a row of mask values is blended from.
pub record Blends (g : Geometry) (s : ℕ) (w upper lower : List ℕ) : Type 0 where
  pub shape : Shaped g
  pub most : s ≤ farthest
  pub weights : Weights w
  pub above : Averages g upper
  pub below : Averages g lower

-- What a row is drawn from once its mask values are known.
pub record Subtracts (v : List ℕ) (g : Geometry) (s : ℕ) (masks line : List ℕ) : Type 0 where
  pub row : RowLies v g 0
  pub most : s ≤ farthest
  pub masked : (c : ℕ) → c < g.columns → (s + c < length masks) × (get_or masks (s + c) 0 ≤ 2 ^ g.stored - 1)
  pub room : g.columns ≤ length line
