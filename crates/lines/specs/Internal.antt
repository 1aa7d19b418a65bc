-- What the functions that draw a line require and promise. None of this is in the papers; a cell's level is defined in `Rattle.pixel` and
-- `Rattle.window`.
use Rattle.std.specs.Prelude.{◌≡◌, Bool, true, List, ℕ, ◌+◌, ◌-◌, ◌/◌, ◌%◌, ◌^◌, ◌≤◌, ◌<◌, length}
use Rattle.basics.specs.Lists.{up_to}
use Rattle.value.specs.Number.{us_values}
use Rattle.shift.specs.declared.Moves.{Moves}
use Rattle.shift.specs.Shift.{shift_unit}
use Rattle.window.specs.Internal.{Drawable, shade_at, Filled, shade_places}
use Rattle.pixel.specs.declared.Geometry.{Geometry}
use Rattle.pixel.specs.Pixel.{is_frame}
use Rattle.pixel.specs.Internal.{Shaped, Masks, farthest_move, longest_row, shifted, Averaged, native_shade, quarter_shade, masked_shade}
use Rattle.lines.specs.declared.Shades.{Shades}
use Rattle.lines.specs.declared.Way.{Way}
use Rattle.lines.specs.declared.Way.TheVariants as way

-- The levels at all places, whether a table holds them or not.
unfoldable pub shades_of : Shades → ℕ → List ℕ
shades_of t stored = up_to (shade_at t.window stored t.inverse) shade_places

-- A table that is marked as filled is filled.
pub record Shaded (t : Shades) (stored : ℕ) (table : List ℕ) : Type 0 where
  pub drawable : Drawable t.window
  pub shades : t.filled ≡ true → Filled (shade_at t.window stored t.inverse) (2 ^ (stored + 1) - 1) table

-- What the lines of a frame are drawn from, one after the other into one line: the pixel bytes hold the frame, and there is room for a
-- line and two mask rows.
pub record LinesReady (v : List ℕ) (g : Geometry) (f : ℕ) (t : Shades) (table upper lower line : List ℕ) : Type 0 where
  pub shape : Shaped g
  pub inside : is_frame g v f ≡ true
  pub shaded : Shaded t g.stored table
  pub above : longest_row ≤ length upper
  pub below : longest_row ≤ length lower
  pub wide : 65535 ≤ length line

-- What a line of a frame is drawn from and into.
pub record LineReady (v : List ℕ) (g : Geometry) (f row : ℕ) (line : List ℕ) : Type 0 where
  pub shape : Shaped g
  pub inside : is_frame g v f ≡ true
  pub lies : row < g.rows
  pub room : g.columns ≤ length line

-- Its mask frames, and two offsets in quarters.
pub record MaskedBy (v : List ℕ) (g : Geometry) (masks : List ℕ) (down right : ℕ) : Type 0 where
  pub taken : Masks v g masks
  pub down-most : down ≤ farthest_move
  pub right-most : right ≤ farthest_move

-- ---- Ways to draw a frame

-- The mask is moved by whole pixels, and there is room for a row of sums.
pub record WholeReady (v : List ℕ) (g : Geometry) (masks : List ℕ) (down right : ℕ) (filled : Bool) (sums : List ℕ) : Type 0 where
  pub masked : MaskedBy v g masks down right
  pub is-filled : filled ≡ true
  pub down-whole : down % shift_unit ≡ 0
  pub right-whole : right % shift_unit ≡ 0
  pub room : longest_row ≤ length sums

-- Two mask rows are blended, and `lower` is the one that line `row` takes as its upper.
pub record QuartersReady (v : List ℕ) (g : Geometry) (masks : List ℕ) (down right row : ℕ) (upper lower : List ℕ) : Type 0 where
  pub masked : MaskedBy v g masks down right
  pub above : longest_row ≤ length upper
  pub below : longest_row ≤ length lower
  pub averaged : Averaged v g (us_values masks) (shifted (down / shift_unit) g.rows row) lower

-- What line `row` takes by each way.
abbrev pub WayReady : Way → List ℕ → Geometry → List ℕ → Bool → ℕ → List ℕ → List ℕ → Type 0
WayReady way.Native v g masks filled row upper lower = Unit {0}
WayReady (way.Whole down right) v g masks filled row upper lower = WholeReady v g masks down right filled upper
WayReady (way.Quarters down right) v g masks filled row upper lower = QuartersReady v g masks down right row upper lower

-- The level of sample i by each way, from the levels at all places.
abbrev pub way_shade : Way → List ℕ → Geometry → List ℕ → ℕ → List ℕ → ℕ → ℕ
way_shade way.Native t g v f ks i = native_shade t g v f i
way_shade (way.Whole down right) t g v f ks i = quarter_shade t g v f ks down right i
way_shade (way.Quarters down right) t g v f ks i = quarter_shade t g v f ks down right i

-- The way for two moves: the first line can be drawn by it, and it draws the levels that the moves lead to.
pub record WayOf (w : Way) (v : List ℕ) (g : Geometry) (masks : List ℕ) (filled : Bool) (m : Moves) (lower : List ℕ) : Type 0 where
  pub ready : (upper : List ℕ) → longest_row ≤ length upper → WayReady w v g masks filled 0 upper lower
  pub shades : (t : List ℕ) (f i : ℕ) → way_shade w t g v f (us_values masks) i ≡ masked_shade t g v f (us_values masks) m i
