-- The blend of four mask values: not above what none of them is above, the first of them where all sixteenths fall to it, and
-- what the code's offsets come to.
use mathlib.Core.Path.{◌≡◌, refl, sym, ◌∙◌, ap}
use mathlib.Core.List.{List, [], ◌∷◌}
use Prim.Native.Nat.{ℕ, ◌+◌, ◌-◌, ◌*◌, ◌/◌, ◌%◌, ◌^◌, ◌≤◌, ◌<◌, min}
use native.Mathlib.Nat.{div-add-mod', mod-lt, mul-add, mul-le-mul, mul-le-mul_right}
use native.Mathlib.Omega.{arith}
use mathlib.Core.Bool.{true}
use borrow.Author.Tests.{lt-ltb}
use lib.ListN.{length, get_or}
use lib.Dec.{ltb}
use Rattle.shift.specs.declared.Moves.{Moves}
use Rattle.shift.specs.Shift.{largest_shift}
use Rattle.pixel.specs.declared.Geometry.{Geometry}
use Rattle.pixel.specs.Pixel.{samples_of, sample_at, average_of, mask_at, row_of, column_of, neighbour_of, are_inside, weights_of, blend_of}
use Rattle.pixel.specs.Pixel.{blended_at, cell_at}
use Rattle.pixel.specs.Whole.{source_of}
use Rattle.pixel.specs.Internal.{edges, farthest, farthest_move, painted, masked_shade, shifted, OffsetOf, Cells, Weights, Spread}
use Rattle.pixel.specs.Internal.{Averaged, Averages}
use Rattle.pixel.specs.Internal.{mask_place, block_at, blends_at, Blends, quarter_shade, offset_shade, painted_from}
use Rattle.pixel.proofs.Laws.{row_below, column-below, cell_below, mask-most, sum_fits, spread-most, place-row, place-column}
use Rattle.pixel.proofs.Laws.{painted-at, from-length, from_at, from-after}
use Rattle.pixel.proofs.Places.{moved-below, place-below, rest_below}

-- ---- Sixteenths

sixteenths : (n : ℕ) → n % 16 < 16
sixteenths n = mod-lt n (omega arith)

sixteenth : (x y : ℕ) → 16 * y ≤ x → x < 16 * y + 16 → x / 16 ≡ y
sixteenth x y a b = omega (arith, div-add-mod' x 16, sixteenths x)

pub weights-total : (a b : ℕ) → a < 4 → b < 4 → Weights (weights_of a b)
weights-total a b ha hb =
    let p : (4 - a) * (4 - b) + (4 - a) * b ≡ (4 - a) * 4 = sym (mul-add (4 - a) (4 - b) b) ∙ ap (λ (x : ℕ). (4 - a) * x) (whole b hb) in
    let q : a * (4 - b) + a * b ≡ a * 4 = sym (mul-add a (4 - b) b) ∙ ap (λ (x : ℕ). a * x) (whole b hb) in
    record { total = omega arith }
  where
    whole : (b : ℕ) → b < 4 → 4 - b + b ≡ 4
    whole b h = omega arith

-- No product passes 65,535 sixteenths.
pub record Products (block : List (List ℕ)) (w : List ℕ) : Type 0 where
  pub first : get_or (get_or block 0 []) 0 0 * get_or w 0 0 ≤ 1048560
  pub second : get_or (get_or block 0 []) 1 0 * get_or w 1 0 ≤ 1048560
  pub third : get_or (get_or block 1 []) 0 0 * get_or w 2 0 ≤ 1048560
  pub fourth : get_or (get_or block 1 []) 1 0 * get_or w 3 0 ≤ 1048560

pub products : (block : List (List ℕ)) (w : List ℕ) → Cells 65535 block × Weights w → Products block w
products block w (h, t) =
    record {
      first = few h.first (omega (arith, t.total));
      second = few h.second (omega (arith, t.total));
      third = few h.third (omega (arith, t.total));
      fourth = few h.fourth (omega (arith, t.total));
    }
  where
    few : {a b : ℕ} → a ≤ 65535 → b ≤ 16 → a * b ≤ 1048560
    few {a} {b} h k = mul-le-mul {n₁ = a} {m₁ = b} {n₂ = 65535} {m₂ = 16} h k

-- ---- What none of the four is above or below

-- Not above what none of the four is above, and not below what none is below.
module _ (block : List (List ℕ)) (w : List ℕ) (t : Weights w) where
  weighed : (n : ℕ) → n * get_or w 0 0 + n * get_or w 1 0 + n * get_or w 2 0 + n * get_or w 3 0 ≡ 16 * n
  weighed n =
      let a : n * (get_or w 0 0 + get_or w 1 0) ≡ n * get_or w 0 0 + n * get_or w 1 0 = mul-add n _ _ in
      let b : n * (get_or w 0 0 + get_or w 1 0 + get_or w 2 0) ≡ n * (get_or w 0 0 + get_or w 1 0) + n * get_or w 2 0 = mul-add n _ _ in
      let c : n * (get_or w 0 0 + get_or w 1 0 + get_or w 2 0 + get_or w 3 0)
      ≡ n * (get_or w 0 0 + get_or w 1 0 + get_or w 2 0) + n * get_or w 3 0 = mul-add n _ _ in
      let d : n * (get_or w 0 0 + get_or w 1 0 + get_or w 2 0 + get_or w 3 0) ≡ n * 16 = ap (λ (x : ℕ). n * x) t.total in
      omega arith

  pub blend-most : (most : ℕ) → Cells most block → blend_of block w ≤ most
  unfolding blend_of
  blend-most most h =
      let a = mul-le-mul_right (get_or w 0 0) h.first in
      let b = mul-le-mul_right (get_or w 1 0) h.second in
      let c = mul-le-mul_right (get_or w 2 0) h.third in
      let d = mul-le-mul_right (get_or w 3 0) h.fourth in
      let x : ℕ = get_or (get_or block 0 []) 0 0 * get_or w 0 0 + get_or (get_or block 0 []) 1 0 * get_or w 1 0
      + get_or (get_or block 1 []) 0 0 * get_or w 2 0 + get_or (get_or block 1 []) 1 0 * get_or w 3 0 in
      let e : x ≤ 16 * most = omega (arith, weighed most) in
      omega (arith, div-add-mod' (x + 8) 16)

  pub blend-least : (least : ℕ) → least ≤ get_or (get_or block 0 []) 0 0 → least ≤ get_or (get_or block 0 []) 1 0
      → least ≤ get_or (get_or block 1 []) 0 0 → least ≤ get_or (get_or block 1 []) 1 0 → least ≤ blend_of block w
  unfolding blend_of
  blend-least least p q r s =
      let a = mul-le-mul_right (get_or w 0 0) p in
      let b = mul-le-mul_right (get_or w 1 0) q in
      let c = mul-le-mul_right (get_or w 2 0) r in
      let d = mul-le-mul_right (get_or w 3 0) s in
      let x : ℕ = get_or (get_or block 0 []) 0 0 * get_or w 0 0 + get_or (get_or block 0 []) 1 0 * get_or w 1 0
      + get_or (get_or block 1 []) 0 0 * get_or w 2 0 + get_or (get_or block 1 []) 1 0 * get_or w 3 0 in
      let e : 16 * least ≤ x = omega (arith, weighed least) in
      omega (arith, div-add-mod' (x + 8) 16, sixteenths (x + 8))

-- ---- On whole shifts

pub blend-first : (a b c d : ℕ) → blend_of ((a ∷ b ∷ []) ∷ (c ∷ d ∷ []) ∷ []) (weights_of 0 0) ≡ a
unfolding blend_of
blend-first a b c d = sixteenth (a * 16 + b * 0 + c * 0 + d * 0 + 8) a (omega arith) (omega arith)

-- The mask cell of the step of whole pixels lies in the frame.
pub source-below : (g : Geometry) (m : Moves) (i : ℕ) → i < samples_of g → source_of g m i < samples_of g
unfolding source_of
source-below g m i inside =
    cell_below g i inside _ _
    (moved-below m.vertical g.rows (i / g.columns) (row_below g i inside))
    (moved-below m.horizontal g.columns (i % g.columns) (column-below g i inside))

-- ---- Of a picture

module _ (g : Geometry) (m : Moves) (i : ℕ) where
  pub are-inside : i < samples_of g → are_inside g m i ≡ true
  unfolding are_inside
  are-inside inside = rw (row 0, row 1, column 0, column 1)
    where
      row : (down : ℕ) → ltb (row_of g m i down) g.rows ≡ true
      row down = lt-ltb _ _ (place-below m.vertical g.rows (i / g.columns) down (row_below g i inside))

      column : (right : ℕ) → ltb (column_of g m i right) g.columns ≡ true
      column right = lt-ltb _ _ (place-below m.horizontal g.columns (i % g.columns) right (column-below g i inside))

  module _ (v ks : List ℕ) where
    -- A mask value is not above what the samples hold.
    pub blended-most : 1 ≤ length ks → length ks ≤ 64 → blended_at g v ks m i ≤ 2 ^ g.stored - 1
    unfolding blended_at
    blended-most some few =
        blend-most _ _ (weights-total _ _ (rest_below m.vertical (i / g.columns)) (rest_below m.horizontal (i % g.columns)))
        (2 ^ g.stored - 1)
        (record {
          first = mask-most g v ks _ some few;
          second = mask-most g v ks _ some few;
          third = mask-most g v ks _ some few;
          fourth = mask-most g v ks _ some few;
        })

-- ---- The code's offsets

module _ (table : List ℕ) (g : Geometry) (v : List ℕ) (f : ℕ) (ks : List ℕ) where
  pub offset-shade : (m : Moves) (down right i : ℕ) → OffsetOf m.vertical down → OffsetOf m.horizontal right
      → quarter_shade table g v f ks down right i ≡ masked_shade table g v f ks m i
  unfolding quarter_shade masked_shade blended_at neighbour_of
  offset-shade m down right i d r =
      rw (
        d.above (i / g.columns),
        r.above (i % g.columns),
        d.places g.rows (i / g.columns) 0,
        d.places g.rows (i / g.columns) 1,
        r.places g.columns (i % g.columns) 0,
        r.places g.columns (i % g.columns) 1,
      )

  pub whole-shade : (down right i : ℕ) → down % 4 ≡ 0 → right % 4 ≡ 0
      → offset_shade table g v f ks (down / 4) (right / 4) i ≡ quarter_shade table g v f ks down right i
  unfolding quarter_shade offset_shade
  whole-shade down right i d r =
      let e : down / 4 + 0 ≡ down / 4 = omega arith in
      let h : right / 4 + 0 ≡ right / 4 = omega arith in
      rw (d, r, blend-first, e, h)

-- ---- Rows of averages

pub spread-fits : (v : List ℕ) (g : Geometry) (ks : List ℕ) (row : ℕ) (sums : List ℕ) → length ks ≤ 64 → g.stored ≤ 16
    → Spread v g ks row sums → (j : ℕ) → j < g.columns + edges → get_or sums j 0 ≤ 4194240
spread-fits v g ks row sums few high s j l = omega
    (arith, spread-most v g ks row sums (length ks) refl s j l, sum_fits (length ks) g.stored few high)

-- The averages of a row of sums.
pub averaged : (v : List ℕ) (g : Geometry) (ks : List ℕ) (row : ℕ) (sums : List ℕ) (n : ℕ) → n ≡ length ks
    → g.columns + edges ≤ length sums
    → Spread v g ks row sums → Averaged v g ks row (painted (λ j. average_of (get_or sums j 0) n) (g.columns + edges) sums)
unfolding mask_at
averaged v g ks row sums n e room s =
    record { at = λ j l. painted-at (λ j. average_of (get_or sums j 0) n) (g.columns + edges) sums j room l ∙ rw (s.at j l, e) }

-- A copy of such a row.
pub averaged-copy : (v : List ℕ) (g : Geometry) (ks : List ℕ) (row : ℕ) (cells room : List ℕ) → g.columns + edges ≤ length room
    → Averaged v g ks row cells → Averaged v g ks row (painted (λ j. get_or cells j 0) (g.columns + edges) room)
averaged-copy v g ks row cells room h
    s = record { at = λ j l. painted-at (λ j. get_or cells j 0) (g.columns + edges) room j h l ∙ s.at j l }

pub averages : (v : List ℕ) (g : Geometry) (ks : List ℕ) (row : ℕ) (cells : List ℕ) → 1 ≤ length ks → length ks ≤ 64
    → g.columns + edges ≤ length cells → Averaged v g ks row cells → Averages g cells
averages v g ks row cells some few room s =
    record {
      at = λ j l.
          (omega arith, rw (s.at j l) (mask-most g v ks (row * g.columns + min (j - largest_shift) (g.columns - 1)) some few));
    }

-- The cells of a block of two such rows.
pub block-cells : (g : Geometry) (upper lower : List ℕ) → Averages g upper → Averages g lower → (j : ℕ) → j + 1 < g.columns + edges
    → Cells (2 ^ g.stored - 1) (block_at upper lower j)
block-cells g upper lower u l j h = record {
  first = (u.at j (omega arith)).1;
  second = (u.at (j + 1) h).1;
  third = (l.at j (omega arith)).1;
  fourth = (l.at (j + 1) h).1;
}

pub cells-more : (low most : ℕ) (block : List (List ℕ)) → low ≤ most → Cells low block → Cells most block
cells-more low most block h c = record {
  first = omega (arith, c.first);
  second = omega (arith, c.second);
  third = omega (arith, c.third);
  fourth = omega (arith, c.fourth);
}

-- What is blended already does not stand in the next block.
pub block-now : (upper lower w : List ℕ) (s c : ℕ) (now : List ℕ) → now ≡ painted_from (blends_at upper lower w s) s c upper
    → block_at now lower (s + c) ≡ block_at upper lower (s + c)
block-now upper lower w s c now e =
    rw (
      e,
      from-after (blends_at upper lower w s) s c upper (s + c) (omega arith),
      from-after (blends_at upper lower w s) s c upper (s + c + 1) (omega arith),
    )

-- The row of mask values that two such rows give.
pub blends-row : (g : Geometry) (s : ℕ) (w upper lower masks : List ℕ) → Blends g s w upper lower
    → masks ≡ painted_from (blends_at upper lower w s) s g.columns upper
    → (c : ℕ) → c < g.columns
    → (get_or masks (s + c) 0 ≡ blends_at upper lower w s c) × ((s + c < length masks) × (get_or masks (s + c) 0 ≤ 2 ^ g.stored - 1))
blends-row g s w upper lower masks b e c h =
    let a : s + c < length upper = (b.above.at (s + c) (omega (arith, b.most))).0 in
    let z : s + (g.columns - 1) < length upper = (b.above.at (s + (g.columns - 1)) (omega (arith, b.most))).0 in
    let l : length masks ≡ length upper = ap length e ∙ from-length (blends_at upper lower w s) s g.columns upper in
    let v : get_or masks (s + c) 0 ≡ blends_at upper lower w s c = ap (λ (m : List ℕ). get_or m (s + c) 0) e
    ∙ from_at (blends_at upper lower w s) s g.columns upper c (omega arith) h in (
      v,
      (
        omega arith,
        rw v (blend-most (block_at upper lower (s + c)) w b.weights (2 ^ g.stored - 1)
            (block-cells g upper lower b.above b.below (s + c) (omega (arith, b.most)))),
      ),
    )

-- A line's places in the table are those of its samples.
module _ (v line : List ℕ) (g : Geometry) (f : ℕ) (ks upper lower masks : List ℕ) (down right r : ℕ) (most : right ≤ farthest_move)
    (u : Averaged v g ks (shifted (down / 4) g.rows r) upper) (l : Averaged v g ks (shifted (down / 4 + 1) g.rows r) lower) where
  pub blend-offset : (table : List ℕ) (c : ℕ) → c < g.columns → cell_at g line c ≡ sample_at g v f (r * g.columns + c)
      → get_or masks (right / 4 + c) 0 ≡ blends_at upper lower (weights_of (down % 4) (right % 4)) (right / 4) c
      → get_or table (mask_place g line masks (right / 4) c) 0 ≡ quarter_shade table g v f ks down right (r * g.columns + c)
  unfolding mask_place quarter_shade
  blend-offset table c hc cell is =
      let s : right / 4 ≤ farthest = omega (arith, div-add-mod' right 4) in
      let z : right / 4 + c ≡ c + right / 4 = omega arith in
      let d : down / 4 + 0 ≡ down / 4 = omega arith in
      let x : right / 4 + 0 ≡ right / 4 = omega arith in
      let y : c + right / 4 + 1 ≡ c + (right / 4 + 1) = omega arith in
      rw (
        is,
        cell,
        place-row r g.columns c hc,
        place-column r g.columns c hc,
        d,
        x,
        z,
        y,
        u.at (c + right / 4) (omega arith),
        u.at (c + (right / 4 + 1)) (omega arith),
        l.at (c + right / 4) (omega arith),
        l.at (c + (right / 4 + 1)) (omega arith),
      )

-- The lower row of one row is the upper row of the next.
pub next_row_lem : (v : List ℕ) (g : Geometry) (ks : List ℕ) (s r : ℕ) (cells : List ℕ) → Averaged v g ks (shifted (s + 1) g.rows r) cells
    → Averaged v g ks (shifted s g.rows (r + 1)) cells
next_row_lem v g ks s r cells h =
    let e : r + 1 + s ≡ r + (s + 1) = omega arith in
    rw e h
