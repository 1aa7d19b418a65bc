-- A sample read from its line's bytes is the frame's sample, and a level read from a filled table is the window's level.
use mathlib.Core.Path.{◌≡◌, sym, ap, ◌∙◌}
use mathlib.Core.Bool.{Bool, true}
use mathlib.Core.List.{List}
use Prim.Native.Nat.{ℕ, ◌+◌, ◌-◌, ◌*◌, ◌/◌, ◌%◌, ◌^◌, ◌≤◌, ◌<◌}
use native.Mathlib.Nat.{add-mul, div-add-mod', mul_assoc, mul-le-mul_right}
use native.Mathlib.Omega.{arith}
use lib.Pow.{pow_pos}
use lib.ListN.{length, get_or, take, drop}
use denote.Ref.{Bor}
use Rattle.value.specs.Number.{number_or0}
use Rattle.window.specs.declared.Window.{Window}
use lib.IntN.{pos, ◌-ℤ◌}
use Rattle.window.specs.Window.{level_of, shaded}
use Rattle.window.specs.Internal.{shade_at, Filled, shade_places}
use Rattle.window.proofs.Laws.{power_small, power-twice}
use Rattle.pixel.specs.declared.Geometry.{Geometry}
use Rattle.pixel.specs.Pixel.{samples_of, is_frame, sample_at, weights_of, cell_at}
use Rattle.pixel.specs.Internal.{painted, native_shade, Shaped, RowLies, plain_place, mask_place, painted_from, row_shade, blends_at}
use Rattle.pixel.specs.Internal.{Blends}
use Rattle.pixel.specs.Internal.{edges, farthest, farthest_move, Subtracts, quarter_shade, Spread, Averaged, shifted}
use Rattle.pixel.proofs.Laws.{width_some, frame-facts, sample-cell, sample-most, cell-most, power-most, half-low, painted_same, row-offset}
use Rattle.pixel.proofs.Places.{fourths}
use Rattle.pixel.proofs.Blend.{weights-total, averages, blends-row, blend-offset, whole-shade}
use Rattle.frame.specs.View.{Part, frame_size}
use Rattle.frame.specs.Internal.{Fits}
use Rattle.frame.proofs.Laws.{part-size}
use Rattle.frame.proofs.Lent.{cell-part}
use Rattle.lines.specs.declared.Shades.{Shades}
use Rattle.lines.specs.Internal.{shades_of}
use Rattle.lines.proofs.Lists.{up_to-length, up_to-at}

-- ---- The bytes of a line

-- Where a line starts, in bytes and in samples.
line-start : (m rows columns w row : ℕ) → m * frame_size rows columns w + row * (columns * w) ≡ (m * (rows * columns) + row * columns) * w
line-start m rows columns w row =
    let p : m * (rows * columns * w) ≡ m * (rows * columns) * w = sym (mul_assoc m (rows * columns) w) in
    let q : row * (columns * w) ≡ row * columns * w = sym (mul_assoc row columns w) in
    rw (p, q) (sym (add-mul (m * (rows * columns)) (row * columns) w))

module _ (g : Geometry) (s : Bor (List ℕ)) (f row : ℕ) where
  pub fits : Shaped g → is_frame g s.now f ≡ true → Fits g.rows g.columns g.width f (length s.now)
  fits shape h =
      let a = frame-facts g s.now f h in
      let e : f * (g.rows * g.columns * g.width)
      ≡ f * (g.rows * g.columns) * g.width = sym (mul_assoc f (g.rows * g.columns) g.width) in
      record { first = a.0; some = width_some g.width shape.width; inside = rw e a.1 }

-- ---- Levels from a table and from the window

module _ (t : Shades) (stored : ℕ) where
  pub ideal-at : (p : ℕ) → p < shade_places → get_or (shades_of t stored) p 0 ≡ shade_at t.window stored t.inverse p
  unfolding shades_of
  ideal-at p h = up_to-at (shade_at t.window stored t.inverse) shade_places p h

  pub ideal-filled : stored ≤ 16 → Filled (shade_at t.window stored t.inverse) (2 ^ (stored + 1) - 1) (shades_of t stored)
  unfolding shades_of
  ideal-filled most =
      record {
        size = up_to-length (shade_at t.window stored t.inverse) shade_places;
        value = λ i h. ideal-at i (omega (arith, power_small (stored + 1) 17 (omega arith)));
      }

  pub table_at : (table : List ℕ) → Filled (shade_at t.window stored t.inverse) (2 ^ (stored + 1) - 1) table → stored ≤ 16 → (p : ℕ)
      → p + 2 ≤ 2 ^ stored + 2 ^ stored
      → get_or table p 0 ≡ get_or (shades_of t stored) p 0
  table_at table h most p l = h.value p (omega (arith, power-twice stored)) ∙ sym (ideal-at p (omega (arith, power-most stored most)))

-- ---- Places, as the code works them out

pub shade-at : (w : Window) (stored : ℕ) (inverse : Bool) (p h l place : ℕ) → h ≡ 2 ^ (stored - 1) → l ≡ 2 ^ stored → p ≡ place
    → number_or0 (shaded inverse (level_of w (pos (p + h) -ℤ pos (l - 1)))) ≡ shade_at w stored inverse place
unfolding shade_at
shade-at w stored inverse p h l place a b d = rw (a, b, d)

-- ---- A line of frame f

module _ (g : Geometry) (shape : Shaped g) (s : Bor (List ℕ)) (f row : ℕ) (r : Bor (List ℕ))
    (p : Part s ((f - 1) * frame_size g.rows g.columns g.width + row * (g.columns * g.width)) (g.columns * g.width) r) where
  line-long : length r.now ≡ g.columns * g.width
  line-long = part-size s _ _ r p

  pub line_row : RowLies r.now g 0
  line_row =
      let z : 0 + g.columns ≡ g.columns = omega arith in
      record { shape = shape; inside = rw (z, line-long) (omega arith) }

  pub line-cell : (c : ℕ) → c < g.columns → cell_at g r.now c ≡ sample_at g s.now f (row * g.columns + c)
  line-cell c h =
      let a : (c + 1) * g.width ≤ g.columns * g.width = mul-le-mul_right g.width (omega arith) in
      let b : (c + 1) * g.width ≡ c * g.width + g.width = omega arith in
      let e : (f - 1) * samples_of g + row * g.columns + c ≡ (f - 1) * samples_of g + (row * g.columns + c) = omega arith in
      ap (λ (x : List ℕ). cell_at g x c) (p.bytes
      ∙ ap (λ (x : ℕ). take (g.columns * g.width) (drop x s.now)) (line-start (f - 1) g.rows g.columns g.width row))
      ∙ (cell-part g s.now ((f - 1) * samples_of g + row * g.columns) (g.columns * g.width) c (omega arith)
      ∙ (ap (cell_at g s.now) e ∙ sym (sample-cell g s.now f (row * g.columns + c))))

  module _ (t : Shades) (table line : List ℕ) where
    -- ---- Without a mask

    pub native-by-table : Filled (shade_at t.window g.stored t.inverse) (2 ^ (g.stored + 1) - 1) table
        → painted (λ c. get_or table (plain_place g r.now c) 0) g.columns line
        ≡ painted (λ c. native_shade (shades_of t g.stored) g s.now f (row * g.columns + c)) g.columns line
    unfolding native_shade plain_place
    native-by-table h =
        painted_same _ _ g.columns line (λ c l.
        ap (λ (x : ℕ). get_or table (x + (2 ^ g.stored - 1 - 2 ^ (g.stored - 1))) 0) (line-cell c l)
        ∙ table_at t g.stored table h shape.stored-most
        (sample_at g s.now f (row * g.columns + c) + (2 ^ g.stored - 1 - 2 ^ (g.stored - 1)))
        (omega
        (arith, sample-most g s.now f (row * g.columns + c), half-low g.stored shape.stored_some, pow_pos (g.stored - 1))))

    pub native-by-window : painted (λ c. shade_at t.window g.stored t.inverse (plain_place g r.now c)) g.columns line
        ≡ painted (λ c. native_shade (shades_of t g.stored) g s.now f (row * g.columns + c)) g.columns line
    unfolding native_shade plain_place
    native-by-window =
        painted_same _ _ g.columns line (λ c l.
        sym (ideal-at t g.stored (cell_at g r.now c + (2 ^ g.stored - 1 - 2 ^ (g.stored - 1)))
        (omega (arith, cell-most g r.now c, power-most g.stored shape.stored-most)))
        ∙ ap (λ (x : ℕ). get_or (shades_of t g.stored) (x + (2 ^ g.stored - 1 - 2 ^ (g.stored - 1))) 0) (line-cell c l))

    -- ---- With one

    by-window : (masks : List ℕ) (o c : ℕ) → shade_at t.window g.stored t.inverse (mask_place g r.now masks o c)
        ≡ get_or (shades_of t g.stored) (mask_place g r.now masks o c) 0
    unfolding mask_place
    by-window masks o c = sym
        (ideal-at t g.stored _ (omega (arith, cell-most g r.now c, power-most g.stored shape.stored-most)))

    module _ (ks : List ℕ) (down right : ℕ) (most : right ≤ farthest_move) where
      -- From a filled table as from the window.
      quarter-at : Filled (shade_at t.window g.stored t.inverse) (2 ^ (g.stored + 1) - 1) table → (i : ℕ)
          → quarter_shade table g s.now f ks down right i ≡ quarter_shade (shades_of t g.stored) g s.now f ks down right i
      unfolding quarter_shade
      quarter-at h i = table_at t g.stored table h shape.stored-most _
          (omega (arith, sample-most g s.now f i, pow_pos g.stored))

      pub whole-by-table : Filled (shade_at t.window g.stored t.inverse) (2 ^ (g.stored + 1) - 1) table → (sums : List ℕ) (n : ℕ)
          → down % 4 ≡ 0 → right % 4 ≡ 0 → right / 4 ≤ farthest → n ≡ length ks
          → Spread s.now g ks (shifted (down / 4) g.rows row) sums
          → painted (row_shade table g r.now sums n (right / 4)) g.columns line
          ≡ painted (λ c. quarter_shade (shades_of t g.stored) g s.now f ks down right (row * g.columns + c)) g.columns line
      whole-by-table h sums n d e few q u =
          painted_same _ _ g.columns line (λ c l.
          row-offset table s.now r.now g f ks sums (down / 4) (right / 4) row n few q u c l (line-cell c l)
          ∙ (whole-shade table g s.now f ks down right (row * g.columns + c) d e ∙ quarter-at h (row * g.columns + c)))

      -- The mask rows that a line takes, averaged, of 1 to 64 frames.
      module _ (upper lower : List ℕ) (a : Averaged s.now g ks (shifted (down / 4) g.rows row) upper)
          (b : Averaged s.now g ks (shifted (down / 4 + 1) g.rows row) lower)
          (some : 1 ≤ length ks) (few : length ks ≤ 64) (above : g.columns + edges ≤ length upper)
          (below : g.columns + edges ≤ length lower) where
        pub line-blends : Blends g (right / 4) (weights_of (down % 4) (right % 4)) upper lower
        line-blends =
            record {
              shape = shape;
              most = omega (arith, div-add-mod' right 4);
              weights = weights-total (down % 4) (right % 4) (fourths down) (fourths right);
              above = averages s.now g ks (shifted (down / 4) g.rows row) upper some few above a;
              below = averages s.now g ks (shifted (down / 4 + 1) g.rows row) lower some few below b;
            }

        module _ (masks : List ℕ) (is : masks
            ≡ painted_from (blends_at upper lower (weights_of (down % 4) (right % 4)) (right / 4)) (right / 4) g.columns upper) where
          blend-at : (c : ℕ) → c < g.columns
              → (get_or masks (right / 4 + c) 0 ≡ blends_at upper lower (weights_of (down % 4) (right % 4)) (right / 4) c)
              × ((right / 4 + c < length masks) × (get_or masks (right / 4 + c) 0 ≤ 2 ^ g.stored - 1))
          blend-at c l = blends-row g (right / 4) (weights_of (down % 4) (right % 4)) upper lower masks line-blends is c l

          pub line-masks : (room : g.columns ≤ length line) → Subtracts r.now g (right / 4) masks line
          line-masks
              room = record { row = line_row; most = omega (arith, div-add-mod' right 4); masked = λ c l. (blend-at c l).1; room = room }

          pub quarter-by-table : Filled (shade_at t.window g.stored t.inverse) (2 ^ (g.stored + 1) - 1) table
              → painted (λ c. get_or table (mask_place g r.now masks (right / 4) c) 0) g.columns line
              ≡ painted (λ c. quarter_shade (shades_of t g.stored) g s.now f ks down right (row * g.columns + c)) g.columns line
          quarter-by-table h =
              painted_same _ _ g.columns line (λ c l.
              blend-offset s.now r.now g f ks upper lower masks down right row most a b table c l (line-cell c l) (blend-at c l).0
              ∙ quarter-at h (row * g.columns + c))

          pub quarter-by-window : painted (λ c. shade_at t.window g.stored t.inverse (mask_place g r.now masks (right / 4) c))
              g.columns line
              ≡ painted (λ c. quarter_shade (shades_of t g.stored) g s.now f ks down right (row * g.columns + c)) g.columns line
          quarter-by-window =
              painted_same _ _ g.columns line (λ c l.
              by-window masks (right / 4) c
              ∙ blend-offset s.now r.now g f ks upper lower masks down right row most a b (shades_of t g.stored) c l (line-cell c l)
              (blend-at c l).0)
