-- The upper row is a copy of the row that the line before took as its lower one; the two are blended and taken off.
use mathlib.Core.Path.{◌∙◌}
use Prim.Native.Nat.{◌/◌}
use native.Mathlib.Nat.{div-add-mod'}
use native.Mathlib.Omega.{arith}
use Rattle.value.specs.Number.{us_values}
use Rattle.pixel.specs.Internal.{shifted}
use Rattle.pixel.proofs.Laws.{painted-length}
use Rattle.pixel.proofs.Places.{fourths}
use Rattle.pixel.proofs.Blend.{averaged-copy, next_row_lem}
use Rattle.lines.proofs.Laws as laws
use Rattle.lines.proofs.quarter_line.Goals as goal

pub overflow_cast-down : goal.overflow_cast-down
overflow_cast-down c =
    omega (arith, fourths c.args.down)

pub overflow_cast-right : goal.overflow_cast-right
overflow_cast-right c =
    omega (arith, fourths c.args.right)

pub weights-w-requires : goal.weights-w-requires
weights-w-requires c =
    (fourths c.args.down, fourths c.args.right)

pub frame_line-line-requires : goal.frame_line-line-requires
frame_line-line-requires c = (
  laws.fits c.args.g c.args.pixels c.args.frame c.args.row c.requires.0.shape
      c.requires.0.inside,
  c.requires.0.lies,
)

pub overflow_add-columns : goal.overflow_add-columns
overflow_add-columns c =
    omega (arith, c.requires.0.shape.columns-most)

pub copy-requires : goal.copy-requires
copy-requires c = (
  omega (arith, c.requires.0.shape.columns-most, c.requires.1.1.below),
  omega (arith, c.requires.0.shape.columns-most, c.requires.1.1.above),
)

pub overflow_add-down : goal.overflow_add-down
overflow_add-down c =
    omega (arith, c.requires.1.1.masked.down-most, div-add-mod' c.args.down 4)

pub moved-requires : goal.moved-requires
moved-requires c = (
  c.requires.0.lies,
  (
    c.requires.0.shape.rows-most,
    omega (
      arith,
      c.requires.1.1.masked.down-most,
      div-add-mod' c.args.down 4,
    ),
  ),
)

pub average_row-requires : goal.average_row-requires
average_row-requires c = (
  c.requires.0.shape,
  (
    c.requires.1.1.masked.taken,
    (c.moved.ensures.1, omega (arith, c.requires.1.1.below, c.requires.0.shape.columns-most)),
  ),
)

pub blend_all-requires : goal.blend_all-requires
blend_all-requires c =
    rw (c.weights-w.ensures, c.copy.ensures) (laws.line-blends c.args.g c.requires.0.shape
    c.args.pixels c.args.frame c.args.row _ c.frame_line-line.ensures c.args.shades
    c.args.table.now c.args.levels.now (us_values c.args.masks.now) c.args.down c.args.right
    c.requires.1.1.masked.right-most _ _ (averaged-copy c.args.pixels.now c.args.g (us_values
    c.args.masks.now)
    (shifted (c.args.down / 4) c.args.g.rows c.args.row) c.args.lower.now c.args.upper.now
    (omega (arith, c.requires.0.shape.columns-most, c.requires.1.1.above)) c.requires.1.1.averaged)
    (rw c.moved.ensures.0 at c.average_row.ensures) c.requires.1.1.masked.taken.some
    c.requires.1.1.masked.taken.few
    (rw (painted-length _ _ _) (omega (arith, c.requires.0.shape.columns-most, c.requires.1.1.above)))
    (omega (arith, c.requires.1.1.below, c.requires.0.shape.columns-most)))

pub masked_row-requires : goal.masked_row-requires
masked_row-requires c = (
  laws.line-masks c.args.g c.requires.0.shape c.args.pixels c.args.frame c.args.row _
      c.frame_line-line.ensures c.args.shades c.args.table.now c.args.levels.now
      (us_values c.args.masks.now) c.args.down c.args.right c.requires.1.1.masked.right-most _ _
      (averaged-copy c.args.pixels.now c.args.g (us_values c.args.masks.now)
      (shifted (c.args.down / 4) c.args.g.rows c.args.row) c.args.lower.now c.args.upper.now
      (omega (arith, c.requires.0.shape.columns-most, c.requires.1.1.above)) c.requires.1.1.averaged)
      (rw c.moved.ensures.0 at c.average_row.ensures) c.requires.1.1.masked.taken.some
      c.requires.1.1.masked.taken.few
      (rw (painted-length _ _ _) (omega (arith, c.requires.0.shape.columns-most, c.requires.1.1.above)))
      (omega (arith, c.requires.1.1.below, c.requires.0.shape.columns-most)) _
      (rw (c.weights-w.ensures, c.copy.ensures) at c.blend_all.ensures) c.requires.0.room,
  omega (arith, (c.requires.1.0.shades c.if-shades.true).size),
)

pub masked_by_window-requires : goal.masked_by_window-requires
masked_by_window-requires c = (
  laws.line-masks c.args.g c.requires.0.shape c.args.pixels c.args.frame c.args.row _
      c.frame_line-line.ensures c.args.shades c.args.table.now c.args.levels.now
      (us_values c.args.masks.now) c.args.down c.args.right c.requires.1.1.masked.right-most _ _
      (averaged-copy c.args.pixels.now c.args.g (us_values c.args.masks.now)
      (shifted (c.args.down / 4) c.args.g.rows c.args.row) c.args.lower.now c.args.upper.now
      (omega (arith, c.requires.0.shape.columns-most, c.requires.1.1.above)) c.requires.1.1.averaged)
      (rw c.moved.ensures.0 at c.average_row.ensures) c.requires.1.1.masked.taken.some
      c.requires.1.1.masked.taken.few
      (rw (painted-length _ _ _) (omega (arith, c.requires.0.shape.columns-most, c.requires.1.1.above)))
      (omega (arith, c.requires.1.1.below, c.requires.0.shape.columns-most)) _
      (rw (c.weights-w.ensures, c.copy.ensures) at c.blend_all.ensures) c.requires.0.room,
  c.requires.1.0.drawable,
)

pub returns-then-shades : goal.returns-then-shades
returns-then-shades c =
    record {
      levels_after = c.masked_row.ensures ∙ laws.quarter-by-table c.args.g c.requires.0.shape c.args.pixels
          c.args.frame c.args.row _ c.frame_line-line.ensures c.args.shades c.args.table.now
          c.args.levels.now (us_values c.args.masks.now) c.args.down c.args.right
          c.requires.1.1.masked.right-most _ _ (averaged-copy c.args.pixels.now c.args.g (us_values
          c.args.masks.now)
          (shifted (c.args.down / 4) c.args.g.rows c.args.row) c.args.lower.now c.args.upper.now
          (omega (arith, c.requires.0.shape.columns-most, c.requires.1.1.above)) c.requires.1.1.averaged)
          (rw c.moved.ensures.0 at c.average_row.ensures) c.requires.1.1.masked.taken.some
          c.requires.1.1.masked.taken.few
          (rw (painted-length _ _ _) (omega (arith, c.requires.0.shape.columns-most, c.requires.1.1.above)))
          (omega (arith, c.requires.1.1.below, c.requires.0.shape.columns-most)) _
          (rw (c.weights-w.ensures, c.copy.ensures) at c.blend_all.ensures)
          (c.requires.1.0.shades c.if-shades.true);
      averaged = next_row_lem c.args.pixels.now c.args.g
          (us_values c.args.masks.now) (c.args.down / 4) c.args.row _
          (rw c.moved.ensures.0 at c.average_row.ensures);
    }

pub returns-else-shades : goal.returns-else-shades
returns-else-shades c =
    record {
      levels_after = c.masked_by_window.ensures ∙ laws.quarter-by-window c.args.g c.requires.0.shape c.args.pixels
          c.args.frame c.args.row _ c.frame_line-line.ensures c.args.shades c.args.table.now
          c.args.levels.now (us_values c.args.masks.now) c.args.down c.args.right
          c.requires.1.1.masked.right-most _ _ (averaged-copy c.args.pixels.now c.args.g (us_values
          c.args.masks.now)
          (shifted (c.args.down / 4) c.args.g.rows c.args.row) c.args.lower.now c.args.upper.now
          (omega (arith, c.requires.0.shape.columns-most, c.requires.1.1.above)) c.requires.1.1.averaged)
          (rw c.moved.ensures.0 at c.average_row.ensures) c.requires.1.1.masked.taken.some
          c.requires.1.1.masked.taken.few
          (rw (painted-length _ _ _) (omega (arith, c.requires.0.shape.columns-most, c.requires.1.1.above)))
          (omega (arith, c.requires.1.1.below, c.requires.0.shape.columns-most)) _
          (rw (c.weights-w.ensures, c.copy.ensures) at c.blend_all.ensures);
      averaged = next_row_lem
          c.args.pixels.now c.args.g (us_values c.args.masks.now) (c.args.down / 4) c.args.row _
          (rw c.moved.ensures.0 at c.average_row.ensures);
    }
