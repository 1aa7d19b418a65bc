-- The sums are those of the moved mask row, so each cell takes off the average that the step takes.
use mathlib.Core.Path.{sym, ◌∙◌}
use native.Mathlib.Nat.{div-add-mod'}
use native.Mathlib.Omega.{arith}
use Rattle.value.specs.Number.{us_values}
use Rattle.value.proofs.Laws.{us_values-length}
use Rattle.pixel.proofs.Laws.{spread-most}
use Rattle.lines.proofs.Laws as laws
use Rattle.lines.proofs.whole_line.Goals as goal

pub frame_line-line-requires : goal.frame_line-line-requires
frame_line-line-requires c = (
  laws.fits c.args.g c.args.pixels c.args.frame c.args.row c.requires.0.shape
      c.requires.0.inside,
  c.requires.0.lies,
)

pub moved-requires : goal.moved-requires
moved-requires c = (
  c.requires.0.lies,
  (
    c.requires.0.shape.rows-most,
    omega (
      arith,
      c.requires.1.1.masked.down-most,
      div-add-mod'
          c.args.down 4,
    ),
  ),
)

pub mask_row-requires : goal.mask_row-requires
mask_row-requires c = (
  c.requires.0.shape,
  (
    c.requires.1.1.masked.taken,
    (c.moved.ensures.1, omega (arith, c.requires.1.1.room, c.requires.0.shape.columns-most)),
  ),
)

pub draw_row-requires : goal.draw_row-requires
draw_row-requires c =
    record {
      row = laws.line_row c.args.g c.requires.0.shape c.args.pixels c.args.frame c.args.row _
          c.frame_line-line.ensures;
      some = omega (arith, us_values-length c.args.masks.now, c.requires.1.1.masked.taken.some);
      few = omega (arith, us_values-length c.args.masks.now, c.requires.1.1.masked.taken.few);
      most = omega (arith, c.requires.1.1.masked.right-most, div-add-mod' c.args.right 4);
      shades = omega (arith, (c.requires.1.0.shades c.requires.1.1.is-filled).size);
      summed = λ k l. (
        omega (arith, c.requires.1.1.room, c.requires.0.shape.columns-most),
        spread-most c.args.pixels.now c.args.g (us_values c.args.masks.now) c.moved.result _ _
            (sym (us_values-length c.args.masks.now)) c.mask_row.ensures k l,
      );
      room = omega (arith, c.requires.0.room);
    }

pub returns : goal.returns
returns c =
    c.draw_row.ensures ∙ laws.whole-by-table c.args.g c.requires.0.shape c.args.pixels
    c.args.frame c.args.row _ c.frame_line-line.ensures c.args.shades c.args.table.now
    c.args.levels.now (us_values c.args.masks.now) c.args.down c.args.right
    c.requires.1.1.masked.right-most (c.requires.1.0.shades c.requires.1.1.is-filled) _ _ c.requires.1.1.down-whole
    c.requires.1.1.right-whole (omega (arith, c.requires.1.1.masked.right-most, div-add-mod' c.args.right 4))
    (sym (us_values-length c.args.masks.now)) (rw (← c.moved.ensures.0) c.mask_row.ensures)
