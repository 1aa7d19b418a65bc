-- Lines follow one another in the picture, and each leaves what the next one takes by the same way.
use lib.ListN.{length, length-take, length-drop}
use mathlib.Core.Path.{refl, sym, ap, ◌∙◌}
use native.Mathlib.Omega.{arith}
use Rattle.value.specs.Number.{us_values}
use Rattle.pixel.proofs.Laws.{full, row-end, painted-none, painted-length}
use Rattle.lines.specs.Internal.{shades_of, way_shade}
use Rattle.painting.proofs.Laws.{next-line}
use Rattle.painting.proofs.paint_lines.Goals as goal

pub loop-row-init : goal.loop-row-init
loop-row-init c =
    (omega arith, (refl, (refl, (c.requires.1.1, sym (painted-none _ _ _)))))

pub overflow_mul-at : goal.overflow_mul-at
overflow_mul-at c =
    omega (
      arith,
      row-end c.args.g c.loop-row.row c.loop-row-test.true,
      c.requires.0.room,
    )

pub slice_bounds-draw_line-count : goal.slice_bounds-draw_line-count
slice_bounds-draw_line-count c =
    omega (
      arith,
      row-end c.args.g c.loop-row.row c.loop-row-test.true,
      c.requires.0.room,
      ap length c.loop-row.invariant.1.1.1.1 ∙ painted-length _ _ _,
    )

pub slice_bounds-draw_line-start : goal.slice_bounds-draw_line-start
slice_bounds-draw_line-start c =
    omega (
      arith,
      row-end c.args.g c.loop-row.row c.loop-row-test.true,
      c.requires.0.room,
      ap length c.loop-row.invariant.1.1.1.1 ∙ painted-length _ _ _,
    )

pub slice_bounds-draw_line-end : goal.slice_bounds-draw_line-end
slice_bounds-draw_line-end c =
    omega (
      arith,
      row-end c.args.g c.loop-row.row c.loop-row-test.true,
      c.requires.0.room,
      ap length c.loop-row.invariant.1.1.1.1 ∙ painted-length _ _ _,
    )

pub draw_line-requires : goal.draw_line-requires
draw_line-requires c = (
  record {
    shape = c.requires.0.shape;
    inside = c.requires.0.inside;
    lies = c.loop-row-test.true;
    room = simp (length-take, length-drop) (omega (
      arith,
      row-end c.args.g c.loop-row.row c.loop-row-test.true,
      c.requires.0.room,
      ap length c.loop-row.invariant.1.1.1.1 ∙ painted-length _ _ _,
    ));
  },
  (
    c.requires.1.0,
    c.loop-row.invariant.1.1.1.0,
  ),
)

pub overflow_step-row : goal.overflow_step-row
overflow_step-row c =
    omega (arith, c.loop-row-test.true, c.requires.0.shape.rows-most)

pub loop-row-smaller : goal.loop-row-smaller
loop-row-smaller c =
    omega (arith, c.loop-row-test.true)

pub loop-row-preserved : goal.loop-row-preserved
loop-row-preserved c = (
  omega (arith, c.loop-row-test.true),
  (
    c.draw_line.auto.upper ∙ c.loop-row.invariant.1.0,
    (
      c.draw_line.auto.lower ∙ c.loop-row.invariant.1.1.0,
      (
        c.draw_line.ensures.way_ready,
        next-line
            (way_shade c.args.way (shades_of c.args.shades c.args.g.stored) c.args.g
            c.args.pixels.now c.args.frame (us_values c.args.masks.now)) c.loop-row.row
            c.args.g.columns c.args.image.now c.loop-row.image
            c.draw_line.new.levels
            (omega (arith, row-end c.args.g c.loop-row.row c.loop-row-test.true, c.requires.0.room))
            c.loop-row.invariant.1.1.1.1 c.draw_line.ensures.levels_after,
      ),
    ),
  ),
)

pub shape_of-upper : goal.shape_of-upper
shape_of-upper c =
    c.loop-row.invariant.1.0

pub shape_of-lower : goal.shape_of-lower
shape_of-lower c =
    c.loop-row.invariant.1.1.0

pub shape_of-image : goal.shape_of-image
shape_of-image c =
    ap length c.loop-row.invariant.1.1.1.1 ∙ painted-length _ _ _

pub returns : goal.returns
returns c =
    rw (full c.loop-row.invariant.0 c.loop-row-test.false) at c.loop-row.invariant.1.1.1.1
