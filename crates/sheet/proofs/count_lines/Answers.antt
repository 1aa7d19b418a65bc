-- Lines follow one another in the picture, so r lines counted are its first r · columns cells counted; each line leaves what the next one
-- takes by the same way.
use lib.ListN.{length}
use Rattle.value.specs.Number.{us_values}
use Rattle.pixel.proofs.Laws.{full}
use Rattle.lines.specs.Internal.{shades_of, way_shade}
use Rattle.lines.proofs.Lists.{up_to-length, line-length, line-list}
use Rattle.sheet.proofs.Runs as runs
use mathlib.Core.Path.{refl, sym, ap, ◌∙◌}
use native.Mathlib.Omega.{arith}
use Rattle.sheet.proofs.count_lines.Goals as goal

pub loop-row-init : goal.loop-row-init
loop-row-init c = (
  omega arith,
  (
    refl,
    (
      refl,
      (
        c.requires.1.0,
        ((
          refl,
          runs.no_line (way_shade c.args.way (shades_of c.args.shades c.args.g.stored) c.args.g
              c.args.pixels.now
              c.args.frame (us_values c.args.masks.now)) c.args.g.columns
              c.args.counts,
        )),
      ),
    ),
  ),
)

pub draw_line-requires : goal.draw_line-requires
draw_line-requires c = (
  record {
    shape = c.requires.0.shape;
    inside = c.requires.0.inside;
    lies = c.loop-row-test.true;
    room = omega (arith, c.loop-row.invariant.1.1.1.1.0, c.requires.0.wide, c.requires.0.shape.columns-most);
  },
  (
    c.requires.0.shaded,
    c.loop-row.invariant.1.1.1.0,
  ),
)

pub slice_bounds-tally-end : goal.slice_bounds-tally-end
slice_bounds-tally-end c =
    omega (
      arith,
      line-length _ _ _ c.draw_line.ensures.levels_after,
      c.loop-row.invariant.1.1.1.1.0,
      c.requires.0.wide,
      c.requires.0.shape.columns-most,
    )

pub slice_bounds-tally-end-in-loop-row : goal.slice_bounds-tally-end-in-loop-row
slice_bounds-tally-end-in-loop-row c =
    sym (ap length (line-list _ _ _ c.draw_line.ensures.levels_after
    (omega (arith, c.loop-row.invariant.1.1.1.1.0, c.requires.0.wide, c.requires.0.shape.columns-most))) ∙ up_to-length _ _)

pub tally-next-requires : goal.tally-next-requires
tally-next-requires c =
    runs.line-room (way_shade c.args.way (shades_of c.args.shades c.args.g.stored) c.args.g
    c.args.pixels.now
    c.args.frame (us_values c.args.masks.now)) c.loop-row.row
    c.args.g.rows c.args.g.columns _ c.args.counts c.loop-row.sofar c.loop-row.invariant.1.1.1.1.1
    c.requires.1.1 c.loop-row-test.true
    (ap length (line-list _ _ _ c.draw_line.ensures.levels_after
    (omega (arith, c.loop-row.invariant.1.1.1.1.0, c.requires.0.wide, c.requires.0.shape.columns-most))) ∙ up_to-length _ _)

pub overflow_step-row : goal.overflow_step-row
overflow_step-row c =
    omega (arith, c.loop-row-test.true, c.requires.0.shape.rows-most)

pub loop-row-preserved : goal.loop-row-preserved
loop-row-preserved c = (
  omega (arith, c.loop-row-test.true),
  (
    c.upper-1.given ∙ c.loop-row.invariant.1.0,
    (
      c.lower-1.given ∙ c.loop-row.invariant.1.1.0,
      (
        c.draw_line.ensures.way_ready,
        ((
          line-length _ _ _ c.draw_line.ensures.levels_after ∙ c.loop-row.invariant.1.1.1.1.0,
          runs.line-more
              (way_shade c.args.way (shades_of c.args.shades c.args.g.stored) c.args.g
              c.args.pixels.now
              c.args.frame (us_values c.args.masks.now)) c.loop-row.row
              c.args.g.columns c.args.counts c.loop-row.sofar _ _ c.loop-row.invariant.1.1.1.1.1
              (line-list _ _ _ c.draw_line.ensures.levels_after
              (omega (arith, c.loop-row.invariant.1.1.1.1.0, c.requires.0.wide, c.requires.0.shape.columns-most)))
              c.tally-next.ensures,
        )),
      ),
    ),
  ),
)

pub shape_of-upper : goal.shape_of-upper
shape_of-upper c =
    c.loop-row.invariant.1.0

pub shape_of-lower : goal.shape_of-lower
shape_of-lower c =
    c.loop-row.invariant.1.1.0

pub shape_of-line : goal.shape_of-line
shape_of-line c =
    c.loop-row.invariant.1.1.1.1.0

pub returns : goal.returns
returns c =
    rw (full c.loop-row.invariant.0 c.loop-row-test.false) at c.loop-row.invariant.1.1.1.1.1
