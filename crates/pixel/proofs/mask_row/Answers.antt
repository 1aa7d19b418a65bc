-- The row's sums lie behind the left edge, and the edges are put beside them (`Laws`).
use native.Mathlib.Omega.{arith}
use lib.ListN.{length-drop, length-take}
use Rattle.value.specs.Number.{us_values}
use Rattle.pixel.proofs.Laws.{spread_row}
use Rattle.pixel.proofs.mask_row.Goals as goal

pub sum_row-requires : goal.sum_row-requires
sum_row-requires c =
    (c.requires.0, (c.requires.1.0, (c.requires.1.1.0, simp (length-take, length-drop) (omega (arith, c.requires.1.1.1)))))

pub returns : goal.returns
returns c =
    spread_row c.args.pixels.now c.args.g (us_values c.args.masks.now) c.args.row
    c.sum_row.new.sums c.args.sums.now _ _ c.requires.0.columns-some
    (omega (arith, simp (length-take, length-drop) at c.sum_row.auto.sums, c.requires.1.1.1))
    (omega (arith, c.requires.1.1.1)) c.sum_row.ensures c.spread.ensures
