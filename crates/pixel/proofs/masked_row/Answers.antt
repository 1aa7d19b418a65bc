-- Invariant: c levels are drawn. A mask value is no larger than a sample can be, so that the place in the table is not below 0.
use mathlib.Core.Path.{refl, ap, ◌∙◌}
use Prim.Native.Nat.{ℕ, ◌-◌}
use native.Mathlib.Omega.{arith}
use lib.ListN.{length, get_or}
use lib.Pow.{pow_pos}
use Rattle.pixel.specs.Internal.{painted, mask_place}
use Rattle.pixel.proofs.Laws.{full, power-most, row_at, mask-place, painted-more, painted-length}
use Rattle.pixel.proofs.masked_row.Goals as goal

pub power-low-requires : goal.power-low-requires
power-low-requires c =
    c.requires.0.row.shape.stored-most

pub overflow_sub-low : goal.overflow_sub-low
overflow_sub-low c =
    omega (arith, c.power-low.ensures, pow_pos c.args.g.stored)

pub loop-c-init : goal.loop-c-init
unfolding painted
loop-c-init c =
    (omega arith, refl)

pub sample-requires : goal.sample-requires
sample-requires c =
    record {
      width = c.requires.0.row.shape.width;
      kept = ap (λ (x : ℕ). x - 1) c.power-low.ensures;
      inside = row_at c.args.line.now c.args.g c.requires.0.row c.loop-c.c c.loop-c-test.true;
    }

pub overflow_add-levels : goal.overflow_add-levels
overflow_add-levels c =
    omega (
      arith,
      c.sample.ensures.1,
      power-most c.args.g.stored c.requires.0.row.shape.stored-most,
      c.power-low.ensures,
    )

pub offset_bounds-masks-s : goal.offset_bounds-masks-s
offset_bounds-masks-s c =
    omega (arith, c.requires.0.row.shape.columns-most, c.requires.0.most, c.loop-c-test.true)

pub bounds-masks-s : goal.bounds-masks-s
bounds-masks-s c =
    (c.requires.0.masked c.loop-c.c c.loop-c-test.true).0

pub overflow_sub-levels : goal.overflow_sub-levels
overflow_sub-levels c =
    omega (arith, c.power-low.ensures, (c.requires.0.masked c.loop-c.c c.loop-c-test.true).1)

pub bounds-table-sample : goal.bounds-table-sample
bounds-table-sample c =
    omega (
      arith,
      c.sample.ensures.1,
      power-most c.args.g.stored c.requires.0.row.shape.stored-most,
      c.power-low.ensures,
      c.requires.1,
    )

pub bounds-levels-c : goal.bounds-levels-c
bounds-levels-c c =
    omega (arith, ap length c.loop-c.invariant.1 ∙ painted-length _ _ _, c.requires.0.room, c.loop-c-test.true)

pub overflow_step-c : goal.overflow_step-c
overflow_step-c c =
    omega (arith, c.requires.0.row.shape.columns-most, c.loop-c-test.true)

pub loop-c-smaller : goal.loop-c-smaller
loop-c-smaller c =
    omega (arith, c.loop-c-test.true)

pub loop-c-preserved : goal.loop-c-preserved
loop-c-preserved c = (
  omega (arith, c.loop-c-test.true),
  rw (
    c.loop-c.invariant.1,
    mask-place c.args.g c.args.line.now c.args.masks.now c.args.s
        c.loop-c.c _ _ _ c.sample.ensures.0 c.power-low.ensures refl,
  )
      (painted-more (λ j.
      get_or c.args.table.now (mask_place c.args.g c.args.line.now c.args.masks.now c.args.s j)
      0)
      _ _),
)

pub shape_of-levels : goal.shape_of-levels
shape_of-levels c =
    ap length c.loop-c.invariant.1 ∙ painted-length _ _ _

pub returns : goal.returns
returns c =
    rw (full c.loop-c.invariant.0 c.loop-c-test.false) at c.loop-c.invariant.1
