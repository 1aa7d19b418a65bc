-- Invariant: c levels are drawn. An average of samples is no larger than a sample can be, so that the place in the table is not
-- below 0, and it stays below 2 × 2^stored.
use mathlib.Core.Path.{refl, ap, ◌∙◌}
use Prim.Native.Nat.{ℕ, ◌+◌, ◌-◌, ◌*◌, ◌^◌}
use native.Mathlib.Nat.{div-le_self}
use native.Mathlib.Omega.{arith}
use lib.ListN.{length}
use lib.Pow.{pow_pos}
use Rattle.pixel.specs.Internal.{painted}
use Rattle.pixel.proofs.Division.{average-most}
use Rattle.pixel.proofs.Laws.{full, power-most, row_at, sum_fits, row-shade, painted-more, painted-length}
use Rattle.pixel.proofs.draw_row.Goals as goal

pub power-low-requires : goal.power-low-requires
power-low-requires c =
    c.requires.row.shape.stored-most

pub overflow_sub-low : goal.overflow_sub-low
overflow_sub-low c =
    omega (arith, c.power-low.ensures, pow_pos c.args.g.stored)

pub overflow_mul-factor : goal.overflow_mul-factor
overflow_mul-factor c =
    omega (arith, c.requires.few)

pub overflow_add-factor : goal.overflow_add-factor
overflow_add-factor c =
    omega (arith, div-le_self 4294967296 (2 * c.args.n))

pub loop-c-init : goal.loop-c-init
unfolding painted
loop-c-init c =
    (omega arith, refl)

pub overflow_add-c : goal.overflow_add-c
overflow_add-c c =
    omega (arith, c.requires.row.shape.columns-most, c.requires.most, c.loop-c-test.true)

pub offset_bounds-sums-c : goal.offset_bounds-sums-c
offset_bounds-sums-c c =
    omega (arith, c.requires.row.shape.columns-most, c.requires.most, c.loop-c-test.true)

pub bounds-sums-c : goal.bounds-sums-c
bounds-sums-c c =
    (c.requires.summed (c.loop-c.c + c.args.s) (omega (arith, c.requires.most, c.loop-c-test.true))).0

pub average-mask-requires : goal.average-mask-requires
average-mask-requires c = (
  c.requires.some,
  (
    c.requires.few,
    (
      omega (
        arith,
        (c.requires.summed (c.loop-c.c + c.args.s)
            (omega (arith, c.requires.most, c.loop-c-test.true))).1,
        sum_fits c.args.n c.args.g.stored c.requires.few c.requires.row.shape.stored-most,
      ),
      refl,
    ),
  ),
)

pub sample-requires : goal.sample-requires
sample-requires c =
    record {
      width = c.requires.row.shape.width;
      kept = ap (λ (x : ℕ). x - 1) c.power-low.ensures;
      inside = row_at c.args.line.now c.args.g c.requires.row c.loop-c.c c.loop-c-test.true;
    }

pub overflow_add-levels : goal.overflow_add-levels
overflow_add-levels c =
    omega
    (arith, c.sample.ensures.1, power-most c.args.g.stored c.requires.row.shape.stored-most, c.power-low.ensures)

pub overflow_sub-levels : goal.overflow_sub-levels
overflow_sub-levels c =
    omega (
      arith,
      c.average-mask.ensures,
      c.power-low.ensures,
      average-most _ c.args.n
          c.requires.some c.requires.few (2 ^ c.args.g.stored - 1) (
          (c.requires.summed (c.loop-c.c + c.args.s) (omega (arith, c.requires.most, c.loop-c-test.true))).1),
    )

pub bounds-table-sample : goal.bounds-table-sample
bounds-table-sample c =
    omega (
      arith,
      c.sample.ensures.1,
      power-most c.args.g.stored c.requires.row.shape.stored-most,
      c.power-low.ensures,
      c.requires.shades,
    )

pub bounds-levels-c : goal.bounds-levels-c
bounds-levels-c c =
    omega (arith, ap length c.loop-c.invariant.1 ∙ painted-length _ _ _, c.requires.room, c.loop-c-test.true)

pub overflow_step-c : goal.overflow_step-c
overflow_step-c c =
    omega (arith, c.requires.row.shape.columns-most, c.loop-c-test.true)

pub loop-c-smaller : goal.loop-c-smaller
loop-c-smaller c =
    omega (arith, c.loop-c-test.true)

pub loop-c-preserved : goal.loop-c-preserved
loop-c-preserved c = (
  omega (arith, c.loop-c-test.true),
  rw (
    c.loop-c.invariant.1,
    row-shade c.args.g c.args.line.now c.args.table.now c.args.sums.now
        c.args.n c.args.s c.loop-c.c c.sample.result c.power-low.result
        c.average-mask.result c.sample.ensures.0 c.power-low.ensures
        (c.average-mask.ensures),
  )
      (painted-more _ _ _),
)

pub shape_of-levels : goal.shape_of-levels
shape_of-levels c =
    ap length c.loop-c.invariant.1 ∙ painted-length _ _ _

pub returns : goal.returns
returns c =
    rw (full c.loop-c.invariant.0 c.loop-c-test.false) at c.loop-c.invariant.1
