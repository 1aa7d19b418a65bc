-- Invariant: c levels are drawn.
use mathlib.Core.Path.{refl, ap, ◌∙◌}
use Prim.Native.Nat.{ℕ, ◌-◌}
use native.Mathlib.Omega.{arith}
use lib.ListN.{length, get_or}
use lib.Pow.{pow_pos}
use Rattle.pixel.specs.Internal.{painted, plain_place}
use Rattle.pixel.proofs.Laws.{full, power-most, half-low, row_at, plain-place, painted-more, painted-length}
use Rattle.pixel.proofs.plain_row.Goals as goal

pub power-low-requires : goal.power-low-requires
power-low-requires c =
    c.requires.0.shape.stored-most

pub overflow_sub-low : goal.overflow_sub-low
overflow_sub-low c =
    omega (arith, c.power-low.ensures, pow_pos c.args.g.stored)

pub overflow_sub-g : goal.overflow_sub-g
overflow_sub-g c =
    c.requires.0.shape.stored_some

pub power-requires : goal.power-requires
power-requires c =
    omega (arith, c.requires.0.shape.stored-most)

pub overflow_sub-middle : goal.overflow_sub-middle
overflow_sub-middle c =
    omega (
      arith,
      c.power-low.ensures,
      c.power.ensures,
      half-low c.args.g.stored c.requires.0.shape.stored_some,
    )

pub loop-c-init : goal.loop-c-init
unfolding painted
loop-c-init c =
    (omega arith, refl)

pub sample-requires : goal.sample-requires
sample-requires c =
    record {
      width = c.requires.0.shape.width;
      kept = ap (λ (x : ℕ). x - 1) c.power-low.ensures;
      inside = row_at c.args.line.now c.args.g c.requires.0 c.loop-c.c c.loop-c-test.true;
    }

pub overflow_add-levels : goal.overflow_add-levels
overflow_add-levels c =
    omega (arith, c.sample.ensures.1, power-most c.args.g.stored c.requires.0.shape.stored-most, c.power-low.ensures)

pub bounds-table-sample : goal.bounds-table-sample
bounds-table-sample c =
    omega (
      arith,
      c.sample.ensures.1,
      power-most c.args.g.stored c.requires.0.shape.stored-most,
      c.power-low.ensures,
      c.requires.1.0,
    )

pub bounds-levels-c : goal.bounds-levels-c
bounds-levels-c c =
    omega (arith, ap length c.loop-c.invariant.1 ∙ painted-length _ _ _, c.requires.1.1, c.loop-c-test.true)

pub loop-c-smaller : goal.loop-c-smaller
loop-c-smaller c =
    omega (arith, c.loop-c-test.true)

pub loop-c-preserved : goal.loop-c-preserved
loop-c-preserved c = (
  omega (arith, c.loop-c-test.true),
  rw (
    c.loop-c.invariant.1,
    plain-place c.args.g c.args.line.now c.loop-c.c _ _ _
        c.sample.ensures.0 c.power-low.ensures c.power.ensures,
  )
      (painted-more (λ j. get_or c.args.table.now (plain_place c.args.g c.args.line.now j) 0) _ _),
)

pub shape_of-levels : goal.shape_of-levels
shape_of-levels c =
    ap length c.loop-c.invariant.1 ∙ painted-length _ _ _

pub returns : goal.returns
returns c =
    rw (full c.loop-c.invariant.0 c.loop-c-test.false) at c.loop-c.invariant.1
