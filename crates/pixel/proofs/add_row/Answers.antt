-- Invariant: to the first c sums their samples are added, the others are untouched.
use Rattle.pixel.proofs.Laws.{added_more, full, power-most, run_at, width_some, painted-length, painted-beyond}
use mathlib.Core.Path.{refl, ap, ◌∙◌}
use mathlib.Core.List.{List}
use Prim.Native.Nat.{ℕ, ◌+◌, ◌-◌}
use native.Mathlib.Omega.{arith}
use lib.ListN.{length, get_or}
use lib.Pow.{pow_pos}
use Rattle.pixel.specs.Internal.{painted}
use Rattle.pixel.specs.Pixel.{cell_at}
use Rattle.pixel.proofs.add_row.Goals as goal

pub power-low-requires : goal.power-low-requires
power-low-requires c =
    c.requires.0.shape.stored-most

pub overflow_sub-low : goal.overflow_sub-low
overflow_sub-low c =
    omega (arith, c.power-low.ensures, pow_pos c.args.g.stored)

pub loop-c-init : goal.loop-c-init
unfolding painted
loop-c-init c =
    (omega arith, refl)

pub overflow_add-from : goal.overflow_add-from
overflow_add-from c =
    omega (
      arith,
      (run_at c.args.from c.args.g.columns c.args.g.width (length c.args.pixels.now)
          c.loop-c.c (width_some _ c.requires.0.shape.width) c.requires.0.inside c.loop-c-test.true).1,
    )

pub sample-requires : goal.sample-requires
sample-requires c =
    record {
      width = c.requires.0.shape.width;
      kept = ap (λ (x : ℕ). x - 1) c.power-low.ensures;
      inside = (run_at c.args.from c.args.g.columns c.args.g.width (length c.args.pixels.now)
          c.loop-c.c (width_some _ c.requires.0.shape.width) c.requires.0.inside c.loop-c-test.true).0;
    }

pub overflow_cast-sums : goal.overflow_cast-sums
overflow_cast-sums c =
    omega (arith, c.sample.ensures.1, power-most c.args.g.stored c.requires.0.shape.stored-most, c.power-low.ensures)

pub bounds-sums-c : goal.bounds-sums-c
bounds-sums-c c =
    omega (
      arith,
      ap length c.loop-c.invariant.1 ∙ painted-length _ _ _,
      (c.requires.1 c.loop-c.c c.loop-c-test.true).0,
    )

pub overflow_add-sums : goal.overflow_add-sums
overflow_add-sums c =
    omega (
      arith,
      ap (λ (s : List ℕ). get_or s c.loop-c.c 0) c.loop-c.invariant.1 ∙ painted-beyond _ _ _ _ (omega arith),
      (c.requires.1 c.loop-c.c c.loop-c-test.true).1,
      c.sample.ensures.1,
      power-most c.args.g.stored c.requires.0.shape.stored-most,
      c.power-low.ensures,
    )

pub bounds-sums-c-in-loop-c : goal.bounds-sums-c-in-loop-c
bounds-sums-c-in-loop-c c =
    omega (
      arith,
      ap length c.loop-c.invariant.1 ∙ painted-length _ _ _,
      (c.requires.1 c.loop-c.c c.loop-c-test.true).0,
    )

pub loop-c-preserved : goal.loop-c-preserved
loop-c-preserved c = (
  omega arith,
  rw (c.loop-c.invariant.1, c.sample.ensures.0) (added_more (λ c'.
      cell_at c.args.g
      c.args.pixels.now
      (c.args.from + c')) c.loop-c.c
      c.args.sums.now),
)

pub shape_of-sums : goal.shape_of-sums
shape_of-sums c =
    ap length c.loop-c.invariant.1 ∙ painted-length _ _ _

pub returns : goal.returns
returns c =
    rw (full c.loop-c.invariant.0 c.loop-c-test.false) at c.loop-c.invariant.1
