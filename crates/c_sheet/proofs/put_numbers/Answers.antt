-- Each turn puts one number, and all behind it stays as it was.
use lib.ListN.{length, get_or}
use Rattle.pixel.specs.Internal.{painted}
use Rattle.pixel.proofs.Laws.{full, painted-more, painted-length}
use Rattle.sheet.specs.Sheet.{numbers_in}
use mathlib.Core.Path.{refl, ap, ◌∙◌}
use native.Mathlib.Omega.{arith}
use Rattle.c_sheet.proofs.put_numbers.Goals as goal

pub loop-k-init : goal.loop-k-init
unfolding painted
loop-k-init c =
    (omega arith, refl)

pub offset_bounds-buffer-k : goal.offset_bounds-buffer-k
offset_bounds-buffer-k c =
    omega (arith, c.loop-k-test.true)

pub bounds-buffer-k : goal.bounds-buffer-k
bounds-buffer-k c =
    omega (arith, ap length c.loop-k.invariant.1 ∙ painted-length _ _ _, c.requires, c.loop-k-test.true)

pub overflow_step-k : goal.overflow_step-k
overflow_step-k c =
    omega (arith, c.loop-k-test.true)

pub loop-k-smaller : goal.loop-k-smaller
loop-k-smaller c =
    omega (arith, c.loop-k-test.true)

pub loop-k-preserved : goal.loop-k-preserved
loop-k-preserved c = (
  omega (arith, c.loop-k-test.true),
  rw (c.loop-k.invariant.1, c.number_at.ensures) (painted-more (λ i. get_or (numbers_in c.args.t) i 0) _ _),
)

pub shape_of-buffer : goal.shape_of-buffer
shape_of-buffer c =
    ap length c.loop-k.invariant.1 ∙ painted-length _ _ _

pub returns : goal.returns
returns c =
    rw (full c.loop-k.invariant.0 c.loop-k-test.false) at c.loop-k.invariant.1
