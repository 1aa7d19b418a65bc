-- Invariant: k sums from the place on have the value, the others are untouched.
use mathlib.Core.Path.{refl, ap, ◌∙◌}
use native.Mathlib.Omega.{arith}
use lib.ListN.{length}
use Rattle.pixel.specs.Internal.{painted_from}
use Rattle.pixel.proofs.Laws.{full, from_more, from-length}
use Rattle.pixel.proofs.fill.Goals as goal

pub loop-k-init : goal.loop-k-init
unfolding painted_from
loop-k-init c =
    (omega arith, refl)

pub overflow_add-sums : goal.overflow_add-sums
overflow_add-sums c =
    omega (arith, c.requires)

pub bounds-sums-at : goal.bounds-sums-at
bounds-sums-at c =
    omega (arith, ap length c.loop-k.invariant.1 ∙ from-length _ _ _ _)

pub loop-k-preserved : goal.loop-k-preserved
loop-k-preserved c =
    (omega arith, rw c.loop-k.invariant.1 (from_more _ _ _ _))

pub shape_of-sums : goal.shape_of-sums
shape_of-sums c =
    ap length c.loop-k.invariant.1 ∙ from-length _ _ _ _

pub returns : goal.returns
returns c =
    rw (full c.loop-k.invariant.0 c.loop-k-test.false) at c.loop-k.invariant.1
