-- Invariant: the first j places are copied, the others are untouched.
use mathlib.Core.Path.{refl, ap, ◌∙◌}
use native.Mathlib.Omega.{arith}
use lib.ListN.{length}
use Rattle.pixel.specs.Internal.{painted}
use Rattle.pixel.proofs.Laws.{full, painted-more, painted-length}
use Rattle.pixel.proofs.copy.Goals as goal

pub loop-j-init : goal.loop-j-init
unfolding painted
loop-j-init c =
    (omega arith, refl)

pub bounds-from-j : goal.bounds-from-j
bounds-from-j c =
    omega (arith, c.requires.0)

pub bounds-to-j : goal.bounds-to-j
bounds-to-j c =
    omega (arith, ap length c.loop-j.invariant.1 ∙ painted-length _ _ _, c.requires.1)

pub loop-j-preserved : goal.loop-j-preserved
loop-j-preserved c =
    (omega arith, rw c.loop-j.invariant.1 (painted-more _ _ _))

pub shape_of-to : goal.shape_of-to
shape_of-to c =
    ap length c.loop-j.invariant.1 ∙ painted-length _ _ _

pub returns : goal.returns
returns c =
    rw (full c.loop-j.invariant.0 c.loop-j-test.false) at c.loop-j.invariant.1
