-- Two levels are too far apart just where one of them is above the other and the tolerance together.
use Rattle.differences.proofs.Places as places
use native.Mathlib.Omega.{arith}
use mathlib.Core.Path.{◌∙◌}
use borrow.Author.Tests.{lt-ltb}
use Rattle.differences.proofs.is_off.Goals as goal

pub returns-then-theirs-tolerance : goal.returns-then-theirs-tolerance
returns-then-theirs-tolerance c =
    lt-ltb _ _ c.if-theirs-tolerance.true ∙ places.off-above c.args.tolerance c.args.ours c.args.theirs (omega (arith, c.if-theirs-tolerance.true))

pub returns-else-theirs-tolerance : goal.returns-else-theirs-tolerance
returns-else-theirs-tolerance c =
    places.off-below c.args.tolerance c.args.ours c.args.theirs (omega (arith, c.if-theirs-tolerance.false))
