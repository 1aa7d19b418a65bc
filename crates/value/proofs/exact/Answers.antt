-- Zero is zero at any power; else the smaller power cancels out, and one product or one quotient is left.
use mathlib.Core.Path.{sym, ◌∙◌}
use Rattle.value.proofs.Powers as powers
use Rattle.value.proofs.exact.Goals as goal

pub returns-then-m-eq0 : goal.returns-then-m-eq0
returns-then-m-eq0 c =
    sym (powers.exact-zero c.args.m c.args.up c.args.down c.if-m-eq0.true)

pub returns-then-down-up : goal.returns-then-down-up
returns-then-down-up c =
    c.multiplied.ensures ∙ sym (powers.exact-up c.args.m c.args.up c.args.down c.if-down-up.true)

pub returns-else-down-up : goal.returns-else-down-up
returns-else-down-up c =
    c.divided.ensures ∙ sym (powers.exact-down c.args.m c.args.up c.args.down c.if-down-up.false)
