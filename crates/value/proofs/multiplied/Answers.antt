-- n · 10^(the turns left) stays m · 10^e, and what has reached the limit only grows; below the limit ten times n fits.
use Rattle.std.proofs.Common.{◌-◌, sym, ap, ◌∙◌, arith}
use Rattle.value.specs.Number.{if_small}
use Rattle.value.proofs.Powers as powers
use Rattle.value.proofs.multiplied.Goals as goal

pub returns-then-n-ge-SIZE_LIMIT : goal.returns-then-n-ge-SIZE_LIMIT
returns-then-n-ge-SIZE_LIMIT c =
    let l = c.loop in
    sym (ap if_small (sym l.invariant.0) ∙ powers.too_large_lem l.n (c.args.e - l.counter) c.if-n-ge-SIZE_LIMIT.true)

pub loop-preserved : goal.loop-preserved
loop-preserved c =
    let l = c.loop in
    (powers.grown l.n c.args.e l.counter c.loop-test.true ∙ l.invariant.0, omega (arith, c.if-n-ge-SIZE_LIMIT.false))

pub returns-then-n-lt-SIZE_LIMIT : goal.returns-then-n-lt-SIZE_LIMIT
returns-then-n-lt-SIZE_LIMIT c =
    let l = c.loop in
    sym (ap if_small (sym l.invariant.0 ∙ powers.times-one l.n (c.args.e - l.counter) (omega arith))
    ∙ powers.within-is l.n c.if-n-lt-SIZE_LIMIT.true)

pub returns-else-n-lt-SIZE_LIMIT : goal.returns-else-n-lt-SIZE_LIMIT
returns-else-n-lt-SIZE_LIMIT c =
    let l = c.loop in
    sym (ap if_small (sym l.invariant.0 ∙ powers.times-one l.n (c.args.e - l.counter) (omega arith))
    ∙ powers.within-large l.n c.if-n-lt-SIZE_LIMIT.false)
