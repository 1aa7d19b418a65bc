-- A number is a multiple of 10^(e + 1) just where it is one of 10 and its tenth is one of 10^e.
use Rattle.std.proofs.Common.{◌-◌, sym, ◌∙◌, arith}
use Rattle.value.proofs.Powers as powers
use Rattle.value.proofs.divided.Goals as goal

pub returns-then-n-ne0 : goal.returns-then-n-ne0
returns-then-n-ne0 c =
    let l = c.loop in
    sym (sym l.invariant ∙ powers.no-multiple l.n (c.args.e - l.counter) (omega arith) c.if-n-ne0.true)

pub loop-preserved : goal.loop-preserved
loop-preserved c =
    let l = c.loop in
    sym (powers.shrunk l.n c.args.e l.counter c.loop-test.true c.if-n-ne0.false) ∙ l.invariant

pub returns-then-n-lt-SIZE_LIMIT : goal.returns-then-n-lt-SIZE_LIMIT
returns-then-n-lt-SIZE_LIMIT c =
    let l = c.loop in
    sym (sym l.invariant ∙ powers.over-one l.n (c.args.e - l.counter) (omega arith) ∙ powers.within-is l.n c.if-n-lt-SIZE_LIMIT.true)

pub returns-else-n-lt-SIZE_LIMIT : goal.returns-else-n-lt-SIZE_LIMIT
returns-else-n-lt-SIZE_LIMIT c =
    let l = c.loop in
    sym (sym l.invariant ∙ powers.over-one l.n (c.args.e - l.counter) (omega arith) ∙ powers.within-large l.n c.if-n-lt-SIZE_LIMIT.false)
