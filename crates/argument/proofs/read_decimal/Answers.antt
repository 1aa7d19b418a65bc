-- A byte that makes the number end decides the answer, whatever follows it.
use Rattle.std.proofs.Common.{rules, ◌∙◌}
use Rattle.argument.proofs.Digits.{ends}
use Rattle.argument.proofs.read_decimal.Goals as goal

pub returns-in_err-n : goal.returns-in_err-n
returns-in_err-n c =
    (search rules) ∙ ends c.args.text.now c.loop-c.c-index c.loop-c.n c.in_err-n.field-0.0 _ c.loop-c-test.true c.in_err-n.ensures c.loop-c.invariant.1
