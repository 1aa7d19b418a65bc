-- Dropping a last byte b changes nothing, and once the last byte is another there is nothing to drop.
use Rattle.std.proofs.Common.{sym, ◌∙◌, arith}
use borrow.Author.Tests.{ltb-true}
use Rattle.value.proofs.Trimming as trimming
use Rattle.value.proofs.trim_end.Goals as goal

pub loop-left-preserved : goal.loop-left-preserved
loop-left-preserved c =
    let left = c.loop-left.left.now in
    sym (trimming.end-same c.args.b left c.in-len1-up.len_at_least c.if-last-b.true) ∙ c.loop-left.invariant

pub returns-then-left-lt1 : goal.returns-then-left-lt1
returns-then-left-lt1 c = sym (trimming.end-none _ _ (omega (arith, ltb-true))) ∙ c.loop-left.invariant

pub returns-else-last-b : goal.returns-else-last-b
returns-else-last-b c = sym (trimming.end-other _ _ c.in-len1-up.len_at_least c.if-last-b.false) ∙ c.loop-left.invariant
