-- Dropping a first byte b changes nothing, and once the first byte is another there is nothing to drop.
use Rattle.std.proofs.Common.{sym, ap, ◌∙◌, arith}
use borrow.Author.Tests.{ltb-true}
use Rattle.basics.proofs.Lists.{to_end}
use Rattle.value.specs.Text.{trim_start}
use Rattle.value.proofs.Trimming as trimming
use Rattle.value.proofs.trim_start.Goals as goal

pub loop-left-preserved : goal.loop-left-preserved
loop-left-preserved c =
    let left = c.loop-left.left.now in
    ap (trim_start c.args.b) (to_end left 1)
    ∙ sym (trimming.start-same c.args.b left c.in-len1-up.len_at_least c.if-first-b.true) ∙ c.loop-left.invariant

pub returns-then-left-lt1 : goal.returns-then-left-lt1
returns-then-left-lt1 c = sym (trimming.start-none _ _ (omega (arith, ltb-true))) ∙ c.loop-left.invariant

pub returns-else-first-b : goal.returns-else-first-b
returns-else-first-b c = sym (trimming.start-other _ _ c.in-len1-up.len_at_least c.if-first-b.false) ∙ c.loop-left.invariant
