-- No digits, nothing after them, an exponent and any other byte are the four cases of the definition.
use mathlib.Core.Path.{sym, ap, ◌∙◌}
use borrow.Author.Tests.{eqb-true, eqb-false}
use Rattle.value.specs.Number.{scaled_by, exponent_of}
use Rattle.value.proofs.Forms as forms
use Rattle.basics.proofs.Lists as lists
use Rattle.value.proofs.end_of.Goals as goal

pub returns-then-count-eq0 : goal.returns-then-count-eq0
returns-then-count-eq0 c =
    sym (forms.end_none c.args.count c.args.m c.args.after
    c.args.s.now c.if-count-eq0.true)

pub returns-then-is_empty : goal.returns-then-is_empty
returns-then-is_empty c =
    c.exact.ensures ∙ sym (forms.end_empty c.args.count c.args.m c.args.after c.args.s.now
    c.if-count-eq0.false (eqb-true _ _ (sym c.is_empty.ensures ∙ c.if-is_empty.true)))

pub returns-then-is_mark : goal.returns-then-is_mark
returns-then-is_mark c =
    c.scaled.ensures
    ∙ ap (scaled_by c.args.m c.args.after)
    (c.exponent_of.ensures.0 ∙ ap exponent_of (lists.to_end c.args.s.now 1))
    ∙ sym (forms.end_mark c.args.count c.args.m c.args.after c.args.s.now c.if-count-eq0.false
    (eqb-false _ _ (sym c.is_empty.ensures ∙ c.if-is_empty.false)) (sym c.is_mark.ensures ∙ c.if-is_mark.true))

pub returns-else-is_mark : goal.returns-else-is_mark
returns-else-is_mark c =
    sym (forms.end-other c.args.count c.args.m c.args.after c.args.s.now c.if-count-eq0.false
    (eqb-false _ _ (sym c.is_empty.ensures ∙ c.if-is_empty.false)) (sym c.is_mark.ensures ∙ c.if-is_mark.false))
