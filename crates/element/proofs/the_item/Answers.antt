-- A sequence has one item just where there is a first item and no second.
use mathlib.Core.Path.{sym, ◌∙◌}
use Rattle.element.proofs.Laws as laws
use Rattle.element.proofs.the_item.Goals as goal

pub returns-then-vr-ne-SQ-clause-value : goal.returns-then-vr-ne-SQ-clause-value
returns-then-vr-ne-SQ-clause-value c = sym (laws.one-item-other _ _ (λ e. c.if-vr-ne-SQ.true (c.vr.ensures ∙ e)))

pub returns-in_err-first-clause-value : goal.returns-in_err-first-clause-value
returns-in_err-first-clause-value c =
    c.from_residual.ensures
    ∙ sym (laws.one-item-none _ _ _ (sym c.vr.ensures ∙ c.if-vr-ne-SQ.false) c.inside-items.ensures.value c.in_err-first.ensures.steps.0)

pub returns-in-None-clause-value : goal.returns-in-None-clause-value
returns-in-None-clause-value c =
    sym (laws.one-item-one _ _ _ (sym c.vr.ensures ∙ c.if-vr-ne-SQ.false) c.inside-items.ensures.value _ _ c.in_ok-first.ensures.steps
    c.in-None.ensures.steps.0)

pub returns-in-Some-clause-value : goal.returns-in-Some-clause-value
returns-in-Some-clause-value c =
    sym (laws.one-item-many _ _ _ (sym c.vr.ensures ∙ c.if-vr-ne-SQ.false) c.inside-items.ensures.value _ _ _ _ c.in_ok-first.ensures.steps
    c.in-Some.ensures.steps)
