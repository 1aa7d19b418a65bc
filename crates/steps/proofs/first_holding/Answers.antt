-- An item whose range does not hold the frame leaves the search as it was; any other item ends it.
use Rattle.std.specs.Prelude.{Bool, Some}
use mathlib.Core.Path.{sym, ap, ◌∙◌}
use Rattle.node.proofs.Walks.{rest-below}
use Rattle.steps.proofs.Laws as laws
use Rattle.steps.proofs.first_holding.Goals as goal

pub returns-in_default-clause-result_value : goal.returns-in_default-clause-result_value
returns-in_default-clause-result_value c =
    let lacks = laws.told c.in_default.is c.range_holds.ensures in
    rw lacks (sym (laws.holding-lacks _ _ _ _ _ c.in-Some.ensures.steps lacks) ∙ c.loop-item.invariant.0)

pub returns-then-holds-clause-result_value : goal.returns-then-holds-clause-result_value
returns-then-holds-clause-result_value c =
    let holds = laws.told (c.in-Some-range_holds.is ∙ ap (λ (t : Bool). Some t) c.if-holds.true) c.range_holds.ensures in
    rw holds (sym (laws.holding-here _ _ _ _ _ c.in-Some.ensures.steps holds) ∙ c.loop-item.invariant.0)

pub loop-item-preserved : goal.loop-item-preserved
loop-item-preserved c = (
  sym (laws.holding-next _ _ _ _ _ c.in-Some.ensures.steps
      (laws.told (c.in-Some-range_holds.is ∙ ap (λ (t : Bool). Some t) c.if-holds.false) c.range_holds.ensures)) ∙ c.loop-item.invariant.0,
  rest-below _ _ _ _ c.in-Some.ensures.steps c.loop-item.invariant.1,
)

pub returns-clause-result_value : goal.returns-clause-result_value
returns-clause-result_value c =
    sym (laws.holding-end _ _ _ c.in-None.ensures.steps.0) ∙ c.loop-item.invariant.0
