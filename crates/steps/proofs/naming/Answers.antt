-- An item that names another ID leaves the search as it was; one that names the ID, or none, ends it.
use mathlib.Core.Path.{sym, ◌∙◌}
use Rattle.node.proofs.Walks.{rest-below}
use Rattle.steps.proofs.Laws as laws
use Rattle.steps.proofs.naming.Goals as goal

pub returns-in_err-x-clause-result_value : goal.returns-in_err-x-clause-result_value
returns-in_err-x-clause-result_value c =
    c.from_residual.ensures
    ∙ sym (laws.naming-lacks _ _ _ _ _ c.in-Some.ensures.steps (laws.told c.in_err-x.was c.us_item.ensures.value))
    ∙ c.loop-item.invariant.0

pub returns-then-x-id-clause-result_value : goal.returns-then-x-id-clause-result_value
returns-then-x-id-clause-result_value c =
    sym (laws.naming-here _ _ _ _ _ c.in-Some.ensures.steps _ (laws.told c.in_ok-x.was c.us_item.ensures.value) c.if-x-id.true)
    ∙ c.loop-item.invariant.0

pub loop-item-preserved : goal.loop-item-preserved
loop-item-preserved c = (
  sym (laws.naming-next _ _ _ _ _ c.in-Some.ensures.steps _ (laws.told c.in_ok-x.was c.us_item.ensures.value) c.if-x-id.false)
      ∙ c.loop-item.invariant.0,
  rest-below _ _ _ _ c.in-Some.ensures.steps c.loop-item.invariant.1,
)

pub returns-clause-result_value : goal.returns-clause-result_value
returns-clause-result_value c =
    sym (laws.naming-end _ _ _ c.in-None.ensures.steps.0) ∙ c.loop-item.invariant.0
