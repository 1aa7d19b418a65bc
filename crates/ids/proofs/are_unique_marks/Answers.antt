-- An item whose mark is found has the ID of one before it; any other leaves one mark more and one item less.
use lib.ListN.{length-set}
use mathlib.Core.Path.{sym, ◌∙◌}
use native.Mathlib.Omega.{arith}
use Rattle.node.proofs.Walks.{rest-below}
use Rattle.ids.proofs.Laws as laws
use Rattle.ids.proofs.are_unique_marks.Goals as goal

pub returns-then-marks-id-ne0 : goal.returns-then-marks-id-ne0
returns-then-marks-id-ne0 c =
    sym (laws.fresh-marked _ _ _ _ _ _ c.id_of-id.ensures.value c.in-Some.ensures.steps c.if-marks-id-ne0.true) ∙ c.loop-item.invariant.1

pub loop-item-preserved : goal.loop-item-preserved
loop-item-preserved c = (
  omega (arith, length-set c.loop-item.marks c.id_of-id.result 1, c.loop-item.invariant.0),
  laws.fresh-later _ _ _ _ _ _ c.id_of-id.ensures.value c.in-Some.ensures.steps
      (omega (arith, c.id_of-id.ensures.upper_bound, c.loop-item.invariant.0)) c.if-marks-id-ne0.false ∙ c.loop-item.invariant.1,
  rest-below _ _ _ _ c.in-Some.ensures.steps c.loop-item.invariant.2,
)
