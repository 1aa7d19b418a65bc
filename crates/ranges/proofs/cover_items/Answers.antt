-- Each item takes only frames that no item before it took, so the first whose range holds a frame has it.
use native.Mathlib.Omega.{arith}
use Rattle.node.proofs.Walks.{rest-below}
use Rattle.ranges.proofs.Items as items
use Rattle.ranges.proofs.cover_items.Goals as goal

pub loop-item-preserved : goal.loop-item-preserved
loop-item-preserved c = (
  items.left-next _ _ _ _ _ _ _ _ c.in-Some.ensures.steps (rw c.in-Some.ensures.steps at c.loop-item.invariant.1 0 0 (omega arith)) c.requires.1.1.1 c.loop-item.invariant.0 c.cover_item.ensures,
  rest-below _ _ _ _ c.in-Some.ensures.steps c.loop-item.invariant.1,
)

pub returns : goal.returns
returns c =
    items.left_end _ _ _ _ _ c.in-None.ensures.steps.0 c.loop-item.invariant.0
