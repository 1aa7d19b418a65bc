-- Rule 27 looks at every element of both items, so each frame adds its own and the shared item's number of them.
use Rattle.node.proofs.Laws as node_laws
use Rattle.node.proofs.Walks.{rest-below}
use mathlib.Core.Path.{ap, ◌∙◌}
use native.Mathlib.Omega.{arith}
use Rattle.node.specs.Nodes.{nodes_of}
use Rattle.searches.specs.Internal.{over_both}
use Rattle.searches.proofs.Loops.{both_end, both-next, both-fits}
use Rattle.searches.proofs.both_items.Goals as goal

pub loop-item-init : goal.loop-item-init
loop-item-init c =
    rw c.into_iter-item-iterator.ensures.into_iter_gives (
      omega (arith, ap (over_both (nodes_of c.args.set.now) c.args.shared) (c.members-item-items.ensures.value ∙ c.frame_items-items.ensures.ahead)),
      c.members-item-items.ensures.known,
    )

pub overflow_add-sum : goal.overflow_add-sum
overflow_add-sum c =
    let a = c.args in
    omega (
      arith,
      c.loop-item.invariant.0,
      both-next (nodes_of a.set.now) _ _ _ c.in-Some.ensures.steps a.shared,
      c.count_items-own.ensures,
      c.count_items.ensures,
      both-fits a.set.now (node_laws.tabled a.set.now).few a.shared,
    )

pub overflow_add-sum-in-loop-item : goal.overflow_add-sum-in-loop-item
overflow_add-sum-in-loop-item c =
    let a = c.args in
    omega (
      arith,
      c.loop-item.invariant.0,
      both-next (nodes_of a.set.now) _ _ _ c.in-Some.ensures.steps a.shared,
      c.count_items-own.ensures,
      c.count_items.ensures,
      both-fits a.set.now (node_laws.tabled a.set.now).few a.shared,
    )

pub loop-item-preserved : goal.loop-item-preserved
loop-item-preserved c = (
  omega (
    arith,
    c.loop-item.invariant.0,
    both-next (nodes_of c.args.set.now) _ _ _ c.in-Some.ensures.steps c.args.shared,
    c.count_items-own.ensures,
    c.count_items.ensures,
  ),
  rest-below _ _ _ _ c.in-Some.ensures.steps c.loop-item.invariant.1,
)

pub returns : goal.returns
returns c =
    omega (arith, c.loop-item.invariant.0, both_end (nodes_of c.args.set.now) _ c.args.shared c.in-None.ensures.steps.0)
