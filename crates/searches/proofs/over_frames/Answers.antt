-- Each turn adds one frame's group, with what the shared item comes to worked out before the loop.
use Rattle.node.proofs.Laws as node_laws
use Rattle.node.proofs.Walks.{rest-below}
use mathlib.Core.Path.{ap, ◌∙◌}
use native.Mathlib.Omega.{arith}
use Rattle.node.specs.Nodes.{nodes_of}
use Rattle.searches.specs.Internal.{over_group}
use Rattle.searches.proofs.Loops.{over-end, over-next, over-fits}
use Rattle.searches.proofs.over_frames.Goals as goal

pub loop-item-init : goal.loop-item-init
loop-item-init c =
    let g = c.args.group.now in
    let all = c.members-item-items.ensures.value ∙ c.frame_items-items.ensures.ahead in
    rw c.into_iter-item-iterator.ensures.into_iter_gives (
      omega (arith, ap (over_group (nodes_of c.args.set.now) g.tag g.always g.reads.now c.args.shared) all),
      c.members-item-items.ensures.known,
    )

pub overflow_add-sum : goal.overflow_add-sum
overflow_add-sum c =
    let a = c.args in
    let g = a.group.now in
    omega (
      arith,
      c.loop-item.invariant.0,
      over-next (nodes_of a.set.now) _ _ _ c.in-Some.ensures.steps g.tag g.always g.reads.now a.shared,
      c.group_at-sum.ensures,
      over-fits a.set.now (node_laws.tabled a.set.now).few g.tag g.always g.reads.now a.shared (omega arith),
    )

pub loop-item-preserved : goal.loop-item-preserved
loop-item-preserved c =
    let a = c.args in
    let g = a.group.now in (
      omega (
        arith,
        c.loop-item.invariant.0,
        over-next (nodes_of a.set.now) _ _ _ c.in-Some.ensures.steps g.tag g.always g.reads.now a.shared,
        c.group_at-sum.ensures,
      ),
      rest-below _ _ _ _ c.in-Some.ensures.steps c.loop-item.invariant.1,
    )

pub returns : goal.returns
returns c =
    let a = c.args in
    let g = a.group.now in
    let left = over-end (nodes_of a.set.now) _ g.tag g.always g.reads.now a.shared c.in-None.ensures.steps.0 in record {
      value = omega (arith, c.loop-item.invariant.0, left);
      upper_bound = omega (
        arith,
        c.loop-item.invariant.0,
        over-fits a.set.now (node_laws.tabled a.set.now).few g.tag g.always g.reads.now a.shared (omega arith),
      );
    }
