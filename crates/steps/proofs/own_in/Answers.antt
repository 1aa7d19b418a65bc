-- A sequence has items just where the next node does not follow at once, and its items stand between the two.
use native.Mathlib.Omega.{arith}
use Rattle.element.proofs.Every.{members-some, members-none}
use Rattle.node.proofs.Laws as node_laws
use Rattle.steps.proofs.Laws as laws
use Rattle.steps.proofs.own_in.Goals as goal

pub overflow_add-from : goal.overflow_add-from
overflow_add-from c =
    omega (arith, c.requires, (node_laws.tabled c.args.set.now).few)

pub returns-then-to-from-clause-result_value : goal.returns-then-to-from-clause-result_value
returns-then-to-from-clause-result_value c =
    rw (← c.vr.ensures, c.if-vr-ne-SQ.false, ← c.next-to.ensures.0, members-none _ _ _ c.if-to-from.true)

pub returns-clause-result_value : goal.returns-clause-result_value
returns-clause-result_value c =
    rw (
      ← c.vr.ensures,
      c.if-vr-ne-SQ.false,
      ← c.next-to.ensures.0,
      members-some _ _ _ c.if-to-from.false,
      laws.told c.in_ok-id.was c.us_item.ensures.value,
    ) c.naming.ensures.result_value
