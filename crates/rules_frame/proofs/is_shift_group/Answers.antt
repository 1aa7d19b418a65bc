-- A sequence has items just where the next node does not follow at once, and its items stand between the two.
use native.Mathlib.Omega.{arith}
use borrow.Author.Tests.{eq-eqb, ne_eqb}
use Rattle.node.proofs.Laws as node_laws
use Rattle.rules.specs.Frame.{is_shift_group}
use Rattle.element.proofs.Every.{members-some, members-none}
use Rattle.rules_frame.proofs.is_shift_group.Goals as goal
use Rattle.rules_frame.proofs.is_shift_group.Goals.{then-vr-ne-SQ-via-then-vr-ne-SQ, then-vr-ne-SQ-via-else-vr-ne-SQ+then-from-to}

pub overflow_add-from : goal.overflow_add-from
overflow_add-from c =
    omega (arith, c.requires, (node_laws.tabled c.args.set.now).few)

pub returns-then-vr-ne-SQ : goal.returns-then-vr-ne-SQ
unfolding is_shift_group
returns-then-vr-ne-SQ c = elim c.then-vr-ne-SQ.branch [
  | then-vr-ne-SQ-via-then-vr-ne-SQ w ↦ rw (← c.vr.ensures, ne_eqb _ _ w.if-vr-ne-SQ.true)
  | then-vr-ne-SQ-via-else-vr-ne-SQ+then-from-to w ↦ rw (
    ← c.vr.ensures,
    eq-eqb _ _ w.if-vr-ne-SQ.false,
    ← c.next-to.ensures.0,
    members-none _ _ _ w.if-from-to.true,
  )
]

pub returns-then-are_shift_items : goal.returns-then-are_shift_items
unfolding is_shift_group
returns-then-are_shift_items c =
    rw (
      ← c.vr.ensures,
      eq-eqb _ _ c.if-vr-ne-SQ.false,
      ← c.next-to.ensures.0,
      members-some _ _ _ c.if-from-to.false,
      ← c.are_shift_items.ensures,
      c.if-are_shift_items.true,
    ) c.ids_differ.ensures
