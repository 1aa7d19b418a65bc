-- A sequence has items just where the next node does not follow at once, and their grade is the group's.
use native.Mathlib.Omega.{arith}
use borrow.Author.Tests.{eq-eqb, ne_eqb}
use Rattle.node.proofs.Laws as node_laws
use Rattle.rules.specs.Intensity.{is_lut_group, has_linear}
use Rattle.element.proofs.Every.{members-some, members-none}
use Rattle.intensity.specs.Internal.{table_of, luts_of}
use Rattle.intensity.proofs.table_of.Goals as goal
use Rattle.intensity.proofs.table_of.Goals.{else-vr-eq-SQ-via-then-vr-eq-SQ+else-from-to, else-vr-eq-SQ-via-else-vr-eq-SQ}

pub overflow_add-from : goal.overflow_add-from
overflow_add-from c =
    omega (arith, c.requires, (node_laws.tabled c.args.set.now).few)

pub returns-then-from-to : goal.returns-then-from-to
unfolding table_of is_lut_group has_linear luts_of
returns-then-from-to c =
    rw (
      ← c.vr.ensures,
      eq-eqb _ _ c.if-vr-eq-SQ.true,
      ← c.next-to.ensures.0,
      members-some _ _ _ c.if-from-to.true,
    ) c.luts_of.ensures

pub returns-else-vr-eq-SQ : goal.returns-else-vr-eq-SQ
unfolding table_of is_lut_group
returns-else-vr-eq-SQ c = elim c.else-vr-eq-SQ.branch [
  | else-vr-eq-SQ-via-then-vr-eq-SQ+else-from-to w ↦
      rw (← c.vr.ensures, eq-eqb _ _ w.if-vr-eq-SQ.true, ← c.next-to.ensures.0, members-none _ _ _ w.if-from-to.false)
  | else-vr-eq-SQ-via-else-vr-eq-SQ w ↦ rw (← c.vr.ensures, ne_eqb _ _ w.if-vr-eq-SQ.false)
]
