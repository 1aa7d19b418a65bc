-- A sequence is filled where the next node does not follow at once, any other node where its value has bytes.
use native.Mathlib.Omega.{arith}
use Rattle.node.proofs.Laws as laws
use borrow.Author.Tests.{eq-eqb, ne_eqb}
use Rattle.node.specs.Find.{filled}
use Rattle.node.proofs.Walks.{gap}
use Rattle.node.proofs.DataSet.is_filled.Goals as goal

pub returns-then-vr-eq-SQ : goal.returns-then-vr-eq-SQ
unfolding filled
returns-then-vr-eq-SQ c =
    rw (← c.vr.ensures, eq-eqb _ _ c.if-vr-eq-SQ.true, c.next.ensures.0, gap)

pub returns-else-vr-eq-SQ : goal.returns-else-vr-eq-SQ
unfolding filled
returns-else-vr-eq-SQ c =
    rw (← c.vr.ensures, ne_eqb _ _ c.if-vr-eq-SQ.false, ← c.value.ensures)

pub overflow_add-result : goal.overflow_add-result
overflow_add-result c = omega (arith, c.requires, (laws.tabled c.args.self.now).few)
