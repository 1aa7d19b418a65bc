-- Each turn reads one element as the definition does, writes its row and leaves fewer bytes; at a sequence the walk is given up.
use native.Mathlib.Omega.{arith}
use mathlib.Core.Path.{refl}
use Rattle.dataset.specs.declared.Cursor.{Cursor}
use Rattle.dataset.specs.Header.{element_at}
use Rattle.dataset.proofs.Level as level
use Rattle.dataset.proofs.read_leaf.Goals as goal

pub loop-fault-init : goal.loop-fault-init
loop-fault-init c = (refl, level.started _ _ _ _ c.args.c _ _ c.args.s.now c.requires.start c.requires.stop refl)

pub returns-in-Err : goal.returns-in-Err
returns-in-Err c =
    let a = c.args in
    let there = level.stands a.c c.loop-fault.here (λ (x : Cursor). element_at a.s.now x c.loop-fault.least a.levels)
    c.loop-fault.invariant.0 (c.element.ensures.value, c.element.ensures.within) c.in-Err.is in
    level.refuses _ _ _ _ a.c _ _ c.loop-fault.invariant.1 there.0

pub returns-in-Ok-End : goal.returns-in-Ok-End
returns-in-Ok-End c =
    let a = c.args in
    let there = level.stands a.c c.loop-fault.here (λ (x : Cursor). element_at a.s.now x c.loop-fault.least a.levels)
    c.loop-fault.invariant.0 (c.element.ensures.value, c.element.ensures.within) (level.found c.in-Ok-End.is c.in-Ok-End.field-0-is) in
    level.ended _ _ _ _ a.c _ _ c.loop-fault.invariant.1 there.0 there.1.0 there.1.1

pub returns-then-vr-eq-SQ : goal.returns-then-vr-eq-SQ
returns-then-vr-eq-SQ c = level.given-up _ _ _ _ c.args.c _ _ c.loop-fault.invariant.1

pub loop-fault-preserved : goal.loop-fault-preserved
loop-fault-preserved c =
    let a = c.args in
    let there = level.stands a.c c.loop-fault.here (λ (x : Cursor). element_at a.s.now x c.loop-fault.least a.levels)
    c.loop-fault.invariant.0 (c.element.ensures.value, c.element.ensures.within) (level.found c.in-Ok-Header.is c.in-Ok-Header.field-0-is) in
    level.along _ _ _ _ a.c _ _ c.loop-fault.here _ c.loop-fault.invariant.0 c.moved-here.ensures
    (level.again _ _ _ _ a.c _ _ c.loop-fault.invariant.1 there.0 there.1 0 refl c.put_row.auto.rows
    (level.leaf _ _ _ _ there.1.1.0 (level.value-plain _ _ _ _ _ c.if-vr-eq-SQ.false)) (omega arith) c.put_row.ensures)
