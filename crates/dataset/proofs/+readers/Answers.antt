-- Each loop goes as the definition's turns: what stands at a cursor, and what the walk of its value comes to, is one more turn.
use native.Mathlib.Omega.{arith}
use mathlib.Core.Path.{refl, sym}
use Prim.Native.Nat.{◌+◌}
use Rattle.std.proofs.lemmas.Result.{err_from_is_err_and}
use Rattle.dataset.specs.declared.Cursor.{Cursor}
use Rattle.dataset.specs.Header.{moved, element_at, item_at}
use Rattle.dataset.proofs.Level as level
use Rattle.dataset.proofs.Levels.{sequence-level}
use Rattle.dataset.proofs.+readers.Goals as goal

pub read_item-loop-fault-init : goal.read_item-loop-fault-init
read_item-loop-fault-init t c = (refl, level.started _ _ _ _ c.args.c _ _ c.args.s.now c.requires.start c.requires.stop refl)

pub read_item-returns-in-Err : goal.read_item-returns-in-Err
read_item-returns-in-Err t c =
    let a = c.args in
    let there = level.stands a.c c.loop-fault.here (λ (x : Cursor). element_at a.s.now x c.loop-fault.least a.levels)
    c.loop-fault.invariant.0 (c.element.ensures.value, c.element.ensures.within) c.in-Err.is in
    level.refuses _ _ _ _ a.c _ _ c.loop-fault.invariant.1 there.0

pub read_item-returns-in-Ok-End : goal.read_item-returns-in-Ok-End
read_item-returns-in-Ok-End t c =
    let a = c.args in
    let there = level.stands a.c c.loop-fault.here (λ (x : Cursor). element_at a.s.now x c.loop-fault.least a.levels)
    c.loop-fault.invariant.0 (c.element.ensures.value, c.element.ensures.within) (level.found c.in-Ok-End.is c.in-Ok-End.field-0-is) in
    level.ended _ _ _ _ a.c _ _ c.loop-fault.invariant.1 there.0 there.1.0 there.1.1

pub read_item-read_value-requires : goal.read_item-read_value-requires
read_item-read_value-requires t c =
    let a = c.args in
    let there = level.stands a.c c.loop-fault.here (λ (x : Cursor). element_at a.s.now x c.loop-fault.least a.levels)
    c.loop-fault.invariant.0 (c.element.ensures.value, c.element.ensures.within) (level.found c.in-Ok-Header.is c.in-Ok-Header.field-0-is) in
    let i = c.loop-fault.invariant.1 in (
      omega (arith, c.decreases, there.1, i.low, i.high),
      (
        record {
          start = there.1.1.0;
          stop = omega (arith, there.1, c.requires);
          small = λ h. c.requires.small (omega (arith, h, i.kept));
          deep = c.requires.deep;
          count = omega (arith, i.count, i.few, i.low, there.1, c.requires);
        },
        sequence-level a.levels a.s.now (moved a.c c.loop-fault.here.at) c.loop-fault.least there.0,
      ),
    )

pub read_item-returns-in_err-walk-in-Ok-Header : goal.read_item-returns-in_err-walk-in-Ok-Header
read_item-returns-in_err-walk-in-Ok-Header t c =
    let a = c.args in
    let there = level.stands a.c c.loop-fault.here (λ (x : Cursor). element_at a.s.now x c.loop-fault.least a.levels)
    c.loop-fault.invariant.0 (c.element.ensures.value, c.element.ensures.within) (level.found c.in-Ok-Header.is c.in-Ok-Header.field-0-is) in
    let e = err_from_is_err_and c.from_residual.result c.from_residual.ensures.1 in
    rw (e.1, e.2) (level.fails _ _ _ _ a.c _ _ c.loop-fault.invariant.1 there.0 there.1
    (level.walked c.in_err-walk-in-Ok-Header.was c.read_value.ensures))

pub read_item-loop-fault-preserved : goal.read_item-loop-fault-preserved
read_item-loop-fault-preserved t c =
    let a = c.args in
    let there = level.stands a.c c.loop-fault.here (λ (x : Cursor). element_at a.s.now x c.loop-fault.least a.levels)
    c.loop-fault.invariant.0 (c.element.ensures.value, c.element.ensures.within) (level.found c.in-Ok-Header.is c.in-Ok-Header.field-0-is) in
    let walked = level.walked c.in_ok-walk-in-Ok-Header.was c.read_value.ensures in
    let below = level.below _ walked in
    level.along _ _ _ _ a.c _ _ c.loop-fault.here _ c.loop-fault.invariant.0 c.moved-here.ensures
    (level.again _ _ _ _ a.c _ _ c.loop-fault.invariant.1 there.0 there.1 _ c.read_value.auto.rows c.put_row.auto.rows walked
    (omega (arith, below.count, below.within)) c.put_row.ensures)

pub read_value-returns-then-vr-eq-SQ : goal.read_value-returns-then-vr-eq-SQ
read_value-returns-then-vr-eq-SQ t c =
    level.of-run (sym (level.value-items c.args.levels c.args.s.now c.args.first _ _ (λ z. omega (arith, z, c.requires.leveled c.if-vr-eq-SQ.true))
    c.if-vr-eq-SQ.true)) c.read_sequence.ensures

pub read_value-returns-else-vr-eq-SQ : goal.read_value-returns-else-vr-eq-SQ
read_value-returns-else-vr-eq-SQ t c =
    level.leaf _ _ _ _ c.requires.ready.start (level.value-plain _ _ _ _ _ c.if-vr-eq-SQ.false)

pub read_sequence-loop-fault-init : goal.read_sequence-loop-fault-init
read_sequence-loop-fault-init t c =
    (0, (refl, level.started _ _ _ _ c.args.c _ _ c.args.s.now c.requires.start c.requires.stop refl))

pub read_sequence-returns-in-Err : goal.read_sequence-returns-in-Err
read_sequence-returns-in-Err t c =
    let a = c.args in
    let there = level.stands a.c c.loop-fault.here (λ (x : Cursor). item_at a.s.now x) c.loop-fault.invariant.1.0
    (c.item.ensures.value, c.item.ensures.within) c.in-Err.is in
    level.refuses _ _ _ _ a.c _ _ c.loop-fault.invariant.1.1 there.0

pub read_sequence-returns-in-Ok-End : goal.read_sequence-returns-in-Ok-End
read_sequence-returns-in-Ok-End t c =
    let a = c.args in
    let there = level.stands a.c c.loop-fault.here (λ (x : Cursor). item_at a.s.now x) c.loop-fault.invariant.1.0
    (c.item.ensures.value, c.item.ensures.within) (level.found c.in-Ok-End.is c.in-Ok-End.field-0-is) in
    level.ended _ _ _ _ a.c _ _ c.loop-fault.invariant.1.1 there.0 there.1.0 there.1.1

pub read_sequence-returns-in_err-walk-in-Ok-Header : goal.read_sequence-returns-in_err-walk-in-Ok-Header
read_sequence-returns-in_err-walk-in-Ok-Header t c =
    let a = c.args in
    let there = level.stands a.c c.loop-fault.here (λ (x : Cursor). item_at a.s.now x) c.loop-fault.invariant.1.0
    (c.item.ensures.value, c.item.ensures.within) (level.found c.in-Ok-Header.is c.in-Ok-Header.field-0-is) in
    let e = err_from_is_err_and c.from_residual.result c.from_residual.ensures.1 in
    rw (e.1, e.2) (level.fails _ _ _ _ a.c _ _ c.loop-fault.invariant.1.1 there.0 there.1
    (level.walked c.in_err-walk-in-Ok-Header.was c.read_member.ensures))

pub read_sequence-loop-fault-preserved : goal.read_sequence-loop-fault-preserved
read_sequence-loop-fault-preserved t c =
    let a = c.args in
    let there = level.stands a.c c.loop-fault.here (λ (x : Cursor). item_at a.s.now x) c.loop-fault.invariant.1.0
    (c.item.ensures.value, c.item.ensures.within) (level.found c.in-Ok-Header.is c.in-Ok-Header.field-0-is) in
    let walked = level.walked c.in_ok-walk-in-Ok-Header.was c.read_member.ensures in
    let below = level.below _ walked in (
      c.in-Ok-Header.tag + 1,
      level.along _ _ _ _ a.c _ _ c.loop-fault.here _ c.loop-fault.invariant.1.0 c.moved-here.ensures
          (level.again _ _ _ _ a.c _ _ c.loop-fault.invariant.1.1 there.0 there.1 _ c.read_member.auto.rows c.put_row.auto.rows walked
          (omega (arith, below.count, below.within)) c.put_row.ensures),
    )
