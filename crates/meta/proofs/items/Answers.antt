-- Each turn reads one item as the definition does and leaves fewer bytes; the rows are counted, but no room is needed for them.
use Prim.Native.Nat.{◌+◌}
use mathlib.Core.Path.{refl, sym, ap}
use native.Mathlib.Omega.{arith}
use Rattle.std.proofs.lemmas.Result.{err_from_is_err_and}
use Rattle.dataset.specs.declared.Cursor.{Cursor}
use Rattle.dataset.specs.Header.{item_at}
use Rattle.dataset.proofs.Level as level
use Rattle.meta.proofs.items.Goals as goal

pub loop-fault-init : goal.loop-fault-init
loop-fault-init c = (
  0,
  (
    refl,
    level.started _ _ _ _ c.args.c _ _ c.args.file.now
        c.requires.0.start c.requires.0.stop refl,
  ),
)

pub item-requires : goal.item-requires
item-requires c =
    omega (arith, c.loop-fault.invariant.1.1.high, ap (λ (x : Cursor). x.end) c.loop-fault.invariant.1.0, c.requires.0.stop)

pub returns-in-Err : goal.returns-in-Err
returns-in-Err c =
    let there = level.stands c.args.c c.loop-fault.here (λ (x : Cursor). item_at c.args.file.now x)
    c.loop-fault.invariant.1.0 (c.item.ensures.value, c.item.ensures.within) c.in-Err.is in
    level.refuses _ _ _ _ c.args.c _ _ c.loop-fault.invariant.1.1 there.0

pub returns-in-Ok-End : goal.returns-in-Ok-End
returns-in-Ok-End c =
    let there = level.stands c.args.c c.loop-fault.here (λ (x : Cursor). item_at c.args.file.now x)
    c.loop-fault.invariant.1.0 (c.item.ensures.value, c.item.ensures.within) (level.found c.in-Ok-End.is c.in-Ok-End.field-0-is) in
    level.ended _ _ _ _ c.args.c _ _ c.loop-fault.invariant.1.1 there.0 there.1.0 there.1.1

pub overflow_add-n : goal.overflow_add-n
overflow_add-n c =
    let there = level.stands c.args.c c.loop-fault.here (λ (x : Cursor). item_at c.args.file.now x)
    c.loop-fault.invariant.1.0 (c.item.ensures.value, c.item.ensures.within) (level.found c.in-Ok-Header.is c.in-Ok-Header.field-0-is) in
    omega (arith, c.loop-fault.invariant.1.1.count, c.loop-fault.invariant.1.1.few, there.1, c.requires.0, c.well_formed)

pub read_item-requires : goal.read_item-requires
read_item-requires c =
    let there = level.stands c.args.c c.loop-fault.here (λ (x : Cursor). item_at c.args.file.now x)
    c.loop-fault.invariant.1.0 (c.item.ensures.value, c.item.ensures.within) (level.found c.in-Ok-Header.is c.in-Ok-Header.field-0-is) in
    record {
      start = there.1.1.0;
      stop = omega (arith, there.1, c.requires.0);
      small = λ h. absurd (omega (arith, h, c.loop-fault.invariant.1.1.kept, c.requires.1));
      deep = omega arith;
      count = omega
          (arith, c.loop-fault.invariant.1.1.count, c.loop-fault.invariant.1.1.few, c.loop-fault.invariant.1.1.low, there.1, c.requires.0);
    }

pub returns-in_err-walk-in-Ok-Header : goal.returns-in_err-walk-in-Ok-Header
returns-in_err-walk-in-Ok-Header c =
    let there = level.stands c.args.c c.loop-fault.here (λ (x : Cursor). item_at c.args.file.now x)
    c.loop-fault.invariant.1.0 (c.item.ensures.value, c.item.ensures.within) (level.found c.in-Ok-Header.is c.in-Ok-Header.field-0-is) in
    let e = err_from_is_err_and c.from_residual.result c.from_residual.ensures.1 in
    rw (e.1, e.2) (level.fails _ _ _ _ c.args.c _ _ c.loop-fault.invariant.1.1 there.0 there.1
    (level.walked c.in_err-walk-in-Ok-Header.was c.read_item.ensures))

pub loop-fault-smaller : goal.loop-fault-smaller
loop-fault-smaller c =
    let there = level.stands c.args.c c.loop-fault.here (λ (x : Cursor). item_at c.args.file.now x)
    c.loop-fault.invariant.1.0 (c.item.ensures.value, c.item.ensures.within) (level.found c.in-Ok-Header.is c.in-Ok-Header.field-0-is) in
    let d = level.below _ (level.walked c.in_ok-walk-in-Ok-Header.was c.read_item.ensures) in
    omega (
      arith,
      there.1,
      d.within,
      c.loop-fault.invariant.1.1.high,
      ap (λ (x : Cursor). x.end) c.moved-here.ensures,
      ap (λ (x : Cursor). x.at) c.moved-here.ensures,
      ap (λ (x : Cursor). x.end) c.loop-fault.invariant.1.0,
    )

pub loop-fault-preserved : goal.loop-fault-preserved
loop-fault-preserved c =
    let there = level.stands c.args.c c.loop-fault.here (λ (x : Cursor). item_at c.args.file.now x)
    c.loop-fault.invariant.1.0 (c.item.ensures.value, c.item.ensures.within) (level.found c.in-Ok-Header.is c.in-Ok-Header.field-0-is) in
    let walked = level.walked c.in_ok-walk-in-Ok-Header.was c.read_item.ensures in
    let below = level.below _ walked in (
      c.in-Ok-Header.field-0-0 + 1,
      level.along _ _ _ _ c.args.c _ _ c.loop-fault.here _ c.loop-fault.invariant.1.0 c.moved-here.ensures
          (level.again _ _ _ _ c.args.c _ _ c.loop-fault.invariant.1.1 there.0 there.1 _
          c.read_item.auto.rows refl walked (sym below.count)
          (λ h. absurd (omega (arith, h, c.read_item.auto.rows, c.loop-fault.invariant.1.1.kept, c.requires.1)))),
    )
