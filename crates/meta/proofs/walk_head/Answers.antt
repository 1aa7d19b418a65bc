-- Each turn reads one element as the definition does and leaves fewer bytes; the rows are counted, but no room is needed for them.
use mathlib.Core.Path.{ap}
use native.Mathlib.Omega.{arith}
use Rattle.dataset.specs.declared.Cursor.{Cursor}
use Rattle.dataset.proofs.Level as level
use Rattle.meta.proofs.Heads as heads
use Rattle.meta.proofs.walk_head.Goals as goal

pub loop-found-init : goal.loop-found-init
loop-found-init c =
    heads.begun c.args.file.now c.args.end c.args.none.now
    c.requires.0 c.requires.1.0

pub element-requires : goal.element-requires
element-requires c =
    let e = ap (λ (x : Cursor). x.end) c.loop-found.invariant.0 in
    (omega (arith, c.loop-found.invariant.1.0.high, e), omega (arith, e, c.requires))

pub returns-in-Err : goal.returns-in-Err
returns-in-Err c =
    let there = heads.there c.args.file.now c.args.end c.args.none.now c.loop-found.invariant c.element.ensures.value c.element.ensures.within c.in-Err.is in record {
      value = heads.refuses c.args.file.now c.args.end c.args.none.now c.loop-found.invariant there.0;
      found_within = tt;
    }

pub returns-in-Ok-End : goal.returns-in-Ok-End
returns-in-Ok-End c =
    let there = heads.there c.args.file.now c.args.end c.args.none.now c.loop-found.invariant c.element.ensures.value c.element.ensures.within (level.found c.in-Ok-End.is c.in-Ok-End.field-0-is) in record {
      value = heads.ended c.args.file.now c.args.end c.args.none.now c.loop-found.invariant there.0;
      found_within = c.loop-found.invariant.1.1.1;
    }

pub overflow_add-n : goal.overflow_add-n
overflow_add-n c =
    let there = heads.there c.args.file.now c.args.end c.args.none.now c.loop-found.invariant c.element.ensures.value c.element.ensures.within (level.found c.in-Ok-Header.is c.in-Ok-Header.field-0-is) in
    omega (arith, c.loop-found.invariant.1.0.count, c.loop-found.invariant.1.0.few, there.1, c.requires, c.well_formed)

pub past-requires : goal.past-requires
past-requires c =
    let there = heads.there c.args.file.now c.args.end c.args.none.now c.loop-found.invariant c.element.ensures.value c.element.ensures.within
    (level.found c.in-Ok-Header.is c.in-Ok-Header.field-0-is) in (
      record {
        start = there.1.1.0;
        stop = omega (arith, there.1, c.requires);
        small = λ h. absurd (omega (arith, h, c.loop-found.invariant.1.0.kept, c.requires));
        deep = omega arith;
        count = omega
            (arith, c.loop-found.invariant.1.0.count, c.loop-found.invariant.1.0.few, c.loop-found.invariant.1.0.low, there.1, c.requires);
      },
      omega (arith, c.loop-found.invariant.1.0.kept, c.requires),
    )

pub returns-in_default-clause-value : goal.returns-in_default-clause-value
returns-in_default-clause-value c =
    let there = heads.there c.args.file.now c.args.end c.args.none.now c.loop-found.invariant c.element.ensures.value c.element.ensures.within
    (level.found c.in-Ok-Header.is c.in-Ok-Header.field-0-is) in
    heads.fails c.args.file.now c.args.end c.args.none.now c.loop-found.invariant there.0 there.1
    (level.walked c.in_default.is c.past.ensures)

pub note-found-requires : goal.note-found-requires
note-found-requires c =
    let there = heads.there c.args.file.now c.args.end c.args.none.now c.loop-found.invariant c.element.ensures.value c.element.ensures.within (level.found c.in-Ok-Header.is c.in-Ok-Header.field-0-is) in
    let d = level.below _ (level.walked c.in-Ok.is c.past.ensures) in
    omega (arith, d.within, there.1)

pub overflow_add-least : goal.overflow_add-least
overflow_add-least c =
    let there = heads.there c.args.file.now c.args.end c.args.none.now c.loop-found.invariant c.element.ensures.value c.element.ensures.within (level.found c.in-Ok-Header.is c.in-Ok-Header.field-0-is) in
    omega (arith, there.1)

pub loop-found-smaller : goal.loop-found-smaller
loop-found-smaller c =
    let there = heads.there c.args.file.now c.args.end c.args.none.now c.loop-found.invariant c.element.ensures.value c.element.ensures.within (level.found c.in-Ok-Header.is c.in-Ok-Header.field-0-is) in
    let d = level.below _ (level.walked c.in-Ok.is c.past.ensures) in
    omega (
      arith,
      there.1,
      d.within,
      c.loop-found.invariant.1.0.high,
      ap (λ (x : Cursor). x.end) c.moved-here.ensures,
      ap (λ (x : Cursor). x.at) c.moved-here.ensures,
      ap (λ (x : Cursor). x.end) c.loop-found.invariant.0,
    )

pub loop-found-preserved : goal.loop-found-preserved
loop-found-preserved c =
    let there = heads.there c.args.file.now c.args.end c.args.none.now c.loop-found.invariant c.element.ensures.value c.element.ensures.within (level.found c.in-Ok-Header.is c.in-Ok-Header.field-0-is) in
    heads.goes_on c.args.file.now c.args.end c.args.none.now c.loop-found.invariant there.0 there.1
    c.requires.1.0 c.requires.1.1 c.past.auto.none
    (level.walked c.in-Ok.is c.past.ensures) c.note-found.ensures c.moved-here.ensures
