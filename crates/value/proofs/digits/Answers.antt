-- Reading stops at the limit, at the end or at the first byte that is no digit, and the bound leaves room for each digit that may still
-- come.
use Rattle.std.proofs.Common.{◌^◌, sym, ◌∙◌, arith}
use Rattle.std.specs.Iterator.Adapters.{take_source, take_count}
use Rattle.std.specs.Slice.Iter.{iter_rest}
use Rattle.value.specs.Number.{characters}
use Rattle.value.proofs.Runs as runs
use Rattle.value.proofs.digits.Goals as goal

pub overflow_mul-number : goal.overflow_mul-number
overflow_mul-number c =
    let l = c.loop-b in
    omega (arith, runs.bounded l.number (take_count l.b-iterator) (10 ^ characters) l.invariant.room)

pub overflow_add-number : goal.overflow_add-number
overflow_add-number c =
    let l = c.loop-b in
    omega (arith, runs.bounded l.number (take_count l.b-iterator) (10 ^ characters) l.invariant.room, c.if-not-is_ascii_digit.ensures.cases)

pub loop-b-preserved : goal.loop-b-preserved
loop-b-preserved c =
    let l = c.loop-b in
    let next = c.next.new.self in
    let step = c.in-Some.ensures.steps in
    let digit = c.if-not-is_ascii_digit.ensures in
    let place = runs.next-place c.args.s.now (iter_rest (take_source next)) l.count c.in-Some.b.now (sym step.0 ∙ l.invariant.place) in
    record {
      reading = rw c.from.ensures (sym (runs.next-digit (take_count l.b-iterator) (take_count next) l.number l.count c.in-Some.b.now
          (iter_rest (take_source next)) step.1 digit.value) ∙ rw step.0 at l.invariant.reading);
      room = runs.next-size l.number c.from.result (take_count l.b-iterator) (take_count next) (10 ^ characters) step.1
          (omega (arith, digit.cases)) l.invariant.room;
      few = omega (arith, step.1);
      place = place.0;
      within = omega (arith, place.1);
    }

pub returns-in-None : goal.returns-in-None
returns-in-None c =
    let l = c.loop-b in
    let left = take_count l.b-iterator in
    let rest = iter_rest (take_source l.b-iterator) in
    runs.read_at c.args.limit c.args.start left l.number l.count c.args.s.now rest l.invariant.reading
    (runs.digits-end left l.number l.count rest (λ p. (c.in-None.ensures.steps p).0)) l.invariant.place l.invariant.within (omega arith)

pub returns-then-not-is_ascii_digit : goal.returns-then-not-is_ascii_digit
returns-then-not-is_ascii_digit c =
    let l = c.loop-b in
    let step = c.in-Some.ensures.steps in
    let left = take_count l.b-iterator in
    runs.read_at c.args.limit c.args.start left l.number l.count c.args.s.now (iter_rest (take_source l.b-iterator)) l.invariant.reading
    (rw step.0 (runs.no-digit left l.number l.count c.in-Some.b.now (iter_rest (take_source c.next.new.self)) c.if-not-is_ascii_digit.ensures.value))
    l.invariant.place l.invariant.within (omega arith)
