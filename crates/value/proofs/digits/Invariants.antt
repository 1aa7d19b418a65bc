-- Reading stops at the limit, at the end or at the first byte that is no digit, and the bound leaves room for each digit that may still
-- come.
use Rattle.std.proofs.Common.{◌≡◌, ◌+◌, ◌*◌, ◌^◌, ◌≤◌, length, drop}
use Rattle.std.specs.Iterator.Adapters.{take_source, take_count}
use Rattle.std.specs.Slice.Iter.{iter_rest}
use Rattle.value.specs.Number.{characters, digits_of}
use Rattle.value.proofs.digits.Given as goal

-- The loop: reading on comes to what reading from the start does, and the number cannot outgrow the bound with the digits that may
-- still come.
abbrev pub invariant-loop-b : goal.invariant-loop-b
invariant-loop-b l =
    let left = take_count l.b-iterator in
    let rest = iter_rest (take_source l.b-iterator) in
    record {
      reading : digits_of left l.number l.count rest ≡ digits_of l.limit l.start 0 l.s;
      room : (l.number + 1) * 10 ^ left ≤ 10 ^ characters;
      few : left + l.count ≡ l.limit;
      place : rest ≡ drop l.count l.s;
      within : l.count ≤ length l.s;
    }
