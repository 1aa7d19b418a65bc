-- A number is a multiple of 10^(e + 1) just where it is one of 10 and its tenth is one of 10^e.
use Rattle.std.proofs.Common.{◌≡◌, ◌-◌, ◌^◌}
use Rattle.value.specs.Number.{wholly}
use Rattle.value.proofs.divided.Given as goal

abbrev pub invariant-loop : goal.invariant-loop
invariant-loop l = wholly l.n (10 ^ (l.e - l.counter)) ≡ wholly l.m (10 ^ l.e)
