-- n · 10^(the turns left) stays m · 10^e, and what has reached the limit only grows; below the limit ten times n fits.
use Rattle.std.proofs.Common.{◌≡◌, ◌-◌, ◌*◌, ◌^◌, ◌≤◌}
use Rattle.value.specs.Number.{characters}
use Rattle.value.proofs.multiplied.Given as goal

abbrev pub invariant-loop : goal.invariant-loop
invariant-loop l = (l.n * 10 ^ (l.e - l.counter) ≡ l.m * 10 ^ l.e) × (l.n ≤ 10 ^ characters)
