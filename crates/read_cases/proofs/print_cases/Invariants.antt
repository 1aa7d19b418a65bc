-- Each case is within the input and ends later than it starts, so each turn leaves less of it.
use Rattle.std.proofs.Common.{◌-◌, ◌≤◌, length}
use Rattle.read_cases.proofs.print_cases.Given as goal

abbrev pub invariant-loop-case : goal.invariant-loop-case
invariant-loop-case g l = l.at ≤ length l.cases

abbrev pub decreases-loop-case : goal.decreases-loop-case
decreases-loop-case g l = length l.cases - l.at
