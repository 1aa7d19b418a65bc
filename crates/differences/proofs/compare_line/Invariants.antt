-- What was seen of the first k cells, with one cell more, is what is seen of the first k + 1.
use Prim.Native.Nat.{◌+◌, ◌-◌, ◌≤◌}
use mathlib.Core.Bool.{not}
use lib.ListN.{length, get_or}
use Rattle.differences.specs.Differences.{within}
use Rattle.differences.specs.Internal.{along}
use mathlib.Core.Path.{◌≡◌}
use Rattle.differences.proofs.compare_line.Given as goal

abbrev pub invariant-loop-k : goal.invariant-loop-k
invariant-loop-k l =
    (l.k ≤ l.k-end) × ((l.k-end ≡ length l.line) × (l.found ≡ along (λ j. not (within l.tolerance (get_or l.line j 0) (get_or l.cells
    (l.at + j) 0))) l.at l.k l.initial.found))

abbrev pub decreases-loop-k : goal.decreases-loop-k
decreases-loop-k l =
    l.k-end - l.k
