-- Invariant: the sums are those of the mask frames from number k on.
use mathlib.Core.Path.{◌≡◌}
use Prim.Native.Nat.{◌≤◌}
use lib.ListN.{length, drop}
use Rattle.value.specs.Number.{us_values}
use Rattle.pixel.specs.Internal.{Summed}
use Rattle.pixel.proofs.sum_row.Given as goal

abbrev pub invariant-loop-k : goal.invariant-loop-k
invariant-loop-k l =
    (l.k ≤ length (us_values l.masks)) × ((length l.sums ≡ length l.initial.sums) × Summed l.pixels l.g (drop l.k (us_values l.masks)) l.row l.sums)
