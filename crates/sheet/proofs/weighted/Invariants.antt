-- No count is above 2^48, so that 256 products with a level add up to less than 2^64.
use Prim.Native.Nat.{◌*◌}
use lib.ListN.{get_or}
use Rattle.sheet.specs.Sampling.{total}
use mathlib.Core.Path.{◌≡◌}
use Rattle.sheet.proofs.weighted.Given as goal

abbrev pub invariant-loop-y : goal.invariant-loop-y
invariant-loop-y l =
    l.sum ≡ total (λ i. i * get_or l.fn.counts i 0) l.y
