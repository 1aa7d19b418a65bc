-- Each turn puts one number, and all behind it stays as it was.
use Prim.Native.Nat.{◌-◌, ◌≤◌}
use lib.ListN.{get_or}
use Rattle.pixel.specs.Internal.{painted}
use Rattle.sheet.specs.Sheet.{sheet_size, numbers_in}
use mathlib.Core.Path.{◌≡◌}
use Rattle.c_sheet.proofs.put_numbers.Given as goal

abbrev pub invariant-loop-k : goal.invariant-loop-k
invariant-loop-k l =
    (l.k ≤ sheet_size) × (l.buffer ≡ painted (λ i. get_or (numbers_in l.t) i 0) l.k l.initial.buffer)

abbrev pub decreases-loop-k : goal.decreases-loop-k
decreases-loop-k l =
    sheet_size - l.k
