-- Each turn writes one cell's entry and leaves what is behind it.
use mathlib.Core.Path.{◌≡◌}
use Rattle.pixel.specs.Pixel.{sample_at}
use Rattle.pixel.specs.Internal.{painted}
use Rattle.linear.specs.Mapping.{entry_at}
use Rattle.linear.proofs.map_cells.Given as goal

abbrev pub invariant-loop-i : goal.invariant-loop-i
invariant-loop-i l =
    l.values ≡ painted (λ k. entry_at l.descriptor l.entries (sample_at l.g l.pixels l.frame k)) l.i l.initial.values
