-- Lines follow one another in the picture, so r lines counted are its first r · columns cells counted; each line leaves what the next one
-- takes by the same way.
use Prim.Native.Nat.{◌*◌, ◌≤◌}
use lib.ListN.{length}
use Rattle.value.specs.Number.{us_values}
use Rattle.lines.specs.Internal.{shades_of, WayReady, way_shade}
use Rattle.basics.specs.Lists.{up_to}
use Rattle.sheet.specs.Internal.{tallied}
use mathlib.Core.Path.{◌≡◌}
use Rattle.sheet.proofs.count_lines.Given as goal

abbrev pub invariant-loop-row : goal.invariant-loop-row
invariant-loop-row l =
    (l.row ≤ l.g.rows) × ((length l.upper ≡ length l.initial.upper) × ((length l.lower ≡ length l.initial.lower)
    × (WayReady l.way l.pixels l.g l.masks l.shades.filled l.row l.upper l.lower × ((length l.line ≡ length l.initial.line)
    × (l.sofar ≡ tallied (up_to (way_shade l.way (shades_of l.shades l.g.stored) l.g l.pixels l.frame (us_values l.masks)) (l.row * l.g.columns)) l.initial.sofar)))))
