-- Step 4 for whole pixels, as it was before quarters, for the theorem that both agree (`specs/Quarters`). The moves are whole rows and
-- columns here.
use Rattle.std.specs.Prelude.{ℕ, ◌+◌, ◌-◌, ◌*◌, ◌/◌, ◌%◌, min, Option, Some, None}
use Rattle.value.specs.declared.Signed.{Signed}
use Rattle.value.specs.declared.Signed.TheVariants.{Plus, Minus}
use Rattle.shift.specs.declared.Moves.{Moves}
use Rattle.pixel.specs.declared.Geometry.{Geometry}

-- A row or column r, of which there are `size`, minus the shift, limited to the picture's edges.
abbrev pub moved_by : Option Signed → ℕ → ℕ → ℕ
moved_by (Some (Plus n)) size r = r - n
moved_by (Some (Minus n)) size r = min (r + n) (size - 1)
moved_by None size r = r

-- The mask sample that sample i takes, that is cell (r - v, c - h) for cell (r, c).
unfoldable pub source_of : Geometry → Moves → ℕ → ℕ
source_of g m i = moved_by m.vertical g.rows (i / g.columns) * g.columns + moved_by m.horizontal g.columns (i % g.columns)
