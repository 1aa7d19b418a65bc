-- The steps can lack, in every line of the list `lacking`: nothing is left open on either side, so both are worked out, and are
-- the same.
use Rattle.std.specs.Prelude.{None}
use mathlib.Core.Path.{◌≡◌, refl}
use mathlib.Core.List.{map}
use lib.Ieee.{odd, of_fields, of_bits}
use Rattle.shift.specs.Shift.{quarters_of, item_shift, frame_shift}
use Rattle.steps.specs.Steps.{naming, masked_cell}
use Rattle.window.specs.declared.Window.{Window}
use Rattle.samples.proofs.Worked.{drawing}
use Rattle.lacking.specs.Lacking.{lacking, cell_of_no_frame}

-- Each line is not accepted, and the steps give what it says.
pub steps-lack : map (λ k. k.gives) lacking ≡ map (λ k. k.says) lacking
unfolding drawing odd of_fields of_bits quarters_of item_shift frame_shift naming
steps-lack = refl

-- A cell that would divide by 0 lacks.
pub cell-lacks : (w : Window) → cell_of_no_frame w ≡ None
unfolding masked_cell
cell-lacks w = refl
