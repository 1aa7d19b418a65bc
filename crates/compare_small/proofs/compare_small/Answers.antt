-- The buffer has seven numbers for each 8 bytes that there may be, so the rows fit.
use mathlib.Core.Path.{◌∙◌}
use native.Mathlib.Omega.{arith}
use Rattle.compare_small.proofs.Buffers.{roomy-compare}
use Rattle.compare_small.proofs.compare_small.Goals as goal

pub returns : goal.returns
returns c =
    c.compare.ensures.answers.same ∙ roomy-compare _ _ _ _ _ (omega (arith, c.row_buffer-rows.ensures, c.requires))
