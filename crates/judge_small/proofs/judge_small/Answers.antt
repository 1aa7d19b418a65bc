-- The buffer has seven numbers for each 8 bytes that there may be, so the rows fit.
use mathlib.Core.Path.{◌∙◌}
use native.Mathlib.Omega.{arith}
use Rattle.judge_small.proofs.Room.{roomy}
use Rattle.judge_small.proofs.judge_small.Goals as goal

pub returns : goal.returns
returns c =
    c.judge.ensures.answers.same ∙ roomy _ _ (omega (arith, c.row_buffer-rows.ensures, c.requires))
