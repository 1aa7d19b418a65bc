-- The products fit, since the frame lies inside the pixel bytes.
use native.Mathlib.Omega.{arith}
use Rattle.frame.proofs.Laws.{frame-fits}
use Rattle.frame.proofs.frame_part.Goals as goal

pub overflow_mul-rows : goal.overflow_mul-rows
overflow_mul-rows c = omega (arith, frame-fits _ _ _ _ _ c.requires)

pub overflow_mul-rows-2 : goal.overflow_mul-rows-2
overflow_mul-rows-2 c = omega (arith, frame-fits _ _ _ _ _ c.requires)

pub block-requires : goal.block-requires
block-requires c = (frame-fits _ _ _ _ _ c.requires).0
