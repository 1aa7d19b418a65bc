-- The answer is that of `linear`, and its numbers fit 32 bits since those of every answer are small.
use Rattle.c_linear.proofs.Fits.{linear-fits}
use Rattle.cabi.proofs.xa_linear.Goals as goal

pub linear_numbers-requires : goal.linear_numbers-requires
linear_numbers-requires c =
    rw c.linear.ensures.answers.same (linear-fits _ _ _ _)
