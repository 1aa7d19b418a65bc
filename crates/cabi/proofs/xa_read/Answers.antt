-- The answer is that of `read`, and its numbers fit 32 bits since those of every answer are small.
use Rattle.c_read.proofs.Fits.{read_fits}
use Rattle.cabi.proofs.xa_read.Goals as goal

pub read_numbers-requires : goal.read_numbers-requires
read_numbers-requires c =
    rw c.read.ensures.answers.same (read_fits _ _)
