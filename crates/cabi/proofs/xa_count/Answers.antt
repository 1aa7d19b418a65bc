-- The answer is that of `count`, and its numbers fit 32 bits since those of every answer are small.
use Rattle.c_read.proofs.Fits.{rows_fit_lem}
use Rattle.cabi.proofs.xa_count.Goals as goal

pub read_numbers-requires : goal.read_numbers-requires
read_numbers-requires c =
    rw c.count.ensures.same (rows_fit_lem _)
