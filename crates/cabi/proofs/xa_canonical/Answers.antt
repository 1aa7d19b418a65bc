-- The answer is that of `write_canonical`, and its numbers fit 32 bits since those of every answer are small.
use Rattle.c_canonical.proofs.Fits.{canonical-fits}
use Rattle.cabi.proofs.xa_canonical.Goals as goal

pub canonical_numbers-requires : goal.canonical_numbers-requires
canonical_numbers-requires c =
    rw c.write_canonical.ensures.answers.same (canonical-fits _ _ _)
