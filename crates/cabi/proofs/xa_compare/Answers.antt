-- The answer is that of `compare`, and its numbers fit 32 bits since those of every answer are small.
use native.Mathlib.Omega.{arith}
use Rattle.c_compare.proofs.Fits.{compare-fits}
use Rattle.cabi.proofs.xa_compare.Goals as goal

pub compare_numbers-requires : goal.compare_numbers-requires
compare_numbers-requires c =
    rw c.compare.ensures.answers.same (compare-fits _ (λ i. omega (arith, c.type_inv.bytes i)) _ _ _ _)
