-- The answer is that of `show`, and its numbers fit 32 bits since those of every answer are small.
use Rattle.c_show.proofs.Fits.{show-fits}
use Rattle.cabi.proofs.xa_show.Goals as goal

pub show_numbers-requires : goal.show_numbers-requires
show_numbers-requires c =
    rw c.show.ensures.answers.same (show-fits _ _ _ _)
