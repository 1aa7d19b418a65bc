-- The answer is that of `judge_counted`, and its numbers fit 32 bits since those of every answer are small.
use Rattle.c_judge.proofs.Fits.{judge-fits}
use Rattle.cabi.proofs.xa_judge.Goals as goal

pub counted_numbers-requires : goal.counted_numbers-requires
counted_numbers-requires c =
    rw c.judge_counted.ensures.answers.same (judge-fits _ _)
