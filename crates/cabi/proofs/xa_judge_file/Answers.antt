-- The answer is that of `judge_file_counted`, and its numbers fit 32 bits since those of every answer are small.
use Rattle.c_files.proofs.Fits.{judge-file-fits}
use Rattle.cabi.proofs.xa_judge_file.Goals as goal

pub counted_file_numbers-requires : goal.counted_file_numbers-requires
counted_file_numbers-requires c =
    rw c.judge_file_counted.ensures.answers.same (judge-file-fits _ _)
