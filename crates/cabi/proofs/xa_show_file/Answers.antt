-- The answer is that of `show_file`, and its numbers fit 32 bits since those of every answer are small.
use Rattle.c_files.proofs.Fits.{show-file-fits}
use Rattle.cabi.proofs.xa_show_file.Goals as goal

pub show_file_numbers-requires : goal.show_file_numbers-requires
show_file_numbers-requires c =
    rw c.show_file.ensures.answers.same (show-file-fits _ _ _ _)
