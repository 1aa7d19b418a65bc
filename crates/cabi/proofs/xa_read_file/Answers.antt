-- The answer is that of `read_file`, and its numbers fit 32 bits since those of every answer are small.
use Rattle.c_files.proofs.Fits.{read-file-fits}
use Rattle.cabi.proofs.xa_read_file.Goals as goal

pub read_file_numbers-requires : goal.read_file_numbers-requires
read_file_numbers-requires c =
    rw c.read_file.ensures.answers.same (read-file-fits _ _)
