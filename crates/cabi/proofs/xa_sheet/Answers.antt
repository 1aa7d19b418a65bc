-- The answer is that of `sheet`, and its numbers fit 32 bits since those of every answer are small.
use Rattle.c_sheet.proofs.Fits.{sheet-fits}
use Rattle.cabi.proofs.xa_sheet.Goals as goal

pub sheet_numbers-requires : goal.sheet_numbers-requires
sheet_numbers-requires c =
    rw c.sheet.ensures.answers.same (sheet-fits _ _ _ _)
