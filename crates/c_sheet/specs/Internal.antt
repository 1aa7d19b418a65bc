-- What the function that hands over a sheet asks: the numbers of its answer fit 32 bits, and it has a count for each level.
use Rattle.std.specs.Prelude.{◌≡◌, length}
use Rattle.sheet.specs.declared.Sampled.{Sampled}
use Rattle.sheet.specs.Answer.{fields_of}
use Rattle.c_answers.specs.Internal.{Fits32}

pub record SheetFits32 (r : Sampled) : Type 0 where
  pub answer : Fits32 (fields_of r.answer)
  pub counts : length r.sheet.counts ≡ 256
