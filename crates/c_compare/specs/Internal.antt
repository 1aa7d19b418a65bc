-- What the function that makes the answer asks: its numbers fit 32 bits.
use Rattle.std.specs.Prelude.{◌<◌}
use Rattle.compare.specs.Answer as comparing
use Rattle.c_answers.specs.Internal.{Fits32}

pub record CompareFits32 (a : comparing.Compared) : Type 0 where
  pub answer : Fits32 a.answer
  pub first : a.first < 4294967296
  pub count : a.count < 4294967296
