-- What the function that makes the answer asks: the numbers that it names fit 32 bits.
use Rattle.std.specs.Prelude.{◌<◌}
use Rattle.canonical.specs.Answer as canonical

pub record RewrittenFits32 (a : canonical.Rewritten) : Type 0 where
  pub code : a.answer.code < 4294967296
  pub offset : a.answer.offset < 4294967296
  pub rows : a.answer.rows < 4294967296
  pub size : a.size < 4294967296
