-- What the functions that make an answer ask: its fields fit 32 bits. Masked needs no bound: it is 0 or 1.
use Rattle.std.specs.Prelude.{◌<◌}
use Rattle.basics.specs.Fields.{Fields}

pub record Fits32 (a : Fields) : Type 0 where
  pub code : a.code < 4294967296
  pub offset : a.offset < 4294967296
  pub rows : a.rows < 4294967296
  pub rule : a.rule < 4294967296
  pub frame : a.frame < 4294967296
