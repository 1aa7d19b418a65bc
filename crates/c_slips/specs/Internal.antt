-- What the functions that make an answer of a verdict ask: its numbers fit 32 bits.
use Rattle.std.specs.Prelude.{◌<◌}
use Rattle.verdict.specs.declared.Verdict.{Verdict}
use Rattle.c_slips.specs.Slips.{rows_number}

pub record VerdictFits32 (v : Verdict) : Type 0 where
  pub code : v.code < 4294967296
  pub rule : v.rule < 4294967296
  pub frame : v.frame < 4294967296
  pub offset : v.offset < 4294967296
  pub rows : rows_number v.rows < 4294967296
