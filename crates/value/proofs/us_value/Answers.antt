-- Each value takes two bytes, so value k stands at byte 2k.
use mathlib.Core.Path.{sym, ◌∙◌}
use Rattle.value.proofs.Laws as laws
use Rattle.value.proofs.us_value.Goals as goal

pub returns : goal.returns
returns c = record {
  value = c.u16_at.ensures.0 ∙ sym (laws.us_values-at c.args.v.now c.args.k c.requires);
  upper_bound = c.u16_at.ensures.1;
}
