-- The items are searched in order. Where the step gives an answer, the sequence is one and each range asked is one.
use mathlib.Core.Path.{◌∙◌}
use Rattle.steps.proofs.Laws as laws
use Rattle.steps.proofs.mask_item.Goals as goal

pub returns-clause-frame_value : goal.returns-clause-frame_value
returns-clause-frame_value c =
    laws.found-given _ _ c.requires _ (rw (← c.mask_items-items.ensures.ahead) c.first_holding.ensures.result_value)
