-- Trimming behind, then in front, is the definition.
use mathlib.Core.Path.{ap, ◌∙◌}
use Rattle.value.specs.Text.{trim_start}
use Rattle.value.proofs.trimmed.Goals as goal

pub returns : goal.returns
returns c =
    c.trim_start.ensures ∙ ap (trim_start 0x20) c.trim_end.ensures
