-- Parting, trimming and comparing are the steps of the definition.
use Rattle.std.proofs.Common.{◌∙◌}
use Rattle.basics.proofs.Lists.{pointwise-same}
use Rattle.value.specs.Words.{word_at}
use Rattle.value.proofs.is_word_at.Goals as goal

pub returns : goal.returns
unfolding word_at
returns c = c.eq.ensures ∙ rw (c.trimmed.ensures, c.value_of.ensures) (pointwise-same _ _)
