-- Several values are no UID; a single one is compared without the zero bytes behind it, as the definition has it.
use Rattle.std.proofs.Common.{◌∙◌}
use Rattle.basics.proofs.Lists.{pointwise-same}
use Rattle.value.specs.Words.{is_uid}
use Rattle.value.proofs.is_uid.Goals as goal

pub returns-then-is_single : goal.returns-then-is_single
unfolding is_uid
returns-then-is_single c =
    c.eq.ensures
    ∙ rw (c.trim_end.ensures, c.value_of.ensures, ← c.is_single.ensures, c.if-is_single.true) (pointwise-same _ _)

pub returns-else-is_single : goal.returns-else-is_single
unfolding is_uid
returns-else-is_single c =
    rw (← c.is_single.ensures, c.if-is_single.false)
