-- Without its sign the float has the same size, and a negative one is not zero (`Floats`).
use Rattle.std.proofs.Common.{true, false, sym, ap, ◌∙◌, rules}
use Rattle.value.specs.Number.{with_sign}
use Rattle.shift.specs.Internal.{too_far}
use Rattle.shift.proofs.Floats.{neg_low, short-plus, short-minus}
use Rattle.shift.proofs.short_of.Goals as goal

pub short_size-requires : goal.short_size-requires
short_size-requires c = neg_low _ c.if-x.true

pub returns-then-x-clause-value : goal.returns-then-x-clause-value
returns-then-x-clause-value c = rw (short-minus _ c.if-x.true, ← c.short_size.ensures.value) (search rules)

pub returns-else-x-clause-value : goal.returns-else-x-clause-value
returns-else-x-clause-value c = rw (short-plus _ c.if-x.false, ← c.short_size-else-x.ensures.value) (search rules)
