-- Both sides read the size after the sign, and give it the sign.
use Rattle.value.specs.Number.{signed_by}
use Rattle.value.proofs.signed_size.Goals as goal

pub returns : goal.returns
unfolding signed_by
returns c = rw (c.with_sign.ensures, c.size_of.ensures, ← c.split_sign-minus.ensures.minus, ← c.split_sign-minus.ensures.rest)
