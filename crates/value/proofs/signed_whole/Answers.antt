-- Both sides read the digits after the sign, and give their number the sign.
use Rattle.value.specs.Number.{signed_by}
use Rattle.value.proofs.signed_whole.Goals as goal

pub returns : goal.returns
unfolding signed_by
returns c = rw (c.with_sign.ensures, c.whole_of.ensures, ← c.split_sign-minus.ensures.minus, ← c.split_sign-minus.ensures.rest)
