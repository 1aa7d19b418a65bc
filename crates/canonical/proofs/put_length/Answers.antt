-- An item has its length alone; a VR has its letters, then 16 bits, or two zero bytes and 32 bits.
use mathlib.Core.Path.{sym, ◌∙◌}
use native.Mathlib.Omega.{arith}
use Rattle.canonical.specs.Written.{letters}
use Rattle.canonical.proofs.Shape.{head-long, head-least}
use Rattle.canonical.proofs.Puts.{form-long, item-puts, short-puts, long-puts}
use Rattle.canonical.proofs.put_length.Goals as goal

pub put_number-requires-clause-within : goal.put_number-requires-clause-within
put_number-requires-clause-within c = omega (arith, head-least c.args.vr, c.requires)

pub put_bytes-requires : goal.put_bytes-requires
put_bytes-requires c = omega (arith, head-least c.args.vr, c.requires)

pub put_number-requires-else-head-eq12-clause-within : goal.put_number-requires-else-head-eq12-clause-within
put_number-requires-else-head-eq12-clause-within c = omega (arith, head-least c.args.vr, c.requires)

pub returns-then-vr-eq0 : goal.returns-then-vr-eq0
returns-then-vr-eq0 c =
    item-puts c.args.vr c.args.size c.if-vr-eq0.true c.put_number.ensures

pub returns-then-head-eq12 : goal.returns-then-head-eq12
unfolding letters
returns-then-head-eq12 c =
    long-puts c.args.vr c.args.size c.if-vr-eq0.false c.put_bytes.ensures
    (form-long c.args.vr (sym c.requires.0 ∙ c.if-head-eq12.true)) c.put_number-then-head-eq12.ensures
    c.put_number-then-head-eq12-2.ensures

pub returns-else-head-eq12 : goal.returns-else-head-eq12
unfolding letters
returns-else-head-eq12 c =
    short-puts c.args.vr c.args.size c.if-vr-eq0.false c.put_bytes.ensures
    (λ e. c.if-head-eq12.false (c.requires.0 ∙ head-long c.args.vr e)) c.put_number-else-head-eq12.ensures
