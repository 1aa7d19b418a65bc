-- The two halves of the tag and what follows them are put side by side, and fill the header.
use native.Mathlib.Omega.{arith}
use Rattle.canonical.proofs.Shape.{head-least}
use Rattle.canonical.proofs.Puts.{header-puts}
use Rattle.canonical.proofs.put_header.Goals as goal

pub put_number-requires-clause-within : goal.put_number-requires-clause-within
put_number-requires-clause-within c = omega (arith, head-least c.args.vr, c.requires)

pub put_number-requires-2-clause-within : goal.put_number-requires-2-clause-within
put_number-requires-2-clause-within c = omega (arith, head-least c.args.vr, c.requires)

pub returns : goal.returns
returns c =
    header-puts c.args.tag c.args.vr c.args.size c.put_number.ensures c.put_number-2.ensures
    c.put_length.ensures
