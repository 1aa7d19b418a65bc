-- The definition is a signed number of up to 16 digits, and 16 digits make a number below 10^16.
use mathlib.Core.Path.{◌≡◌, sym, subst}
use Prim.Native.Nat.{◌^◌}
use Rattle.value.specs.Number.{characters, exponent_of}
use Rattle.value.specs.Internal.{SizeBelow}
use Rattle.value.proofs.Laws as laws
use Rattle.value.proofs.exponent_of.Goals as goal

pub returns : goal.returns
unfolding exponent_of
returns c =
    let e : c.signed_whole.result ≡ exponent_of c.args.s.now = c.signed_whole.ensures in
    (e, subst (SizeBelow (10 ^ characters)) (sym e) (laws.exponent-below c.args.s.now))
