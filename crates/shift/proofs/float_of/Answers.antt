-- A pattern above infinity without its sign is a NaN's, and 0 / 0 is a NaN; any other is taken as it stands.
use Rattle.std.proofs.Common.{Bool, not, T, sym, ◌∙◌, subst, le-ltb, lt-ltb}
use lib.Ieee.{of_bits, div, binary32}
use lib.Ieee.Bits.{nan_bits_is, nan_bits_above}
use Rattle.shift.proofs.Floats.{nan-of}
use Rattle.shift.proofs.float_of.Goals as goal

pub float_from_bits-result : goal.float_from_bits-result
float_from_bits-result c =
    subst (λ (b : Bool). T (not b)) (sym (nan_bits_above binary32 c.args.bits ∙ le-ltb _ _ c.if-bits-gt-INFINITY.false)) tt

pub returns-then-bits-gt-INFINITY : goal.returns-then-bits-gt-INFINITY
unfolding of_bits div
returns-then-bits-gt-INFINITY c =
    sym (nan-of (of_bits binary32 c.args.bits)
    (sym (nan_bits_is binary32 c.args.bits) ∙ nan_bits_above binary32 c.args.bits ∙ lt-ltb _ _ c.if-bits-gt-INFINITY.true))
