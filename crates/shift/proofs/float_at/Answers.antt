-- The four bytes are the bit pattern of the float.
use Rattle.std.proofs.Common.{ap, ◌∙◌}
use lib.Ieee.{of_bits, binary32}
use Rattle.shift.proofs.float_at.Goals as goal

pub returns : goal.returns
returns c =
    c.float_of.ensures ∙ ap (of_bits binary32) c.u32_at.ensures.0
