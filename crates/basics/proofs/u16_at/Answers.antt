-- Both bytes are below 256, so the sum is below 65,536.
use native.Mathlib.Omega.{arith}
use Rattle.basics.specs.Bytes.{le16}
use Rattle.basics.proofs.u16_at.Goals as goal

pub returns : goal.returns
unfolding le16
returns c = omega arith
