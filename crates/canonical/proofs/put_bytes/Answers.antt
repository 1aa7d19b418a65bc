-- Each turn puts one byte, and what is left of the bytes goes behind it.
use native.Mathlib.Omega.{arith}
use Rattle.canonical.proofs.Puts.{value-first, value-next, value-last}
use Rattle.canonical.proofs.put_bytes.Goals as goal

pub loop-i-init : goal.loop-i-init
loop-i-init c =
    value-first _ _ _

pub loop-i-preserved : goal.loop-i-preserved
loop-i-preserved c =
    value-next c.loop-i.invariant (omega arith)

pub returns : goal.returns
returns c =
    value-last c.loop-i.invariant (omega arith)
