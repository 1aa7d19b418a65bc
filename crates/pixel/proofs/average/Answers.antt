-- The product does not pass 64 bits, and its quotient by 2^32 is the average (`Division`).
use native.Mathlib.Omega.{arith}
use Rattle.pixel.proofs.Division.{product, by_product}
use Rattle.pixel.proofs.average.Goals as goal

pub overflow_mul-result-2 : goal.overflow_mul-result-2
overflow_mul-result-2 c =
    rw c.requires.1.1.1 (omega (arith, product c.args.sum c.args.n c.requires.0 c.requires.1.0 c.requires.1.1.0))

pub returns : goal.returns
returns c =
    rw c.requires.1.1.1 (by_product _ _ c.requires.0 c.requires.1.0 c.requires.1.1.0)
