-- A level is below 256 and so fits a byte.
use native.Mathlib.Omega.{arith}
use Rattle.squareroot.proofs.Derivation.{derivation}
use Rattle.c_linear.proofs.root_level.Goals as goal

pub overflow_cast-result : goal.overflow_cast-result
overflow_cast-result c =
    record { fits = omega (arith, c.level.ensures, derivation.eight c.args.cell) }
