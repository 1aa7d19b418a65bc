-- `entry` works its number out: the square of a level is at most 65,025.
use Prim.Native.Nat.{◌≤◌}
use native.Mathlib.Omega.{arith}
use borrow.Author.Rules.{rules}
use Rattle.squareroot.specs.SquareRoot.{root_entry}
use Rattle.squareroot.proofs.Roots.{square}
use Rattle.squareroot.proofs.entry.Goals as goal

pub overflow_mul-result : goal.overflow_mul-result
overflow_mul-result c =
    let low : c.from-n.result ≤ 255 = omega (arith, c.well_formed.0.1) in
    omega (arith, square c.from-n.result 255 low)

pub overflow_add-result : goal.overflow_add-result
overflow_add-result c =
    let low : c.from-n.result ≤ 255 = omega (arith, c.well_formed.0.1) in
    omega (arith, square c.from-n.result 255 low)

pub overflow_cast-result : goal.overflow_cast-result
overflow_cast-result c =
    let low : c.from-n.result ≤ 255 = omega (arith, c.well_formed.0.1) in
    omega (arith, square c.from-n.result 255 low)

pub returns : goal.returns
unfolding root_entry
returns c = search rules
