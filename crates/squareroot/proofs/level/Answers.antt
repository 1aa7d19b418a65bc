-- `level` answers `root_level`: low × low ≤ t < high × high throughout, and at the end high is low + 1.
use mathlib.Core.Path.{◌≡◌, sym}
use Prim.Native.Nat.{ℕ, ◌+◌, ◌*◌, ◌/◌, ◌%◌, ◌≤◌, ◌<◌}
use native.Mathlib.Omega.{arith}
use Rattle.squareroot.specs.SquareRoot.{root_level}
use Rattle.squareroot.proofs.Roots.{square, root_is_lem}
use Rattle.squareroot.proofs.level.Goals as goal

pub overflow_mul-middle : goal.overflow_mul-middle
overflow_mul-middle c =
    let m : ℕ = (c.loop-low.low + c.loop-low.high) / 2 in
    let a : m * m ≤ 256 * 256 = square m 256 (omega arith) in
    omega arith

pub returns : goal.returns
unfolding root_level
returns c =
    let low : ℕ = c.loop-low.low in
    let t : ℕ = 4 * (c.args.v % 16384) in
    let e : c.loop-low.high ≡ low + 1 = omega arith in
    let a : t < (low + 1) * (low + 1) = rw e at c.loop-low.invariant.1.1.1 in
    sym (root_is_lem t low c.loop-low.invariant.1.1.0 a)
