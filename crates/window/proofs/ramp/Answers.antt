-- Up to the top of the ramp the quotient is at most 255, and the bounds keep every product from wrapping.
use Prim.Native.Nat.{◌+◌, ◌-◌, ◌*◌, ◌<◌}
use native.Mathlib.Omega.{arith}
use borrow.Author.Tests.{lt-ltb, le-ltb}
use Rattle.window.specs.Internal.{ramp_of}
use Rattle.window.proofs.Laws.{quotient-small}
use Rattle.window.proofs.ramp.Goals as goal

pub returns-then-w-d : goal.returns-then-w-d
unfolding ramp_of
returns-then-w-d c = (
  rw (lt-ltb (2 * c.args.w) (c.args.up - c.args.down + 2 * c.args.e) c.if-w-d.true),
  omega arith,
)

pub returns-else-w-d : goal.returns-else-w-d
unfolding ramp_of
returns-else-w-d c =
    let some : 0 < c.args.up - c.args.down = omega arith in (
      rw (le-ltb (2 * c.args.w) (c.args.up - c.args.down + 2 * c.args.e) c.if-w-d.false),
      quotient-small c.args.e (c.args.up - c.args.down) c.args.w some c.if-w-d.false,
    )
