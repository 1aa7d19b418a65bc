-- The range is the block's, and a part of a slice starts that many bytes past it.
use mathlib.Core.Path.{◌≡◌, refl}
use Prim.Native.Nat.{◌+◌, ◌-◌, ◌*◌}
use native.Mathlib.Omega.{arith}
use borrow.Author.Rules.{rules}
use Rattle.frame.proofs.block.Goals as goal

pub returns : goal.returns
returns c =
    let e : c.args.k * c.args.size + c.args.size - c.args.k * c.args.size
    ≡ c.args.size = omega arith in
    record { inside = search rules; block = refl; place = omega arith; bytes = rw e }
