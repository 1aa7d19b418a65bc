-- The table is that of the bytes, and a row of it starts for each node.
use Prim.Native.Nat.{ℕ, ◌+◌, ◌*◌}
use mathlib.Core.List.{List}
use mathlib.Core.Path.{subst, ap}
use native.Mathlib.Omega.{arith}
use lib.ListN.{get_or}
use Rattle.dataset.specs.Answer.{width}
use Rattle.node.specs.Internal.{Table}
use Rattle.node.proofs.DataSet.number.Goals as goal

pub offset_bounds-rows-i : goal.offset_bounds-rows-i
offset_bounds-rows-i c =
    let t = subst (λ (s : List ℕ). Table s c.self.inside.rows.now) c.self.view_is c.self.invariant in
    omega (arith, c.requires.within, c.requires.placed, t.size)

pub returns : goal.returns
returns c =
    let t = subst (λ (s : List ℕ). Table s c.self.inside.rows.now) c.self.view_is c.self.invariant in
    ap (λ (l : List ℕ). get_or l (width * c.args.i + c.args.k) 0) t.is
