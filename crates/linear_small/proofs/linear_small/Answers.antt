-- A frame is mapped only where the object was accepted; then its rows stand in the buffer, and its size is read from them.
-- The buffer has seven numbers for each 8 bytes that there may be, so the rows fit.
use mathlib.Core.Path.{refl, sym, ◌∙◌}
use Prim.Native.Nat.{◌*◌, ◌≤◌}
use native.Mathlib.Omega.{arith}
use lib.ListN.{length}
use Rattle.dataset.specs.Answer.{width}
use Rattle.show_small.proofs.Roomy.{bare}
use Rattle.linear_small.proofs.Roomy as laws
use Rattle.linear_small.proofs.linear_small.Goals as goal

pub new-set-requires : goal.new-set-requires
new-set-requires c =
    laws.rows-are _ _ _ _ _ _ c.linear-answer.ensures.answers.same c.in-Ok.is c.linear-answer.ensures.rows_after

pub returns-in_default : goal.returns-in_default
returns-in_default c =
    let h : width * length c.args.bytes.now ≤ 8 * length c.row_buffer-rows.result = omega (arith, c.row_buffer-rows.ensures, c.requires) in
    let e = laws.mapped-as _ _ _ _ h c.linear-answer.ensures.answers.same c.in_default.is
    (bare c.default.ensures.0 c.default.ensures.1) in record {
      value = e;
      values_after = laws.values-as _ _ _ _ h c.linear-answer.ensures.values_after;
      width_in_bounds = laws.fits _ _ _ _ e;
    }

pub returns : goal.returns
returns c =
    let h : width * length c.args.bytes.now ≤ 8 * length c.row_buffer-rows.result = omega (arith, c.row_buffer-rows.ensures, c.requires) in
    let e = laws.mapped-as _ _ _ _ h (sym c.in-Ok.is ∙ c.linear-answer.ensures.answers.same) refl (rw c.new-set.ensures at c.sides_of.ensures) in record {
      value = e;
      values_after = laws.values-as _ _ _ _ h c.linear-answer.ensures.values_after;
      width_in_bounds = laws.fits _ _ _ _ e;
    }
