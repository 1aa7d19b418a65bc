-- All digits after the point are read, so that what follows them is the end; the characters are too few for a number that does not fit.
use mathlib.Core.Path.{sym, ap, ◌∙◌}
use Prim.Native.Nat.{ℕ, ◌+◌}
use mathlib.Core.List.{List}
use native.Mathlib.Omega.{arith}
use Rattle.value.specs.Number.{end_of}
use Rattle.value.proofs.Forms as forms
use Rattle.basics.proofs.Lists as lists
use Rattle.value.proofs.point_of.Goals as goal

pub end_of-requires : goal.end_of-requires
end_of-requires c = (
  forms.number_fits c.args.whole c.args.s.now c.digits-d.result c.digits-d.ensures c.requires.1,
  omega (arith, c.digits-d.ensures.few),
)

pub returns : goal.returns
returns c =
    c.end_of.ensures
    ∙ ap (λ (l : List ℕ). end_of (c.args.before + c.digits-d.result.count) c.digits-d.result.number
    c.digits-d.result.count l) (lists.to_end c.args.s.now c.digits-d.result.count)
    ∙ sym (forms.point-is c.args.before c.args.whole c.args.s.now c.digits-d.result
    c.digits-d.ensures)
