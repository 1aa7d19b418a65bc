-- `is_marked` compares the first three bytes with the mark, as the definition does.
use mathlib.Core.Path.{sym, ◌∙◌}
use lib.Seq.{length-take-le}
use Rattle.basics.proofs.Lists.{pointwise-same}
use Rattle.slip.proofs.is_marked.Goals as goal

pub slice_bounds-eq-end : goal.slice_bounds-eq-end
slice_bounds-eq-end c = sym (length-take-le 3 c.args.s.now c.requires)

pub returns : goal.returns
returns c = c.eq.ensures ∙ pointwise-same _ _
