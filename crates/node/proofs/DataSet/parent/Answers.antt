-- The seventh number of a row is its parent.
use mathlib.Core.Path.{◌∙◌}
use Rattle.node.proofs.Laws as laws
use Rattle.node.proofs.DataSet.parent.Goals as goal

pub returns : goal.returns
returns c =
    c.number.ensures ∙ laws.parent_is c.args.self.now _ (laws.tabled _) c.args.i c.requires
