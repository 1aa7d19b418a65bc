-- The second number of a row is its VR.
use Rattle.node.proofs.Laws as laws
use mathlib.Core.Path.{◌∙◌}
use Rattle.node.proofs.DataSet.vr.Goals as goal

pub returns : goal.returns
returns c =
    c.number.ensures ∙ laws.vr-is c.args.self.now _ (laws.tabled _) c.args.i c.requires
