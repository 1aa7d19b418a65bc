-- The first number of a row is its tag.
use mathlib.Core.Path.{◌∙◌}
use native.Mathlib.Nat.{add-zero}
use Rattle.node.proofs.Laws as laws
use Rattle.node.proofs.DataSet.tag.Goals as goal

pub returns : goal.returns
returns c =
    rw add-zero at c.number.ensures ∙ laws.tag_is c.args.self.now _ (laws.tabled _) c.args.i c.requires
