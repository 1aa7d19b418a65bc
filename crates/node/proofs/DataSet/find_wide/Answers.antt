-- The element sought is the first whose tag is not below, if it has that tag.
use Rattle.node.proofs.Laws as laws
use mathlib.Core.Path.{refl, sym, ap, ◌∙◌}
use Rattle.node.specs.Nodes.{nodes_of, members}
use Rattle.node.specs.Internal.{first_is}
use Rattle.node.proofs.Halves as halves
use Rattle.node.proofs.DataSet.find_wide.Goals as goal

pub reach-i-requires : goal.reach-i-requires
reach-i-requires c =
    let p = c.requires in
    (p, refl)

pub first_is-requires : goal.first_is-requires
first_is-requires c =
    let p = c.requires in
    p.ends

pub returns : goal.returns
returns c =
    let a = c.args in
    let p = c.requires in
    let ns = nodes_of a.self.now in record {
      value = c.first_is.ensures.value ∙ ap (first_is ns a.wanted) c.reach-i.ensures
          ∙ sym (halves.find_first ns a.wanted 0 (members ns a.up a.to)
          (halves.container-ascends _ _ (laws.tabled _) a.up a.to p));
      below = c.first_is.ensures.below;
    }
