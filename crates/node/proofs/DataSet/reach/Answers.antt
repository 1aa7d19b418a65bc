-- Where plain steps did not come so far, halves do.
use Rattle.node.proofs.Laws as laws
use Rattle.std.specs.Prelude.{Option, ℕ}
use mathlib.Core.Path.{◌∙◌, subst}
use Rattle.node.specs.Nodes.{nodes_of}
use Rattle.node.specs.Internal.{Nearby}
use Rattle.node.proofs.Halves as halves
use Rattle.node.proofs.DataSet.reach.Goals as goal

pub near-requires : goal.near-requires
near-requires c =
    let p = c.requires in
    p.0.ends

pub first_from-requires : goal.first_from-requires
first_from-requires c =
    let p = c.requires in
    p.0

pub returns-in-Some : goal.returns-in-Some
returns-in-Some c =
    let a = c.args in
    subst (λ (x : Option ℕ). Nearby (nodes_of a.self.now) a.wanted a.from a.to x) c.in-Some.is c.near.ensures
    ∙ c.requires.1

pub returns-in-None : goal.returns-in-None
returns-in-None c =
    let a = c.args in
    let p = c.requires in
    halves.first-goes-on _ _ (laws.tabled _) a.up a.to p.0 a.wanted _ c.first_from.ensures
