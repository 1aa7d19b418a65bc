-- Each item is asked its ID.
use mathlib.Core.Path.{refl}
use lib.Dec.{eqb}
use Rattle.std.proofs.Common.{rules, tests}
use Rattle.node.specs.Nodes.{nodes_of}
use Rattle.node.proofs.Asked.{any-is}
use Rattle.rules.specs.Frame.{is_in}
use Rattle.ids.specs.Internal.{id_of, ids_of}
use Rattle.ids.proofs.is_among.Goals as goal

pub returns : goal.returns
returns c =
    let ns = nodes_of c.args.set.now in
    any-is (λ i. eqb c.args.id (id_of ns i)) (λ is. is_in c.args.id (ids_of ns is)) refl (λ _ _. refl) c.any.ensures.ran
    c.members.ensures.value (λ i b d k. search (rules, tests))
