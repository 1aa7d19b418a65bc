-- Each item is asked.
use mathlib.Core.Path.{refl}
use Rattle.std.proofs.Common.{rules, tests}
use Rattle.node.specs.Nodes.{nodes_of}
use Rattle.node.proofs.Asked.{all-is}
use Rattle.element.specs.Elements.{every}
use Rattle.rules_mask.specs.Internal.{item_fits}
use Rattle.rules_mask.proofs.all_fit.Goals as goal

pub returns : goal.returns
unfolding every
returns c =
    let fits = item_fits (nodes_of c.args.set.now) c.args.question in
    all-is fits (every fits) refl (λ _ _. refl) c.all.ensures.ran c.members.ensures.value (λ i b d k. search (rules, tests))
