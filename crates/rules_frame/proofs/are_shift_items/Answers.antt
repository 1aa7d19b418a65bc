-- Each item is asked.
use mathlib.Core.Path.{refl}
use Rattle.std.proofs.Common.{rules, tests}
use Rattle.node.specs.Nodes.{nodes_of}
use Rattle.node.proofs.Asked.{all-is}
use Rattle.element.specs.Elements.{every}
use Rattle.rules.specs.Frame.{is_shift_item}
use Rattle.rules_frame.proofs.are_shift_items.Goals as goal

pub returns : goal.returns
unfolding every
returns c =
    let asked = is_shift_item (nodes_of c.args.set.now) in
    all-is asked (every asked) refl (λ _ _. refl) c.all.ensures.ran c.members.ensures.value (λ i b d k. search (rules, tests))
