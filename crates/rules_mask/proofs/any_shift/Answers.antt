-- Each frame's item is asked, with what the shared item has.
use mathlib.Core.Path.{refl, ◌∙◌}
use Rattle.std.proofs.Common.{rules, tests}
use Rattle.node.specs.Nodes.{nodes_of}
use Rattle.node.proofs.Asked.{any-is}
use Rattle.element.specs.Elements.{some}
use Rattle.rules.specs.Mask.{has_shift_group, any_shift}
use Rattle.rules_mask.proofs.Laws.{shift-apart}
use Rattle.rules_mask.proofs.any_shift.Goals as goal

pub returns : goal.returns
unfolding some any_shift
returns c =
    let has = has_shift_group (nodes_of c.args.set.now) c.args.shared in
    any-is has (some has) refl (λ _ _. refl) c.any.ensures.ran (c.members.ensures.value ∙ c.frame_items-items.ensures.ahead)
    (λ i b d k. rw (shift-apart (nodes_of c.args.set.now) c.args.shared i) (search (rules, tests)))
