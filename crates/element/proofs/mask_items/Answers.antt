-- The items are those of the root's sequence of that tag.
use Rattle.element.specs.Frames.{mask_items}
use Rattle.element.proofs.mask_items.Goals as goal

pub returns : goal.returns
unfolding mask_items
returns c =
    c.items_root.ensures
