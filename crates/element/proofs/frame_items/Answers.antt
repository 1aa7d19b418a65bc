-- The items are those of the root's sequence of that tag.
use Rattle.element.specs.Frames.{frame_items}
use Rattle.element.proofs.frame_items.Goals as goal

pub returns : goal.returns
unfolding frame_items
returns c =
    c.items_root.ensures
