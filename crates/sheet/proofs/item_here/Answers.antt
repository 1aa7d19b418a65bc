-- The cursor stands on the frame's item, as long as any items are ahead.
use Rattle.sheet.proofs.Frames as frames
use Rattle.sheet.proofs.item_here.Goals as goal

pub returns-then-items : goal.returns-then-items
returns-then-items c =
    frames.item-some _ _ _ c.requires.0 c.requires.1 c.if-items.true

pub returns-else-items : goal.returns-else-items
returns-else-items c =
    frames.item-none _ _ _ c.requires.0 c.requires.1 c.if-items.false
