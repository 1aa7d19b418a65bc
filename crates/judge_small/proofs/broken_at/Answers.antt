-- The answer is handed on, and the row is that of the frame's item.
use Rattle.judge_small.proofs.broken_at.Goals as goal

pub returns : goal.returns
returns c =
    rw c.item_row-row.ensures
