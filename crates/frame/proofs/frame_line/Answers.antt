-- The line is a part of the view's bytes, and these are a part of the pixel bytes.
use Rattle.frame.proofs.Laws.{line-part}
use Rattle.frame.proofs.frame_line.Goals as goal

pub returns : goal.returns
returns c = line-part _ _ _ _ _ _ _ _ c.view.ensures c.line.ensures
