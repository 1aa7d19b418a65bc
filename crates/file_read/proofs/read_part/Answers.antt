-- Reading leaves the data set's rows in the buffer.
use Rattle.node.proofs.After.{after-reading}
use Rattle.file_read.proofs.read_part.Goals as goal

pub new-set-requires : goal.new-set-requires
new-set-requires c = (after-reading _ _ _ _ c.in_ok-n.ensures.answers.same c.in_ok-n.ensures.rows_after).1
