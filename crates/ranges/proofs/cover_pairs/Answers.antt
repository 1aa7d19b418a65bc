-- Some pair holds a frame just where the pairs that start up to it reach as far as it.
use Rattle.ranges.proofs.Items as items
use Rattle.ranges.proofs.cover_pairs.Goals as goal

pub returns : goal.returns
returns c =
    items.covered-pairs _ _ _ _ _ _ _ c.clear.ensures c.mark.ensures c.cover.ensures
