-- The root is a container too.
use Rattle.node.proofs.Laws as laws
use Rattle.node.proofs.Halves as halves
use Rattle.node.proofs.DataSet.find_root.Goals as goal

pub find_wide-requires : goal.find_wide-requires
find_wide-requires c =
    let p = (laws.tabled _) in
    halves.root-container _ _ p _ c.count.ensures.0

pub returns : goal.returns
returns c = rw (← c.count.ensures.0) c.find_wide.ensures
