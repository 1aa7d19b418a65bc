-- An item's members start behind it and ascend, which is all that the plain search asks.
use Rattle.node.proofs.Laws.{tabled}
use Rattle.node.proofs.Halves.{inside-ascends}
use Rattle.searches.proofs.look_item.Goals as goal

pub look-requires : goal.look-requires
look-requires c =
    let n = c.next-end.ensures in
    (n.1, rw n.0 (inside-ascends _ _ (tabled c.args.set.now) c.args.item c.requires))
