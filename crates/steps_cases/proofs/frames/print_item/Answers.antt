-- There are fewer members before the item than nodes.
use native.Mathlib.Omega.{arith}
use Rattle.node.specs.Nodes.{nodes_of}
use Rattle.node.proofs.Laws as node_laws
use Rattle.node.proofs.Walks.{members-few}
use Rattle.steps_cases.proofs.frames.print_item.Goals as goal

pub overflow_add-count_members : goal.overflow_add-count_members
overflow_add-count_members g c =
    let few = members-few (nodes_of c.args.set.now) c.mask_items-items.result.at c.args.j in
    omega (arith, c.requires.0, c.count_members.ensures, (node_laws.tabled c.args.set.now).few)
