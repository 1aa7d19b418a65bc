-- Of one item alone there is no other.
use borrow.Author.Tests.{le-leb}
use Rattle.node.specs.Nodes.{nodes_of}
use Rattle.node.proofs.Walks.{members-end, members-next}
use Rattle.rules.specs.Frame.{unique, unique_ids}
use native.Mathlib.Omega.{arith}
use Rattle.node.specs.Nodes.{next_node}
use Rattle.rules_frame.proofs.ids_differ.Goals as goal

pub returns-then-next-to : goal.returns-then-next-to
unfolding unique_ids unique
returns-then-next-to c =
    let a = c.args in
    let ns = nodes_of a.set.now in
    rw (
      le-leb _ _ c.if-next-to.true,
      members-next ns a.from a.to c.requires.0,
      members-end ns (next_node ns a.from) a.to (omega (arith, c.next.ensures.0, c.if-next-to.true)),
    )
