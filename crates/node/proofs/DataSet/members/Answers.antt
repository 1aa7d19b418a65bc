-- The walk starts at the first member, and each member is a node before `to`.
use native.Mathlib.Omega.{arith}
use Rattle.node.specs.Nodes.{nodes_of}
use Rattle.node.proofs.Laws.{tabled}
use Rattle.node.proofs.Walks.{members-below, members-few, walk-runs}
use Rattle.node.proofs.DataSet.members.Goals as goal

pub returns-clause-known : goal.returns-clause-known
returns-clause-known c = members-below _ _ _ _ c.requires

pub returns-clause-few : goal.returns-clause-few
returns-clause-few c =
    omega (arith, c.requires, members-few (nodes_of c.args.self.now) c.args.from c.args.to, (tabled c.args.self.now).few)

pub returns-clause-runs : goal.returns-clause-runs
returns-clause-runs c = walk-runs
