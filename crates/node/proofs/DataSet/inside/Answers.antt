-- A node's first member is the node after it.
use native.Mathlib.Omega.{arith}
use Rattle.node.proofs.Laws.{tabled}
use Rattle.node.proofs.DataSet.inside.Goals as goal

pub overflow_add-i : goal.overflow_add-i
overflow_add-i c = omega (arith, c.requires, (tabled c.args.self.now).few)
