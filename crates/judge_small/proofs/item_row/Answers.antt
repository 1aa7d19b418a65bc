-- The row of node i is number i + 1.
use native.Mathlib.Omega.{arith}
use Rattle.node.proofs.Laws as node_laws
use Rattle.judge_small.proofs.item_row.Goals as goal

pub overflow_add-result : goal.overflow_add-result
overflow_add-result c =
    omega (arith, node_laws.within _ c.in-Some.is c.item_at.ensures.below, (node_laws.tabled c.args.set.now).few)

pub returns-in-Some : goal.returns-in-Some
returns-in-Some c =
    rw (node_laws.had c.in-Some.is c.item_at.ensures.value)

pub returns-in-None : goal.returns-in-None
returns-in-None c =
    rw (node_laws.had-none c.in-None.is c.item_at.ensures.value)
