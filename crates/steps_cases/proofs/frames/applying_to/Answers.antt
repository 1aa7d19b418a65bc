-- The sequence is a node, so the next number is far from wrapping.
use native.Mathlib.Omega.{arith}
use lib.ListN.{length}
use Rattle.node.specs.Nodes.{nodes_of}
use Rattle.node.proofs.Laws as node_laws
use Rattle.steps_cases.proofs.frames.applying_to.Goals as goal

pub overflow_add-m : goal.overflow_add-m
overflow_add-m c =
    omega (
      arith,
      node_laws.within (length (nodes_of c.args.set.now)) c.in-Some.is c.find_root.ensures.below,
      (node_laws.tabled c.args.set.now).few,
    )
