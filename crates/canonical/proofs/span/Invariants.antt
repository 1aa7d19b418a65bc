-- What was added up, with the sizes of the nodes ahead, is the size of all; and all nodes together stay within the largest data set.
use Rattle.node.specs.Nodes.{nodes_of}
use Rattle.canonical.proofs.Sizes.{Summed}
use Rattle.canonical.proofs.span.Given as goal

abbrev pub invariant-loop-i : goal.invariant-loop-i
invariant-loop-i l =
    Summed (nodes_of l.set) l.from l.to l.sum l.i
