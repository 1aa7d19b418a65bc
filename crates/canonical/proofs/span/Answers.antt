-- What was added up, with the sizes of the nodes ahead, is the size of all; and all nodes together stay within the largest data set.
use native.Mathlib.Omega.{arith}
use Rattle.node.specs.Nodes.{nodes_of}
use Rattle.canonical.proofs.Answers.{written-small}
use Rattle.canonical.proofs.Sizes.{summed-first, summed-next, summed-last, size-slice}
use Rattle.canonical.proofs.span.Goals as goal

pub loop-i-init : goal.loop-i-init
loop-i-init c = summed-first _ _ _ c.requires.0

pub overflow_add-sum : goal.overflow_add-sum
overflow_add-sum c =
    let n = summed-next c.loop-i.invariant (omega arith) c.requires.1 in
    omega (arith, n.rest, size-slice c.args.from c.args.to (nodes_of c.args.set.now), c.own_size-sum.ensures, written-small c.args.set.now)

pub loop-i-preserved : goal.loop-i-preserved
loop-i-preserved c = rw c.own_size-sum.ensures (summed-next c.loop-i.invariant (omega arith) c.requires.1)

pub returns : goal.returns
returns c =
    let e = summed-last c.loop-i.invariant (omega arith) in
    (e, omega (arith, e, size-slice c.args.from c.args.to (nodes_of c.args.set.now), written-small c.args.set.now))
