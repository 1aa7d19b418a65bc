-- Each turn adds one tag's search; at most 64 of them stay far below the limit of a number.
use Rattle.node.proofs.Laws as node_laws
use native.Mathlib.Omega.{arith}
use Rattle.node.specs.Nodes.{nodes_of, members}
use Rattle.searches.proofs.Loops.{all_end, all-next, all-fits}
use Rattle.searches.proofs.look_all.Goals as goal

pub overflow_add-sum : goal.overflow_add-sum
overflow_add-sum c =
    let a = c.args in
    let ns = nodes_of a.set.now in
    omega (
      arith,
      c.loop-tag.invariant,
      all-next ns a.wanted.now (members ns a.from a.to) c.loop-tag.tag-index c.loop-tag-test.true,
      c.look-sum.ensures.counts,
      all-fits a.set.now (node_laws.tabled a.set.now).few a.wanted.now a.from a.to c.requires.1.1 c.requires.0,
    )

pub loop-tag-preserved : goal.loop-tag-preserved
loop-tag-preserved c =
    let a = c.args in
    let ns = nodes_of a.set.now in
    omega (
      arith,
      c.loop-tag.invariant,
      all-next ns a.wanted.now (members ns a.from a.to) c.loop-tag.tag-index c.loop-tag-test.true,
      c.look-sum.ensures.counts,
    )

pub returns : goal.returns
returns c =
    let a = c.args in
    let ns = nodes_of a.set.now in
    omega (arith, c.loop-tag.invariant, all_end ns a.wanted.now (members ns a.from a.to) c.loop-tag.tag-index (omega arith))
