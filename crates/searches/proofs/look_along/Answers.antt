-- What the searches look at that are still under way, among the members that are left, comes with the sum to the whole.
use Rattle.node.proofs.Laws as node_laws
use Rattle.node.proofs.Walks.{rest-below}
use mathlib.Core.Path.{sym, ap, ◌∙◌}
use Prim.Native.Nat.{ℕ}
use native.Mathlib.Omega.{arith}
use borrow.Author.Tests.{eqb-true}
use Rattle.node.specs.Nodes.{nodes_of, node_at}
use Rattle.searches.specs.Internal.{tags_above}
use Rattle.searches.proofs.Counting.{rest-ascends}
use Rattle.searches.proofs.Loops.{all_nil, all_none, all-step, all-fits, rises-above}
use Rattle.searches.proofs.look_along.Goals as goal

pub overflow_add-sum : goal.overflow_add-sum
overflow_add-sum c =
    let a = c.args in
    let p = c.requires in
    let inv = c.loop-member.invariant in
    omega (
      arith,
      inv.1.0,
      all-step (nodes_of a.set.now) _ _ _ c.in-Some.ensures.steps inv.1.1.0.0 inv.1.1.0.1 c.loop-member.left.now 0 inv.0,
      all-fits a.set.now (node_laws.tabled a.set.now).few a.wanted.now a.from a.to p.1.1.0 p.0,
    )

pub loop-member-preserved : goal.loop-member-preserved
loop-member-preserved c =
    let a = c.args in
    let ns = nodes_of a.set.now in
    let inv = c.loop-member.invariant in
    let steps = c.in-Some.ensures.steps in
    let here = (node_at ns c.in-Some.member).tag in
    let above = c.tags_above-left.ensures ∙ ap (λ (t : ℕ). tags_above t c.loop-member.left.now) c.tag.ensures in
    let step = all-step ns _ _ _ steps inv.1.1.0.0 inv.1.1.0.1 c.loop-member.left.now 0 inv.0 in
    rw above (
      rises-above here c.loop-member.left.now 0 inv.0,
      (
        omega (arith, inv.1.0, step),
        ((here, rest-ascends ns _ _ _ _ steps inv.1.1.0.1), rest-below _ _ _ _ steps inv.1.1.1),
      ),
    )

pub returns-then-is_empty : goal.returns-then-is_empty
returns-then-is_empty c =
    omega (
      arith,
      c.loop-member.invariant.1.0,
      all_nil (nodes_of c.args.set.now) c.loop-member.left.now c.loop-member.member-iterator
          (eqb-true _ _ (sym c.is_empty.ensures ∙ c.if-is_empty.true)),
    )

pub returns-in-None : goal.returns-in-None
returns-in-None c =
    omega (
      arith,
      c.loop-member.invariant.1.0,
      all_none (nodes_of c.args.set.now) _ c.loop-member.left.now c.in-None.ensures.steps.0,
    )
