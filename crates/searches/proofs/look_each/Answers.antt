-- Each turn adds what is looked at in one item, and goes on at the next.
use Rattle.node.proofs.Laws as node_laws
use Rattle.node.proofs.Walks.{rest-below}
use mathlib.Core.Path.{ap}
use Prim.Native.Nat.{ℕ, ◌+◌}
use native.Mathlib.Omega.{arith}
use Rattle.node.specs.Nodes.{nodes_of, members}
use Rattle.node.proofs.Halves.{inside-ascends}
use Rattle.searches.specs.Internal.{all_looked}
use Rattle.searches.proofs.Loops.{each-end, each_next, each_fits}
use Rattle.searches.proofs.look_each.Goals as goal

pub look_all-sum-requires : goal.look_all-sum-requires
look_all-sum-requires c =
    let n = c.next-end.ensures in
    let here = rw c.in-Some.ensures.steps at c.loop-item.invariant.1 0 0 (omega arith) in (
      n.1,
      (
        rw n.0 (inside-ascends _ _ (node_laws.tabled c.args.set.now) c.in-Some.item here),
        c.requires.1,
      ),
    )

pub overflow_add-item : goal.overflow_add-item
overflow_add-item c =
    omega (
      arith,
      (node_laws.tabled c.args.set.now).few,
      rw c.in-Some.ensures.steps at c.loop-item.invariant.1 0 0 (omega arith),
    )

pub overflow_add-sum : goal.overflow_add-sum
overflow_add-sum c =
    let a = c.args in
    let ns = nodes_of a.set.now in
    let e = ap (λ (k : ℕ). all_looked ns a.wanted.now (members ns (c.in-Some.item + 1) k)) c.next-end.ensures.0 in
    omega (
      arith,
      c.loop-item.invariant.0,
      each_next ns _ _ _ c.in-Some.ensures.steps a.wanted.now,
      c.look_all-sum.ensures,
      e,
      each_fits a.set.now (node_laws.tabled a.set.now).few a.wanted.now a.from a.to c.requires.1 c.requires.0,
    )

pub loop-item-preserved : goal.loop-item-preserved
loop-item-preserved c =
    let a = c.args in
    let ns = nodes_of a.set.now in
    let e = ap (λ (k : ℕ). all_looked ns a.wanted.now (members ns (c.in-Some.item + 1) k)) c.next-end.ensures.0 in (
      omega (
        arith,
        c.loop-item.invariant.0,
        each_next ns _ _ _ c.in-Some.ensures.steps a.wanted.now,
        c.look_all-sum.ensures,
        e,
      ),
      rest-below _ _ _ _ c.in-Some.ensures.steps c.loop-item.invariant.1,
    )

pub returns : goal.returns
returns c =
    omega (arith, c.loop-item.invariant.0, each-end (nodes_of c.args.set.now) _ c.args.wanted.now c.in-None.ensures.steps.0)
