-- Each turn looks at one member more and passes it while its tag is lower; tags ascend, so where the loop stops is where the search does.
use Rattle.node.proofs.Laws as node_laws
use mathlib.Core.Path.{sym, ◌∙◌}
use native.Mathlib.Omega.{arith}
use Rattle.node.specs.Nodes.{nodes_of, members, node_at}
use Rattle.node.proofs.Walks.{members-end, members-next, find-end, find-here, find-later}
use Rattle.node.proofs.Halves.{ascends-next, find_past}
use Rattle.searches.proofs.Counting.{looked-end, looked-later, looked-here, looked-few, members-few}
use Rattle.searches.proofs.look.Goals as goal

pub overflow_add-count : goal.overflow_add-count
overflow_add-count c =
    let a = c.args in
    let ns = nodes_of a.set.now in
    omega (
      arith,
      c.loop-i.invariant.1.0,
      looked-few ns a.wanted (members ns a.from a.to),
      members-few ns a.from a.to,
      c.requires.0,
      (node_laws.tabled c.args.set.now).few,
    )

pub returns-then-here-wanted : goal.returns-then-here-wanted
returns-then-here-wanted c =
    let inside = c.loop-i-test.true in
    let inv = c.loop-i.invariant in
    record {
      finds = sym (find-here _ _ _ _ inside (sym c.tag-here.ensures ∙ c.if-here-wanted.true)) ∙ inv.0;
      counts = omega (
        arith,
        inv.1.0,
        looked-here (nodes_of c.args.set.now) c.args.wanted _ _ _ (members-next (nodes_of c.args.set.now) c.loop-i.i c.args.to inside) inv.1.1.0 inv.1.1.1 (omega (arith, c.tag-here.ensures, c.if-wanted-here.true)),
      );
      within = inside;
    }

pub returns-else-here-wanted : goal.returns-else-here-wanted
returns-else-here-wanted c =
    let inside = c.loop-i-test.true in
    let inv = c.loop-i.invariant in
    record {
      finds = sym (find_past _ _ _ _ inv.1.1.0 inside inv.1.1.1
          (omega (arith, c.tag-here.ensures, c.if-wanted-here.true, c.if-here-wanted.false))) ∙ inv.0;
      counts = omega (
        arith,
        inv.1.0,
        looked-here (nodes_of c.args.set.now) c.args.wanted _ _ _ (members-next (nodes_of c.args.set.now) c.loop-i.i c.args.to inside) inv.1.1.0 inv.1.1.1 (omega (arith, c.tag-here.ensures, c.if-wanted-here.true)),
      );
      within = tt;
    }

pub loop-i-preserved : goal.loop-i-preserved
loop-i-preserved c =
    let inside = c.loop-i-test.true in
    let inv = c.loop-i.invariant in
    rw c.next-i.ensures.0 (
      sym (find-later _ _ _ _ inside (λ e. omega (arith, c.if-wanted-here.false, c.tag-here.ensures ∙ e))) ∙ inv.0,
      (
        omega (
          arith,
          inv.1.0,
          looked-later (nodes_of c.args.set.now) c.args.wanted _ _ _ (members-next (nodes_of c.args.set.now) c.loop-i.i c.args.to inside) (omega (arith, c.tag-here.ensures, c.if-wanted-here.false)),
        ),
        ((node_at (nodes_of c.args.set.now) c.loop-i.i).tag, ascends-next _ _ _ inv.1.1.0 inside inv.1.1.1),
      ),
    )

pub returns : goal.returns
returns c =
    let inv = c.loop-i.invariant in
    record {
      finds = sym (find-end _ _ _ _ c.loop-i-test.false) ∙ inv.0;
      counts = omega (
        arith,
        inv.1.0,
        looked-end (nodes_of c.args.set.now) c.args.wanted _ (members-end (nodes_of c.args.set.now) c.loop-i.i c.args.to c.loop-i-test.false),
      );
      within = tt;
    }
