-- What is left to find among the members is what was to be found among all of them; and since tags never descend, nothing is left once one
-- is above the tag that is sought.
use mathlib.Core.Path.{refl, sym, ◌∙◌}
use native.Mathlib.Omega.{arith}
use Rattle.node.specs.Nodes.{nodes_of, node_at}
use Rattle.node.proofs.Walks.{find-end, find-here, find-later}
use Rattle.node.proofs.Halves.{ascends-next, find_past}
use Rattle.node.proofs.DataSet.find_tag.Goals as goal

pub loop-i-init : goal.loop-i-init
loop-i-init c = (refl, (0, c.requires.1))

pub tag-here-requires : goal.tag-here-requires
tag-here-requires c =
    omega (arith, c.loop-i-test.true, c.requires.0)

pub returns-then-here-wanted : goal.returns-then-here-wanted
returns-then-here-wanted c =
    let inside = c.loop-i-test.true in record {
      value = sym (find-here _ _ _ _ inside (sym c.tag-here.ensures ∙ c.if-here-wanted.true)) ∙ c.loop-i.invariant.0;
      below = inside;
    }

pub returns-else-here-wanted : goal.returns-else-here-wanted
returns-else-here-wanted c =
    let inside = c.loop-i-test.true in
    let inv = c.loop-i.invariant in record {
      value = sym (find_past _ _ _ _ inv.1.0 inside inv.1.1
          (omega (arith, c.tag-here.ensures, c.if-wanted-here.true, c.if-here-wanted.false))) ∙ inv.0;
      below = tt;
    }

pub next-i-requires : goal.next-i-requires
next-i-requires c =
    omega (arith, c.loop-i-test.true, c.requires.0)

pub loop-i-preserved : goal.loop-i-preserved
loop-i-preserved c =
    let inside = c.loop-i-test.true in
    let inv = c.loop-i.invariant in
    rw c.next-i.ensures.0 (
      sym (find-later _ _ _ _ inside (λ e. omega (arith, c.if-wanted-here.false, c.tag-here.ensures ∙ e))) ∙ inv.0,
      ((node_at (nodes_of c.args.self.now) c.loop-i.i).tag, ascends-next _ _ _ inv.1.0 inside inv.1.1),
    )

pub returns : goal.returns
returns c = record {
  value = sym (find-end _ _ _ _ c.loop-i-test.false) ∙ c.loop-i.invariant.0;
  below = tt;
}
