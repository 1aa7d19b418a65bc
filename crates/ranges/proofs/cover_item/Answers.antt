-- Without a range every frame is held; else the range at the node that is found decides.
use Rattle.std.specs.Prelude.{Some}
use mathlib.Core.Bool.{true}
use native.Mathlib.Omega.{arith}
use Rattle.node.specs.Nodes.{nodes_of}
use Rattle.node.proofs.Laws as node_laws
use Rattle.steps.specs.Steps.{range_has, range_holds}
use Rattle.ranges.proofs.Items as items
use Rattle.ranges.proofs.cover_item.Goals as goal

pub overflow_add-item : goal.overflow_add-item
overflow_add-item c =
    omega (arith, c.requires.0, (node_laws.tabled c.args.set.now).few)

pub overflow_cast-item : goal.overflow_cast-item
overflow_cast-item c =
    omega (arith, c.requires.0, (node_laws.tabled c.args.set.now).few)

pub returns-in-None : goal.returns-in-None
unfolding range_holds
returns-in-None c =
    items.tried-by (λ f. true) (λ f. range_holds (nodes_of c.args.set.now) f c.args.j) _ _ _ _
    (λ f. rw (node_laws.had-none c.in-None.is c.find_in_item.ensures.value))
    c.cover_all.ensures

pub returns-in-Some : goal.returns-in-Some
unfolding range_holds
returns-in-Some c =
    items.tried_same (λ f. range_has (nodes_of c.args.set.now) f (Some c.in-Some.i))
    (λ f. range_holds (nodes_of c.args.set.now) f c.args.j) _ _ _ _
    (λ f. rw (node_laws.had c.in-Some.is c.find_in_item.ensures.value)) c.cover_range.ensures
