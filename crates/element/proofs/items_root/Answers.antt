-- A sequence's items stand between its node and the next; an empty span has none.
use mathlib.Core.Path.{refl}
use Rattle.node.proofs.Laws as node_laws
use Rattle.element.proofs.Laws as laws
use native.Mathlib.Omega.{arith}
use Rattle.element.specs.Elements.{items_in}
use Rattle.node.specs.Nodes.{nodes_of}
use Rattle.element.proofs.items_root.Goals as goal

pub overflow_add-result : goal.overflow_add-result
overflow_add-result c =
    omega (arith, node_laws.within _ c.in-Some.is c.find_vr_root.ensures.below, (node_laws.tabled c.args.set.now).few)

pub next-requires : goal.next-requires
next-requires c =
    node_laws.within _ c.in-Some.is c.find_vr_root.ensures.below

pub returns-in-None : goal.returns-in-None
unfolding items_in
returns-in-None c =
    rw (node_laws.had-none c.in-None.is c.find_vr_root.ensures.value)
    (laws.along-none (nodes_of c.args.set.now))

pub returns-in-Some : goal.returns-in-Some
unfolding items_in
returns-in-Some c =
    rw (node_laws.had c.in-Some.is c.find_vr_root.ensures.value, ← c.next.ensures.0)
    (record { ahead = refl; inner = c.next.ensures.1 })
