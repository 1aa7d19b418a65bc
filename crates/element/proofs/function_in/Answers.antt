-- Without the element the function is LINEAR; else it is the one read at the node that is found.
use Rattle.node.proofs.Laws as node_laws
use Rattle.element.specs.Elements.{function_in}
use Rattle.element.proofs.function_in.Goals as goal

pub function_at-requires : goal.function_at-requires
function_at-requires c =
    node_laws.within _ c.in-Some.is c.find_in_item.ensures.below

pub returns-in-None : goal.returns-in-None
unfolding function_in
returns-in-None c =
    rw (node_laws.had-none c.in-None.is c.find_in_item.ensures.value)

pub returns-in-Some : goal.returns-in-Some
unfolding function_in
returns-in-Some c =
    rw (node_laws.had c.in-Some.is c.find_in_item.ensures.value) c.function_at.ensures
