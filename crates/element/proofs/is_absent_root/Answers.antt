-- An element is absent just where the search finds none.
use Rattle.node.proofs.Laws as node_laws
use Rattle.element.proofs.is_absent_root.Goals as goal

pub returns-in-None : goal.returns-in-None
returns-in-None c =
    rw (node_laws.had-none c.in-None.is c.find_root.ensures.value)

pub returns-in-Some : goal.returns-in-Some
returns-in-Some c =
    rw (node_laws.had c.in-Some.is c.find_root.ensures.value)
