-- A node has its one item just where it is a sequence of one item.
use Rattle.node.proofs.Laws as node_laws
use Rattle.element.proofs.Laws as laws
use Rattle.element.proofs.is_one_item.Goals as goal

pub returns-in-None : goal.returns-in-None
returns-in-None c =
    laws.one-item-not _ _ (node_laws.had-none c.in-None.is c.the_item.ensures.value)

pub returns-in-Some : goal.returns-in-Some
returns-in-Some c =
    laws.one-item-is _ _ _ (node_laws.had c.in-Some.is c.the_item.ensures.value)
