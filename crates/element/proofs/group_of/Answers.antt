-- A group in the frame's own item is taken; only without one is the shared item searched.
use Rattle.node.proofs.Laws as node_laws
use Rattle.element.proofs.group_of.Goals as goal

pub returns-in-Some : goal.returns-in-Some
returns-in-Some c =
    record {
      value = rw (node_laws.had c.in-Some.is c.find_in_item.ensures.value);
      below = node_laws.within _ c.in-Some.is c.find_in_item.ensures.below;
    }

pub returns-in-None : goal.returns-in-None
returns-in-None c =
    record {
      value = rw (node_laws.had-none c.in-None.is c.find_in_item.ensures.value) c.find_in_item-in-None.ensures.value;
      below = c.find_in_item-in-None.ensures.below;
    }
