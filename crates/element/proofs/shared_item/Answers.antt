-- The one item is asked of the node that is found; where none is found, both sides lack.
use Rattle.node.proofs.Laws as node_laws
use Rattle.element.specs.Frames.{shared_item}
use Rattle.element.proofs.shared_item.Goals as goal

pub the_item-requires : goal.the_item-requires
the_item-requires c =
    node_laws.within _ c.in-Some.is c.find_root.ensures.below

pub returns-in-None : goal.returns-in-None
unfolding shared_item
returns-in-None c = record {
  value = rw (node_laws.had-none c.in-None.is c.find_root.ensures.value);
  below = tt;
}

pub returns-in-Some : goal.returns-in-Some
unfolding shared_item
returns-in-Some c =
    record {
      value = rw (node_laws.had c.in-Some.is c.find_root.ensures.value) c.the_item.ensures.value;
      below = c.the_item.ensures.below;
    }
