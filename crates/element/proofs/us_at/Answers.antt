-- The value of what was found is read.
use Rattle.node.proofs.Laws as node_laws
use Rattle.element.proofs.us_at.Goals as goal

pub value-requires : goal.value-requires
value-requires c =
    node_laws.within _ c.in-Some.is c.requires

pub returns-in-Some : goal.returns-in-Some
returns-in-Some c =
    record {
      value = rw (c.in-Some.is, ← c.value.ensures) c.us_of.ensures.value;
      below = c.us_of.ensures.below;
    }
