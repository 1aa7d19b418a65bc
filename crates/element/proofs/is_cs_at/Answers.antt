-- The value of what was found is compared.
use Rattle.node.proofs.Laws as node_laws
use Rattle.element.proofs.is_cs_at.Goals as goal

pub value-requires : goal.value-requires
value-requires c =
    node_laws.within _ c.in-Some.is c.requires

pub returns-in-Some : goal.returns-in-Some
returns-in-Some c =
    rw (c.in-Some.is, ← c.value.ensures) c.is_word.ensures
