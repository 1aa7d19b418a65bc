-- The value of the UI that is found is compared; where none is found, the test is false.
use Rattle.node.proofs.Laws as node_laws
use Rattle.element.proofs.is_ui_root.Goals as goal

pub value-requires : goal.value-requires
value-requires c =
    node_laws.within _ c.in-Some.is c.find_vr_root.ensures.below

pub returns-in-None : goal.returns-in-None
returns-in-None c =
    rw (node_laws.had-none c.in-None.is c.find_vr_root.ensures.value)

pub returns-in-Some : goal.returns-in-Some
returns-in-Some c =
    rw (node_laws.had c.in-Some.is c.find_vr_root.ensures.value, ← c.value.ensures) c.is_uid.ensures
