-- What the search finds is compared.
use Rattle.element.proofs.is_cs_root.Goals as goal

pub returns : goal.returns
returns c =
    rw (← c.find_vr_root.ensures.value) c.is_cs_at.ensures
