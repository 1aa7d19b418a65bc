-- What the search finds is compared.
use Rattle.element.proofs.is_cs_item.Goals as goal

pub returns : goal.returns
returns c =
    rw (← c.find_vr_item.ensures.value) c.is_cs_at.ensures
