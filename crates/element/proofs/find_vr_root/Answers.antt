-- What the search finds is looked at.
use Rattle.element.proofs.find_vr_root.Goals as goal

pub returns : goal.returns
returns c = record {
  value = rw (← c.find_root.ensures.value) c.vr_at.ensures.value;
  below = c.vr_at.ensures.below;
}
