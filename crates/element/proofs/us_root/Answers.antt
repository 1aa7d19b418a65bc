-- What the search finds is read.
use Rattle.element.proofs.us_root.Goals as goal

pub returns : goal.returns
returns c = record {
  value = rw (← c.find_vr_root.ensures.value) c.us_at.ensures.value;
  below = c.us_at.ensures.below;
}
