-- What the search finds is read as an IS, whose bound the count keeps; where it finds nothing, both sides lack.
use Rattle.node.proofs.Laws as node_laws
use Rattle.element.specs.Frames.{frames_of}
use Rattle.element.proofs.frame_count.Goals as goal

pub value-requires : goal.value-requires
value-requires c =
    node_laws.within _ c.in-Some.is c.find_vr_root.ensures.below

pub as_count-requires : goal.as_count-requires
as_count-requires c =
    c.integer_of.ensures.size_below

pub returns-in-None : goal.returns-in-None
unfolding frames_of
returns-in-None c = record {
  value = rw (node_laws.had-none c.in-None.is c.find_vr_root.ensures.value);
  below = tt;
}

pub returns-in-Some : goal.returns-in-Some
unfolding frames_of
returns-in-Some c =
    record {
      value = rw (
        node_laws.had c.in-Some.is c.find_vr_root.ensures.value,
        ← c.value.ensures,
        ← c.integer_of.ensures.value,
      ) c.as_count.ensures.value;
      below = c.as_count.ensures.below;
    }
