-- The seven sums are those of the table, in its order, each below 2^57.
use native.Mathlib.Omega.{arith}
use Rattle.searches.specs.Searches.{frame_searches}
use Rattle.searches.specs.Internal.{over_groups}
use Rattle.searches.proofs.groups_over.Goals as goal

pub returns : goal.returns
unfolding over_groups frame_searches
returns c =
    record {
      value = omega (
        arith,
        rw (c.always.ensures.tag, c.always.ensures.always, c.always.ensures.reads) at c.over_frames.ensures.value,
        rw (c.unless_here.ensures.tag, c.unless_here.ensures.always, c.unless_here.ensures.reads) at c.over_frames-2.ensures.value,
        rw (c.unless_here-2.ensures.tag, c.unless_here-2.ensures.always, c.unless_here-2.ensures.reads) at c.over_frames-3.ensures.value,
        rw (c.unless_here-3.ensures.tag, c.unless_here-3.ensures.always, c.unless_here-3.ensures.reads) at c.over_frames-4.ensures.value,
        rw (c.unless_here-4.ensures.tag, c.unless_here-4.ensures.always, c.unless_here-4.ensures.reads) at c.over_frames-5.ensures.value,
        rw (c.unless_here-5.ensures.tag, c.unless_here-5.ensures.always, c.unless_here-5.ensures.reads) at c.over_frames-6.ensures.value,
        rw (c.unless_here-6.ensures.tag, c.unless_here-6.ensures.always, c.unless_here-6.ensures.reads) at c.over_frames-7.ensures.value,
      );
      upper_bound = omega (
        arith,
        c.over_frames.ensures.upper_bound,
        c.over_frames-2.ensures.upper_bound,
        c.over_frames-3.ensures.upper_bound,
        c.over_frames-4.ensures.upper_bound,
        c.over_frames-5.ensures.upper_bound,
        c.over_frames-6.ensures.upper_bound,
        c.over_frames-7.ensures.upper_bound,
      );
    }
