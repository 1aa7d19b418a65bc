-- The small data sets, by computing.
use mathlib.Core.Path.{refl}
use Rattle.node.specs.Nodes.{members_by, members}
use Rattle.node.specs.Find.{find, of_vr}
use Rattle.element.specs.Elements.{some, one_item, the_item, items_in}
use Rattle.element.specs.Frames.{shared_item, frame_items, mask_items}
use Rattle.searches.specs.Count.{lower_tags, remains, looked_at}
use Rattle.searches.specs.Searches.{root_searches, mask_searches, frame_searches, searched_among, mask_sum, looked_in, looked_in_each}
use Rattle.searches.specs.Searches.{in_shared}
use Rattle.searches.specs.Searches.{group_sum, groups_sum, frame_sum, frames_sum, searches_of}
use Rattle.searches.specs.Samples.{Samples}

pub samples : Samples
unfolding members_by members find of_vr some one_item the_item items_in shared_item frame_items mask_items lower_tags remains looked_at root_searches
    mask_searches frame_searches searched_among mask_sum looked_in looked_in_each in_shared group_sum groups_sum frame_sum frames_sum searches_of
samples = refl
