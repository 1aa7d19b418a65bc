-- The searches that judging is said to make look at tags and at the nodes below alone: their sum is the same of lists of nodes that are
-- alike.
use Rattle.std.specs.Prelude.{Option, Some, None}
use mathlib.Core.Path.{◌≡◌, refl}
use Prim.Native.Nat.{ℕ}
use mathlib.Core.List.{List, [], ◌∷◌}
use lib.Dec.{leb}
use Rattle.node.specs.Nodes.{Node, node_at, root, inside}
use Rattle.node.specs.Find.{or_else, find}
use Rattle.element.specs.Elements.{inside_of}
use Rattle.element.specs.Frames.{shared_item, frame_items, mask_items}
use Rattle.searches.specs.Count.{lower_tags, remains, looked_at}
use Rattle.searches.specs.Searches.{Search, GroupSearch, root_searches, mask_searches, frame_searches, searched_among, mask_sum, looked_in}
use Rattle.searches.specs.Searches.{looked_in_each, in_shared, group_sum, groups_sum, frame_sum, frames_sum, over_frames, searches_of}
use Rattle.privacy.specs.Alike.{Alike}
use Rattle.privacy.proofs.Words.{some_same, inside-same, inside-of-same, root-same, find-same, shared_same}
use Rattle.privacy.proofs.Words.{frame-items-same, mask-items-same}

module _ {ns ms : List Node} (a : Alike ns ms) where
  -- ---- One search

  lower-same : (tag : ℕ) (is : List ℕ) → lower_tags ns tag is ≡ lower_tags ms tag is
  unfolding lower_tags
  lower-same tag [] = refl
  lower-same tag (i ∷ is) = rw (a.tag i, lower-same tag is)

  remains-same : (tag : ℕ) (is : List ℕ) → remains ns tag is ≡ remains ms tag is
  unfolding remains
  remains-same tag is = some_same (λ i. leb tag (node_at ns i).tag) (λ i. leb tag (node_at ms i).tag) (λ i. rw (a.tag i)) is

  looked-same : (tag : ℕ) (is : List ℕ) → looked_at ns tag is ≡ looked_at ms tag is
  unfolding looked_at
  looked-same tag is = rw (lower-same tag is, remains-same tag is)

  -- ---- The root, and the mask items

  searched-same : (ss : List Search) (is : List ℕ) → searched_among ns ss is ≡ searched_among ms ss is
  unfolding searched_among
  searched-same [] is = refl
  searched-same (s ∷ ss) is = rw (looked-same s.tag is, searched-same ss is)

  mask-sum-same : (js : List ℕ) → mask_sum ns js ≡ mask_sum ms js
  unfolding mask_sum
  mask-sum-same [] = refl
  mask-sum-same (j ∷ js) = rw (inside-same a j, searched-same mask_searches (inside ms j), mask-sum-same js)

  -- ---- The frames

  read_same : (tags : List ℕ) (j : ℕ) → looked_in ns tags j ≡ looked_in ms tags j
  unfolding looked_in
  read_same [] j = refl
  read_same (tag ∷ tags) j = rw (inside-same a j, looked-same tag (inside ms j), read_same tags j)

  read-each-same : (tags js : List ℕ) → looked_in_each ns tags js ≡ looked_in_each ms tags js
  unfolding looked_in_each
  read-each-same tags [] = refl
  read-each-same tags (j ∷ js) = rw (read_same tags j, read-each-same tags js)

  group-sum-same : (g : GroupSearch) (s i : ℕ) → group_sum ns g s i ≡ group_sum ms g s i
  unfolding group_sum in_shared
  group-sum-same g s i =
      let found = or_else (find ms g.group (inside ms i)) (find ms g.group (inside ms s)) in
      rw (
        inside-same a i,
        inside-same a s,
        looked-same g.group (inside ms i),
        looked-same g.group (inside ms s),
        find-same a g.group (inside ms i),
        find-same a g.group (inside ms s),
        inside-of-same a found,
        read-each-same g.reads (inside_of ms found),
      )

  groups-sum-same : (gs : List GroupSearch) (s i : ℕ) → groups_sum ns gs s i ≡ groups_sum ms gs s i
  unfolding groups_sum
  groups-sum-same [] s i = refl
  groups-sum-same (g ∷ gs) s i = rw (group-sum-same g s i, groups-sum-same gs s i)

  frames-sum-same : (s : ℕ) (is : List ℕ) → frames_sum ns s is ≡ frames_sum ms s is
  unfolding frames_sum frame_sum
  frames-sum-same s [] = refl
  frames-sum-same s (i ∷ is) = rw (inside-same a i, inside-same a s, groups-sum-same frame_searches s i, frames-sum-same s is)

  over-same : (o : Option ℕ) → over_frames ns o ≡ over_frames ms o
  over-same None = refl
  over-same (Some s) = rw (frame-items-same a) (frames-sum-same s (frame_items ms))

  pub searches-same : searches_of ns ≡ searches_of ms
  unfolding searches_of
  searches-same =
      rw (
        root-same a,
        searched-same root_searches (root ms),
        mask-items-same a,
        mask-sum-same (mask_items ms),
        shared_same a,
        over-same (shared_item ms),
      )
