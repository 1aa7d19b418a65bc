-- Sums of searches: by tags, over items, and each group over all frames; and that they are at most so many times the nodes.
use Rattle.std.specs.Prelude.{Option, Some, None}
use mathlib.Core.Path.{◌≡◌, refl, ap}
use Prim.Native.Nat.{ℕ, zero, suc, ◌+◌, ◌-◌, ◌*◌, ◌≤◌}
use native.Mathlib.Omega.{arith}
use native.Mathlib.Nat.{mul-le-mul_left}
use mathlib.Core.List.{List, [], ◌∷◌}
use mathlib.Core.Bool.{Bool, true, false, cond, ◌||◌}
use lib.ListN.{length, get_or-eq_default}
use lib.Dec.{ltb}
use borrow.Author.Tests.{ltb-true, ltb-false}
use Rattle.node.specs.Nodes.{Node, no_node, node_at, next_node, members_by, members, inside}
use Rattle.node.specs.Find.{absent, or_else, find}
use Rattle.element.specs.Elements.{inside_of}
use Rattle.node.proofs.Walks.{members-end}
use Rattle.searches.specs.Count.{looked_at}
use Rattle.searches.specs.Searches.{Search, GroupSearch, mask_searches, frame_searches, searched_among, mask_sum, looked_in, looked_in_each}
use Rattle.searches.specs.Searches.{in_shared, group_sum, groups_sum, frame_sum, frames_sum}
use Rattle.searches.specs.Internal.{all_looked, tags_of, mask_tags, group_at, over_group, over_groups, over_both}
use Rattle.searches.proofs.Counting.{looked-few, Within, inside-below, inside-few}

-- ---- By tags

pub searched-is : (ns : List Node) (ss : List Search) (is : List ℕ) → searched_among ns ss is ≡ all_looked ns (tags_of ss) is
unfolding searched_among all_looked
searched-is ns [] is = refl
searched-is ns (s ∷ ss) is = ap (λ (n : ℕ). looked_at ns s.tag is + n) (searched-is ns ss is)

pub read_is : (ns : List Node) (tags : List ℕ) (j : ℕ) → looked_in ns tags j ≡ all_looked ns tags (inside ns j)
unfolding looked_in all_looked
read_is ns [] j = refl
read_is ns (tag ∷ tags) j = ap (λ (n : ℕ). looked_at ns tag (inside ns j) + n) (read_is ns tags j)

pub mask_is : (ns : List Node) (js : List ℕ) → mask_sum ns js ≡ looked_in_each ns mask_tags js
unfolding mask_sum looked_in_each mask_tags
mask_is ns [] = refl
mask_is ns (j ∷ js) = rw (mask_is ns js, searched-is ns mask_searches (inside ns j), read_is ns (tags_of mask_searches) j)

pub all-few : (ns : List Node) (tags is : List ℕ) → all_looked ns tags is ≤ length tags * length is
unfolding all_looked
all-few ns [] is = omega arith
all-few ns (tag ∷ tags) is = omega (arith, looked-few ns tag is, all-few ns tags is)

-- ---- Over the items of a sequence, which do not overlap

module _ (ns : List Node) (tags : List ℕ) where
  read-few : (j : ℕ) → looked_in ns tags j ≤ length tags * (node_at ns j).descendants
  read-few j =
      rw (read_is ns tags j)
      (omega (arith, all-few ns tags (inside ns j), mul-le-mul_left (length tags) (inside-below ns j)))

  module _ (w : Within ns) (to : ℕ) (h : to ≤ length ns) where
    each-by : (t i : ℕ) → looked_in_each ns tags (members_by t ns i to) ≤ length tags * (length ns - i)
    unfolding looked_in_each members_by
    each-by zero i = omega arith
    each-by (suc t) i = go (ltb i to) refl (each-by t (next_node ns i))
      where
        go : (b : Bool) → ltb i to ≡ b
            → looked_in_each ns tags (members_by t ns (next_node ns i) to) ≤ length tags * (length ns - next_node ns i)
            → looked_in_each ns tags (cond b (i ∷ members_by t ns (next_node ns i) to) []) ≤ length tags * (length ns - i)
        go false e r = omega arith
        go true e r =
            let l = ltb-true i to e in
            let k = w i (omega arith) in
            let z : length ns - i ≡ length ns - next_node ns i + 1 + (node_at ns i).descendants = omega arith in
            rw z (omega (arith, r, read-few i))

    pub each-few : (i : ℕ) → looked_in_each ns tags (members ns i to) ≤ length tags * length ns
    unfolding members
    each-few i = omega (arith, each-by (to - i) i, mul-le-mul_left (length tags) (less (length ns) i))
      where
        less : (n m : ℕ) → n - m ≤ n
        less n m = omega arith

module _ (ns : List Node) (w : Within ns) (tags : List ℕ) where
  -- What is beyond the nodes holds nothing.
  pub inside-read : (g : ℕ) → looked_in_each ns tags (inside ns g) ≤ length tags * length ns
  unfolding looked_in_each
  inside-read g = go (ltb g (length ns)) refl
    where
      go : (b : Bool) → ltb g (length ns) ≡ b → looked_in_each ns tags (inside ns g) ≤ length tags * length ns
      go true e = each-few ns tags w (next_node ns g) (w g (ltb-true g (length ns) e)) (g + 1)
      go false e =
          let d : (node_at ns g).descendants
          ≡ 0 = ap (λ (n : Node). n.descendants) (get_or-eq_default ns no_node (ltb-false g (length ns) e)) in
          rw (members-end ns (g + 1) (next_node ns g) (omega arith)) (omega arith)

  pub group-read : (found : Option ℕ) → looked_in_each ns tags (inside_of ns found) ≤ length tags * length ns
  unfolding looked_in_each
  group-read None = omega arith
  group-read (Some g) = inside-read g

-- ---- A group over all frames

module _ (ns : List Node) (w : Within ns) (tag : ℕ) (always : Bool) (reads : List ℕ) (s : ℕ) where
  pub group-few : (i : ℕ) → group_at ns tag always reads s i ≤ (2 + length reads) * length ns
  unfolding group_at group_sum in_shared
  group-few i =
      omega (
        arith,
        looked-few ns tag (inside ns i),
        inside-few ns w i,
        if-few (always || absent (find ns tag (inside ns i))),
        group-read ns w reads (or_else (find ns tag (inside ns i)) (find ns tag (inside ns s))),
      )
    where
      if-few : (b : Bool) → cond b (looked_at ns tag (inside ns s)) 0 ≤ length ns
      if-few true = omega (arith, looked-few ns tag (inside ns s), inside-few ns w s)
      if-few false = omega arith

  pub over-few : (is : List ℕ) → over_group ns tag always reads s is ≤ (2 + length reads) * length ns * length is
  unfolding over_group
  over-few [] = omega arith
  over-few (i ∷ is) = omega (arith, group-few i, over-few is)

abbrev pub weight : List GroupSearch → ℕ
weight [] = 0
weight (g ∷ gs) = 2 + length g.reads + weight gs

module _ (ns : List Node) (w : Within ns) (s : ℕ) where
  pub groups-few : (gs : List GroupSearch) (is : List ℕ) → over_groups ns gs s is ≤ weight gs * length ns * length is
  unfolding over_groups
  groups-few [] is = omega arith
  groups-few (g ∷ gs) is = omega (arith, over-few ns w g.group g.always g.reads s is, groups-few gs is)

  pub both-few : (is : List ℕ) → over_both ns s is ≤ 2 * length ns * length is
  unfolding over_both
  both-few [] = omega arith
  both-few (i ∷ is) = omega (arith, inside-few ns w i, inside-few ns w s, both-few is)

-- ---- The frames, group by group

module _ (ns : List Node) (s : ℕ) where
  groups_none : (gs : List GroupSearch) → over_groups ns gs s [] ≡ 0
  unfolding over_groups over_group
  groups_none [] = refl
  groups_none (g ∷ gs) = omega (arith, groups_none gs)

  group-same : (g : GroupSearch) (i : ℕ) → group_at ns g.group g.always g.reads s i ≡ group_sum ns g s i
  unfolding group_at group_sum in_shared
  group-same g i = refl

  groups-next : (gs : List GroupSearch) (i : ℕ) (is : List ℕ) → over_groups ns gs s (i ∷ is) ≡ groups_sum ns gs s i + over_groups ns gs s is
  unfolding over_groups over_group groups_sum
  groups-next [] i is = refl
  groups-next (g ∷ gs) i is = omega (arith, group-same g i, groups-next gs i is)

  pub frames-are : (is : List ℕ) → frames_sum ns s is ≡ over_both ns s is + over_groups ns frame_searches s is
  unfolding frames_sum frame_sum over_both
  frames-are [] = omega (arith, groups_none frame_searches)
  frames-are (i ∷ is) = omega (arith, frames-are is, groups-next frame_searches i is)
