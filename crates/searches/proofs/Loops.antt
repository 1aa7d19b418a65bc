-- The sums at the places that the loops have reached, and that they fit.
use Rattle.std.specs.Prelude.{Option, Some, None}
use mathlib.Core.Path.{◌≡◌, refl, sym, ap, ◌∙◌}
use Prim.Native.Nat.{ℕ, ◌+◌, ◌*◌, ◌≤◌, ◌<◌}
use native.Mathlib.Omega.{arith}
use native.Mathlib.Nat.{mul-le-mul_left, mul-le-mul_right}
use native.Mathlib.Numerals.{add-one}
use mathlib.Core.List.{List, [], ◌∷◌}
use mathlib.Core.Bool.{Bool, true, false, cond, false≢true, or-true}
use lib.ListN.{length, drop, get_or}
use lib.Seq.{drop-cons, drop-length}
use lib.Dec.{leb}
use borrow.Author.Tests.{leb-true, leb-false, le-leb}
use Rattle.basics.specs.Limits.{most_rows}
use Rattle.basics.specs.Vr.{SQ}
use Rattle.node.specs.Nodes.{Node, nodes_of, node_at, members, root, inside}
use Rattle.node.specs.Find.{find, find_vr}
use Rattle.node.specs.Internal.{Ascends}
use Rattle.basics.specs.Tags
use Rattle.element.specs.Elements.{inside_of, items_in}
use Rattle.element.specs.Frames.{frame_items, mask_items}
use Rattle.searches.specs.Count.{looked_at}
use Rattle.searches.specs.Searches.{root_searches, mask_searches, searched_among, mask_sum, looked_in_each, in_shared, group_sum, both_items}
use Rattle.searches.specs.Internal.{all_looked, rises, tags_above, root_tags, root_order, mask_tags, group_at, over_group, over_both}
use Rattle.searches.proofs.Counting.{looked-end, looked-later, looked-here, members-few, Within, nodes-within, inside-few}
use Rattle.searches.proofs.Sums.{searched-is, mask_is, read_is, all-few, each-few, group-few, over-few, both-few}

-- ---- Tag by tag

pub all_nil : (ns : List Node) (tags is : List ℕ) → length tags ≡ 0 → all_looked ns tags is ≡ 0
unfolding all_looked
all_nil ns [] is h = refl
all_nil ns (tag ∷ tags) is h = absurd (omega arith)

pub all_end : (ns : List Node) (tags is : List ℕ) (k : ℕ) → k ≡ length tags → all_looked ns (drop k tags) is ≡ 0
unfolding all_looked
all_end ns tags is k e = rw (e, drop-length tags)

pub all-next : (ns : List Node) (tags is : List ℕ) (k : ℕ) → k < length tags
    → all_looked ns (drop k tags) is ≡ looked_at ns (get_or tags k 0) is + all_looked ns (drop (k + 1) tags) is
unfolding all_looked
all-next ns tags is k h = rw (add-one k, drop-cons tags k 0 h)

-- ---- Member by member, all the tags at once

rises-parts : (x tag : ℕ) (tags : List ℕ) → rises x (tag ∷ tags) ≡ true → (x ≤ tag) × (rises tag tags ≡ true)
unfolding rises
rises-parts x tag tags r = go (leb x tag) refl r
  where
    go : (b : Bool) → leb x tag ≡ b → cond b (rises tag tags) false ≡ true → (x ≤ tag) × (rises tag tags ≡ true)
    go true e q = (leb-true x tag e, q)
    go false e q = absurd (false≢true q)

-- Some of the last of them ascend too.
pub rises-above : (here : ℕ) (tags : List ℕ) (x : ℕ) → rises x tags ≡ true → rises 0 (tags_above here tags) ≡ true
unfolding rises tags_above
rises-above here [] x r = refl
rises-above here (tag ∷ tags) x r =
    let q = (rises-parts x tag tags r).1 in
    go q (rises-above here tags tag q) (leb tag here)
  where
    go : rises tag tags ≡ true → rises 0 (tags_above here tags) ≡ true → (b : Bool)
        → rises 0 (cond b (tags_above here tags) (tag ∷ tags)) ≡ true
    go q z true = z
    go q z false = rw (le-leb 0 tag (omega arith)) q

module _ (ns : List Node) (is : List ℕ) where
  pub all_none : (tags : List ℕ) → is ≡ [] → all_looked ns tags is ≡ 0
  unfolding all_looked
  all_none [] h = refl
  all_none (tag ∷ tags) h = omega (arith, looked-end ns tag is h, all_none tags h)

  module _ (i : ℕ) (rest : List ℕ) (h : is ≡ i ∷ rest) (least : ℕ) (a : Ascends ns least is) where
    -- Tags above the member's are sought on.
    all_above : (tags : List ℕ) (x : ℕ) → rises x tags ≡ true → (node_at ns i).tag < x
        → all_looked ns tags is ≡ length tags + all_looked ns tags rest
    unfolding all_looked
    all_above [] x r l = refl
    all_above (tag ∷ tags) x r l =
        let p = rises-parts x tag tags r in
        let m : (node_at ns i).tag < tag = omega (arith, p.0) in
        omega (arith, looked-later ns tag is i rest h m, all_above tags tag p.1 m)

    -- Each search looks at the member, and those of tags above it go on.
    pub all-step : (tags : List ℕ) (x : ℕ) → rises x tags ≡ true
        → all_looked ns tags is ≡ length tags + all_looked ns (tags_above (node_at ns i).tag tags) rest
    unfolding all_looked tags_above
    all-step [] x r = refl
    all-step (tag ∷ tags) x r =
        let q = (rises-parts x tag tags r).1 in
        go q (all-step tags tag q) (leb tag (node_at ns i).tag) refl
      where
        go : rises tag tags ≡ true
            → all_looked ns tags is ≡ length tags + all_looked ns (tags_above (node_at ns i).tag tags) rest
            → (b : Bool) → leb tag (node_at ns i).tag ≡ b
            → all_looked ns (tag ∷ tags) is
            ≡ length (tag ∷ tags) + all_looked ns (cond b (tags_above (node_at ns i).tag tags) (tag ∷ tags)) rest
        go q z true e = omega (arith, looked-here ns tag is i rest h least a (leb-true tag (node_at ns i).tag e), z)
        go q z false e =
            let m = leb-false tag (node_at ns i).tag e in
            omega (arith, looked-later ns tag is i rest h m, all_above tags tag q m)

-- ---- Item by item

module _ (ns : List Node) (is : List ℕ) where
  pub each-end : (tags : List ℕ) → is ≡ [] → looked_in_each ns tags is ≡ 0
  unfolding looked_in_each
  each-end tags h = rw h

  pub over-end : (tag : ℕ) (always : Bool) (reads : List ℕ) (s : ℕ) → is ≡ [] → over_group ns tag always reads s is ≡ 0
  unfolding over_group
  over-end tag always reads s h = rw h

  pub both_end : (s : ℕ) → is ≡ [] → over_both ns s is ≡ 0
  unfolding over_both
  both_end s h = rw h

  module _ (i : ℕ) (rest : List ℕ) (h : is ≡ i ∷ rest) where
    pub each_next : (tags : List ℕ) → looked_in_each ns tags is ≡ all_looked ns tags (inside ns i) + looked_in_each ns tags rest
    unfolding looked_in_each
    each_next tags = rw (h, read_is ns tags i)

    pub over-next : (tag : ℕ) (always : Bool) (reads : List ℕ) (s : ℕ)
        → over_group ns tag always reads s is ≡ group_at ns tag always reads s i + over_group ns tag always reads s rest
    unfolding over_group
    over-next tag always reads s = rw h

    pub both-next : (s : ℕ) → over_both ns s is ≡ both_items ns s i + over_both ns s rest
    unfolding over_both
    both-next s = rw h

-- ---- The sums fit

module _ (ns : List Node) (w : Within ns) where
  pub items-few : length (frame_items ns) ≤ length ns
  unfolding frame_items items_in
  items-few = go (find_vr ns Tags.PerFrameFunctionalGroupsSequence SQ (root ns))
    where
      go : (found : Option ℕ) → length (inside_of ns found) ≤ length ns
      go None = omega arith
      go (Some p) = inside-few ns w p

-- 134,217,728 × 134,217,728.
square : (l m : ℕ) → l ≤ most_rows → m ≤ l → l * m ≤ 18014398509481984
square l m a b =
    let h : m ≤ most_rows = omega arith in
    omega (arith, mul-le-mul_left l h)

module _ (s : List ℕ) (few : length (nodes_of s) ≤ most_rows) where
  pub frames-square : length (nodes_of s) * length (frame_items (nodes_of s)) ≤ 18014398509481984
  frames-square = square (length (nodes_of s)) (length (frame_items (nodes_of s))) few (items-few (nodes_of s) (nodes-within s))

  pub over-fits : (tag : ℕ) (always : Bool) (reads : List ℕ) (shared : ℕ) → length reads ≤ 3
      → over_group (nodes_of s) tag always reads shared (frame_items (nodes_of s)) ≤ 90071992547409920
  over-fits tag always reads shared h =
      let l = length (nodes_of s) in
      let m = length (frame_items (nodes_of s)) in
      omega (
        arith,
        over-few (nodes_of s) (nodes-within s) tag always reads shared (frame_items (nodes_of s)),
        frames-square,
        mul-le-mul_right (l * m) h,
      )

  pub both-fits : (shared : ℕ) → over_both (nodes_of s) shared (frame_items (nodes_of s)) ≤ 36028797018963968
  both-fits shared = omega (arith, both-few (nodes_of s) (nodes-within s) shared (frame_items (nodes_of s)), frames-square)

  pub group-fits : (tag : ℕ) (always : Bool) (reads : List ℕ) (shared i : ℕ) → length reads ≤ 3
      → group_at (nodes_of s) tag always reads shared i ≤ 671088640
  group-fits tag always reads shared i h =
      omega (arith, group-few (nodes_of s) (nodes-within s) tag always reads shared i, mul-le-mul_right (length (nodes_of s)) h)

  pub all-fits : (tags : List ℕ) (from to : ℕ) → length tags ≤ 64 → to ≤ length (nodes_of s)
      → all_looked (nodes_of s) tags (members (nodes_of s) from to) ≤ 8589934592
  all-fits tags from to h k =
      let is = members (nodes_of s) from to in
      let f : length is ≤ most_rows = omega (arith, members-few (nodes_of s) from to) in
      omega (arith, all-few (nodes_of s) tags is, mul-le-mul_left (length tags) f)

  pub each_fits : (tags : List ℕ) (from to : ℕ) → length tags ≤ 64 → to ≤ length (nodes_of s)
      → looked_in_each (nodes_of s) tags (members (nodes_of s) from to) ≤ 8589934592
  each_fits tags from to h k =
      omega (arith, each-few (nodes_of s) tags (nodes-within s) to k from, mul-le-mul_left (length tags) few)

-- ---- A group at a frame, by where it stands

module _ (ns : List Node) (tag : ℕ) (reads : List ℕ) (s i : ℕ) where
  -- Not in the item: in the shared item.
  pub group-lacks : (always : Bool) → find ns tag (inside ns i) ≡ None
      → group_at ns tag always reads s i
      ≡ looked_at ns tag (inside ns i) + (looked_at ns tag (inside ns s) + looked_in_each ns reads (inside_of ns (find ns tag (inside ns s))))
  unfolding group_at group_sum in_shared
  group-lacks always e = rw (e, or-true always)

  -- In the item, and looked for in the shared item all the same, or not.
  pub group-both : (always : Bool) → always ≡ true → (g : ℕ) → find ns tag (inside ns i) ≡ Some g
      → group_at ns tag always reads s i
      ≡ looked_at ns tag (inside ns i) + (looked_at ns tag (inside ns s) + looked_in_each ns reads (inside ns g))
  unfolding group_at group_sum in_shared
  group-both always p g e = rw (p, e)

  pub group-own : (always : Bool) → always ≡ false → (g : ℕ) → find ns tag (inside ns i) ≡ Some g
      → group_at ns tag always reads s i ≡ looked_at ns tag (inside ns i) + (0 + looked_in_each ns reads (inside ns g))
  unfolding group_at group_sum in_shared
  group-own always p g e = rw (p, e)

-- ---- The tables' sums

module _ (s : List ℕ) (few : length (nodes_of s) ≤ most_rows) where
  pub root-fits : (r to : ℕ) → to ≤ length (nodes_of s) → r ≡ all_looked (nodes_of s) root_order (members (nodes_of s) 0 to) → r ≤ 8589934592
  unfolding root_order
  root-fits r to h e = omega (arith, e, all-fits s few root_order 0 to (omega arith) h)

  pub masks-fit : (r from to : ℕ) → to ≤ length (nodes_of s) → r ≡ looked_in_each (nodes_of s) mask_tags (members (nodes_of s) from to)
      → r ≤ 8589934592
  unfolding mask_tags mask_searches
  masks-fit r from to h e = omega (arith, e, each_fits s few mask_tags from to (omega arith) h)

-- The order of the tags counts nothing: they may be put in order one after the other.
put : ℕ → List ℕ → List ℕ
put tag [] = tag ∷ []
put tag (t ∷ ts) = cond (leb tag t) (tag ∷ t ∷ ts) (t ∷ put tag ts)

in_order : List ℕ → List ℕ
in_order [] = []
in_order (t ∷ ts) = put t (in_order ts)

all-put : (ns : List Node) (tag : ℕ) (tags is : List ℕ) → all_looked ns (put tag tags) is ≡ looked_at ns tag is + all_looked ns tags is
unfolding all_looked put
all-put ns tag [] is = refl
all-put ns tag (t ∷ ts) is = go (all-put ns tag ts is) (leb tag t)
  where
    go : all_looked ns (put tag ts) is ≡ looked_at ns tag is + all_looked ns ts is → (b : Bool)
        → all_looked ns (cond b (tag ∷ t ∷ ts) (t ∷ put tag ts)) is ≡ looked_at ns tag is + (looked_at ns t is + all_looked ns ts is)
    go e true = refl
    go e false = omega (arith, e)

all-order : (ns : List Node) (tags is : List ℕ) → all_looked ns (in_order tags) is ≡ all_looked ns tags is
unfolding all_looked in_order
all-order ns [] is = refl
all-order ns (t ∷ ts) is = all-put ns t (in_order ts) is ∙ ap (λ (n : ℕ). looked_at ns t is + n) (all-order ns ts is)

root-ordered : root_order ≡ in_order root_tags
unfolding put in_order root_order root_tags root_searches
root-ordered = refl

root-order : (ns : List Node) (is : List ℕ) → all_looked ns root_order is ≡ all_looked ns root_tags is
root-order ns is = rw root-ordered (all-order ns root_tags is)

pub root-rises : rises 0 root_order ≡ true
unfolding rises root_order
root-rises = refl

pub root-sum : (ns : List Node) (to : ℕ) → to ≡ length ns
    → all_looked ns root_order (members ns 0 to) ≡ searched_among ns root_searches (root ns)
unfolding root_tags
root-sum ns to e = rw e (root-order ns (root ns) ∙ sym (searched-is ns root_searches (root ns)))

pub masks-sum : (ns : List Node) (js : List ℕ) → js ≡ mask_items ns → looked_in_each ns mask_tags js ≡ mask_sum ns (mask_items ns)
masks-sum ns js e = rw e (sym (mask_is ns (mask_items ns)))
