-- The count of one search, one member at a time, and that it is at most the number of members.
use mathlib.Core.Path.{◌≡◌, refl}
use Prim.Native.Nat.{ℕ, zero, suc, ◌+◌, ◌-◌, ◌≤◌, ◌<◌}
use native.Mathlib.Omega.{arith}
use mathlib.Core.List.{List, [], ◌∷◌}
use mathlib.Core.Bool.{Bool, true, false, cond}
use lib.ListN.{length, get_or-eq_default}
use lib.Dec.{ltb}
use borrow.Author.Tests.{lt-ltb, le-ltb, lt-leb, le-leb, ltb-true, ltb-false}
use Rattle.dataset.specs.Answer.{flat}
use Rattle.dataset.specs.Tree.{rows_of}
use Rattle.node.specs.Nodes.{Node, no_node, nodes_of, node_at, next_node, members_by, members, inside}
use Rattle.node.specs.Internal.{Ascends}
use Rattle.node.proofs.Laws.{table, next-within}
use Rattle.element.specs.Elements.{some}
use Rattle.searches.specs.Count.{lower_tags, remains, looked_at}

-- ---- One member

-- The members after one that is passed.
pub rest-ascends : (ns : List Node) (i least : ℕ) (is rest : List ℕ) → is ≡ i ∷ rest → Ascends ns least is → Ascends ns (node_at ns i).tag rest
unfolding Ascends
rest-ascends ns i least is rest h a =
    let b : Ascends ns least (i ∷ rest) = rw h at a in
    b.1

-- Among members whose tags are all at least the one sought, none is lower.
lower-none : (ns : List Node) (tag least : ℕ) (is : List ℕ) → Ascends ns least is → tag ≤ least → lower_tags ns tag is ≡ 0
unfolding Ascends lower_tags
lower-none ns tag least [] a l = refl
lower-none ns tag least (k ∷ ks) a l =
    rw (le-ltb (node_at ns k).tag tag (omega (arith, a.0)))
    (omega (arith, lower-none ns tag (node_at ns k).tag ks a.1 (omega (arith, a.0))))

module _ (ns : List Node) (tag : ℕ) (is : List ℕ) where
  pub looked-end : is ≡ [] → looked_at ns tag is ≡ 0
  unfolding looked_at lower_tags remains some
  looked-end h = rw h

  module _ (i : ℕ) (rest : List ℕ) (h : is ≡ i ∷ rest) where
    pub looked-later : (node_at ns i).tag < tag → looked_at ns tag is ≡ 1 + looked_at ns tag rest
    unfolding looked_at lower_tags remains some
    looked-later l = rw (h, lt-ltb (node_at ns i).tag tag l, lt-leb tag (node_at ns i).tag l) (omega arith)

    pub looked-here : (least : ℕ) → Ascends ns least is → tag ≤ (node_at ns i).tag → looked_at ns tag is ≡ 1
    unfolding looked_at lower_tags remains some
    looked-here least a l =
        rw (
          h,
          le-ltb (node_at ns i).tag tag l,
          le-leb tag (node_at ns i).tag l,
          lower-none ns tag (node_at ns i).tag rest (rest-ascends ns i least is rest h a) l,
        )

-- ---- At most the number of members

lower-few : (ns : List Node) (tag : ℕ) (is : List ℕ) → lower_tags ns tag is ≤ length is
unfolding lower_tags
lower-few ns tag [] = omega arith
lower-few ns tag (k ∷ ks) = go (ltb (node_at ns k).tag tag) (lower-few ns tag ks)
  where
    go : (b : Bool) → lower_tags ns tag ks ≤ length ks → cond b 1 0 + lower_tags ns tag ks ≤ suc (length ks)
    go true h = omega arith
    go false h = omega arith

pub looked-few : (ns : List Node) (tag : ℕ) (is : List ℕ) → looked_at ns tag is ≤ length is
unfolding looked_at lower_tags remains some
looked-few ns tag [] = omega arith
looked-few ns tag (k ∷ ks) = go (ltb (node_at ns k).tag tag) refl (looked-few ns tag ks)
  where
    go : (b : Bool) → ltb (node_at ns k).tag tag ≡ b → looked_at ns tag ks ≤ length ks → looked_at ns tag (k ∷ ks) ≤ suc (length ks)
    go true e h =
        let l = ltb-true (node_at ns k).tag tag e in
        rw (e, lt-leb tag (node_at ns k).tag l) (omega (arith, h))
    go false e h =
        let l = ltb-false (node_at ns k).tag tag e in
        rw (e, le-leb tag (node_at ns k).tag l) (omega (arith, lower-few ns tag ks))

by-few : (t : ℕ) (ns : List Node) (i to : ℕ) → length (members_by t ns i to) ≤ t
unfolding members_by
by-few zero ns i to = omega arith
by-few (suc t) ns i to = go (ltb i to) (by-few t ns (next_node ns i) to)
  where
    go : (b : Bool) → length (members_by t ns (next_node ns i) to) ≤ t → length (cond b (i ∷ members_by t ns (next_node ns i) to) []) ≤ suc t
    go true h = omega arith
    go false h = omega arith

pub members-few : (ns : List Node) (i to : ℕ) → length (members ns i to) ≤ to - i
unfolding members
members-few ns i to = by-few (to - i) ns i to

-- ---- Nodes that end within all nodes

abbrev pub Within : List Node → Type 0
Within ns = (j : ℕ) → j < length ns → next_node ns j ≤ length ns

pub nodes-within : (s : List ℕ) → Within (nodes_of s)
nodes-within s j h = next-within s (flat (rows_of s)) (table s (flat (rows_of s)) refl) j h

-- At most as many members as nodes below.
pub inside-below : (ns : List Node) (j : ℕ) → length (inside ns j) ≤ (node_at ns j).descendants
inside-below ns j = omega (arith, members-few ns (j + 1) (next_node ns j))

module _ (ns : List Node) (w : Within ns) where
  -- What is beyond the nodes has none below it.
  pub below-few : (j : ℕ) → (node_at ns j).descendants ≤ length ns
  below-few j = go (ltb j (length ns)) refl
    where
      go : (b : Bool) → ltb j (length ns) ≡ b → (node_at ns j).descendants ≤ length ns
      go true e = omega (arith, w j (ltb-true j (length ns) e))
      go false e = rw (get_or-eq_default ns no_node (ltb-false j (length ns) e)) (omega arith)

  pub inside-few : (j : ℕ) → length (inside ns j) ≤ length ns
  inside-few j = omega (arith, inside-below ns j, below-few j)
