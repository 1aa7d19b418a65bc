-- Finding an element by halves. A node's parents lead to the member of a container that it is below; and tags never descend among
-- members: they ascend among elements, and items all have one tag. So a member's tag says on which side of it the first member stands
-- whose tag is not below the one that is sought.
use Rattle.std.specs.Prelude.{Some, None}
use mathlib.Core.Path.{◌≡◌, refl, sym, ap, ◌∙◌, subst}
use Prim.Native.Nat.{ℕ, ◌+◌, ◌≤◌, ◌<◌}
use native.Mathlib.Omega.{arith}
use mathlib.Core.List.{List, [], ◌∷◌}
use mathlib.Core.Logic.{inl, inr}
use mathlib.Core.Bool.{Bool, true, false}
use lib.ListN.{length}
use lib.Dec.{eqb, ltb}
use borrow.Author.Tests.{lt-ltb, le-ltb, eq-eqb, ne_eqb, ltb-true, ltb-false, eqb-false}
use Rattle.basics.specs.Tags.{item_tag}
use Rattle.dataset.specs.declared.Row.{Row}
use Rattle.dataset.specs.Tree.{rows_of, row_at, next_row, Kind, elements, items, kind_inside, depth_inside, Member, Members}
use Rattle.dataset.proofs.Tree.{rows-members}
use Rattle.dataset.proofs.Laws.{Found, row-found, row_next, row-nested}
use Rattle.dataset.proofs.Parents.{Placed, placed}
use Rattle.node.specs.Nodes.{Node, nodes_of, node_at, next_node, members, root, inside}
use Rattle.node.specs.Find.{find}
use Rattle.node.specs.Internal.{Table, Ascends, from_tag, first_is, lower, Container, MemberAbove}
use Rattle.node.proofs.Laws.{nodes-count, row-known, node-is}
use Rattle.node.proofs.Walks.{members-end, members-next, find-later}

-- ---- Tags that never descend

-- The members of a container all have at least the tag x.
abbrev Starts : Kind → ℕ → ℕ → Type 0
Starts elements least x = x ≤ least
Starts items least x = x ≤ item_tag

starts-low : (kind : Kind) → Starts kind 0 0
starts-low elements = omega arith
starts-low items = omega arith

member-from : (size : ℕ) (kind : Kind) (depth holder least x : ℕ) (r : Row) → Member size kind depth holder least r → Starts kind least x
    → x ≤ r.tag
member-from size elements depth holder least x r m h = omega (arith, m.is.0)
member-from size items depth holder least x r m h = omega (arith, m.is.0)

member-on : (size : ℕ) (kind : Kind) (depth holder least : ℕ) (r : Row) → Member size kind depth holder least r
    → Starts kind (r.tag + 1) r.tag
member-on size elements depth holder least r m = omega arith
member-on size items depth holder least r m = omega (arith, m.is.0)

-- What is sought among members whose tags are all above it is not there.
pub find-above : (ns : List Node) (tag least : ℕ) (is : List ℕ) → Ascends ns least is → tag < least → find ns tag is ≡ None
unfolding Ascends find
find-above ns tag least [] a l = refl
find-above ns tag least (k ∷ ks) a l =
    rw (ne_eqb (node_at ns k).tag tag (λ e. omega (arith, a.0)))
    (find-above ns tag (node_at ns k).tag ks a.1 (omega (arith, a.0)))

pub ascends-here : (ns : List Node) (i to least : ℕ) → i < to → Ascends ns least (members ns i to) → least ≤ (node_at ns i).tag
unfolding Ascends
ascends-here ns i to least h a =
    let b : Ascends ns least (i ∷ members ns (next_node ns i) to) = subst (λ (l : List ℕ). Ascends ns least l) (members-next ns i to h) a in
    b.0

-- The members after one that is passed.
pub ascends-next : (ns : List Node) (i to least : ℕ) → i < to → Ascends ns least (members ns i to)
    → Ascends ns (node_at ns i).tag (members ns (next_node ns i) to)
unfolding Ascends
ascends-next ns i to least h a =
    let b : Ascends ns least (i ∷ members ns (next_node ns i) to) = subst (λ (l : List ℕ). Ascends ns least l) (members-next ns i to h) a in
    b.1

-- The search may stop at a member whose tag is above the one sought.
pub find_past : (ns : List Node) (tag i to least : ℕ) → i < to → Ascends ns least (members ns i to) → tag < (node_at ns i).tag
    → find ns tag (members ns i to) ≡ None
find_past ns tag i to least h a l =
    find-later ns tag i to h (λ e. omega arith)
    ∙ find-above ns tag (node_at ns i).tag (members ns (next_node ns i) to) (ascends-next ns i to least h a) l

-- What is found is the first member whose tag is not below the one sought, if it has that tag.
pub find_first : (ns : List Node) (tag least : ℕ) (is : List ℕ) → Ascends ns least is → find ns tag is ≡ first_is ns tag (from_tag ns tag is)
unfolding Ascends find from_tag first_is
find_first ns tag least [] a = refl
find_first ns tag least (k ∷ ks) a =
    go (find_first ns tag (node_at ns k).tag ks a.1) (ltb (node_at ns k).tag tag) refl (eqb (node_at ns k).tag tag) refl
  where
    go : find ns tag ks ≡ first_is ns tag (from_tag ns tag ks) → (t : Bool) → ltb (node_at ns k).tag tag ≡ t → (u : Bool)
        → eqb (node_at ns k).tag tag ≡ u
        → find ns tag (k ∷ ks) ≡ first_is ns tag (from_tag ns tag (k ∷ ks))
    go x true d u e = rw (d, ne_eqb (node_at ns k).tag tag (λ z. omega (arith, ltb-true (node_at ns k).tag tag d))) x
    go x false d true e = rw (d, e)
    go x false d false e =
        let n = eqb-false (node_at ns k).tag tag e in
        rw (d, e) (find-above ns tag (node_at ns k).tag ks a.1 (omega (arith, ltb-false (node_at ns k).tag tag d)))

-- ---- One member

module _ (ns : List Node) (tag i to : ℕ) where
  lower-end : to ≤ i → lower ns tag (members ns i to) to ≡ to
  unfolding lower
  lower-end h = rw (members-end ns i to h)

  lower-here : i < to → tag ≤ (node_at ns i).tag → lower ns tag (members ns i to) to ≡ i
  unfolding lower
  lower-here h l = rw (members-next ns i to h, le-ltb (node_at ns i).tag tag l)

  lower-later : i < to → (node_at ns i).tag < tag → lower ns tag (members ns i to) to ≡ lower ns tag (members ns (next_node ns i) to) to
  unfolding lower
  lower-later h l = rw (members-next ns i to h, lt-ltb (node_at ns i).tag tag l)

module _ (ns : List Node) (tag k to : ℕ) where
  pub from_end : to ≤ k → members ns k to ≡ from_tag ns tag (members ns k to)
  unfolding from_tag
  from_end h = rw (members-end ns k to h)

  pub from-here : k < to → tag ≤ (node_at ns k).tag → members ns k to ≡ from_tag ns tag (members ns k to)
  unfolding from_tag
  from-here h l = rw (members-next ns k to h, le-ltb (node_at ns k).tag tag l)

  pub from-later : k < to → (node_at ns k).tag < tag → from_tag ns tag (members ns (next_node ns k) to) ≡ from_tag ns tag (members ns k to)
  unfolding from_tag
  from-later h l = rw (members-next ns k to h, lt-ltb (node_at ns k).tag tag l)

  pub first-none : to ≤ k → first_is ns tag (members ns k to) ≡ None
  unfolding first_is
  first-none h = rw (members-end ns k to h)

  pub first-here : k < to → (node_at ns k).tag ≡ tag → first_is ns tag (members ns k to) ≡ Some k
  unfolding first_is
  first-here h e = rw (members-next ns k to h, eq-eqb (node_at ns k).tag tag e)

  pub first-other : k < to → ((node_at ns k).tag ≡ tag → ⊥) → first_is ns tag (members ns k to) ≡ None
  unfolding first_is
  first-other h n = rw (members-next ns k to h, ne_eqb (node_at ns k).tag tag n)

-- ---- The side of a member on which the first one stands whose tag is not below the tag

-- `first` is on its side of member m, of the tag `here`, which `next` follows.
pub record Sides (tag x here m next first : ℕ) : Type 0 where
  pub from : x ≤ here
  pub right : here < tag → next ≤ first
  pub left : tag ≤ here → first ≤ m

module _ (s rows : List ℕ) (t : Table s rows) where
  module _ (i : ℕ) (h : i < length (nodes_of s)) where
    tag-row : (node_at (nodes_of s) i).tag ≡ (row_at (rows_of s) i).tag
    tag-row = ap (λ (n : Node). n.tag) (node-is s rows t i h)

    pub next_row_lem : next_node (nodes_of s) i ≡ next_row (rows_of s) i
    next_row_lem = ap (λ (n : Node). i + 1 + n.descendants) (node-is s rows t i h)

  -- The first member whose tag is not below the tag stands among the members, or after them.
  lower-within : {kind : Kind} {depth holder least i to : ℕ} → Members (rows_of s) (length s) kind depth holder least i to
      → to ≤ length (nodes_of s)
      → (tag : ℕ) → (i ≤ lower (nodes_of s) tag (members (nodes_of s) i to) to) × (lower (nodes_of s) tag (members (nodes_of s) i to) to ≤ to)
  lower-within (Members.end {i} {to} e) h tag = omega (arith, lower-end (nodes_of s) tag i to (omega arith))
  lower-within (Members.member {i} {to} f m b r) h tag = go (lower-within r h tag) (ltb (node_at (nodes_of s) i).tag tag) refl
    where
      Claim : ℕ → Type 0
      Claim j = (j ≤ lower (nodes_of s) tag (members (nodes_of s) j to) to) × (lower (nodes_of s) tag (members (nodes_of s) j to) to ≤ to)

      go : Claim (next_row (rows_of s) i) → (u : Bool) → ltb (node_at (nodes_of s) i).tag tag ≡ u → Claim i
      go x true d =
          rw (lower-later (nodes_of s) tag i to (omega arith) (ltb-true (node_at (nodes_of s) i).tag tag d), next_row_lem i (omega arith))
          (omega (arith, x.0), x.1)
      go x false d = omega (arith, lower-here (nodes_of s) tag i to (omega arith) (ltb-false (node_at (nodes_of s) i).tag tag d))

  sides : {kind : Kind} {depth holder least i to : ℕ} → Members (rows_of s) (length s) kind depth holder least i to → to ≤ length (nodes_of s)
      → holder ≤ i
      → (tag m : ℕ) → i ≤ m → m < to → (row_at (rows_of s) m).parent ≡ holder → (x : ℕ) → Starts kind least x
      → Sides tag x (row_at (rows_of s) m).tag m (next_row (rows_of s) m) (lower (nodes_of s) tag (members (nodes_of s) i to) to)
  sides (Members.end e) h l tag m p q d x y = absurd (omega arith)
  sides (Members.member {kind} {depth} {holder} {least} {i} {to} f k b r) h l tag m p q d x y =
      go (λ u. sides r h (omega arith) tag m u q d (row_at (rows_of s) i).tag
      (member-on (length s) kind depth holder least (row_at (rows_of s) i) k))
      (ltb i m) refl (ltb m (next_row (rows_of s) i)) refl (ltb (node_at (nodes_of s) i).tag tag) refl
    where
      At : ℕ → ℕ → ℕ → Type 0
      At a j n = Sides tag a (row_at (rows_of s) j).tag j (next_row (rows_of s) j) (lower (nodes_of s) tag (members (nodes_of s) n to) to)

      from : x ≤ (row_at (rows_of s) i).tag
      from = member-from (length s) kind depth holder least x (row_at (rows_of s) i) k y

      same : (node_at (nodes_of s) i).tag ≡ (row_at (rows_of s) i).tag
      same = tag-row i (omega arith)

      later : (node_at (nodes_of s) i).tag < tag
          → lower (nodes_of s) tag (members (nodes_of s) i to) to ≡ lower (nodes_of s) tag (members (nodes_of s) (next_row (rows_of s) i) to) to
      later a = rw (← next_row_lem i (omega arith)) (lower-later (nodes_of s) tag i to (omega arith) a)

      here : (v : Bool) → ltb (node_at (nodes_of s) i).tag tag ≡ v → At x i i
      here true e =
          let a = ltb-true (node_at (nodes_of s) i).tag tag e in
          record {
            from = from;
            right = λ _. omega (arith, later a, lower-within r h tag);
            left = λ b. absurd (omega (arith, same));
          }
      here false e =
          let a = ltb-false (node_at (nodes_of s) i).tag tag e in
          record {
            from = from;
            right = λ b. absurd (omega (arith, same));
            left = λ _. omega (arith, lower-here (nodes_of s) tag i to (omega arith) a);
          }

      -- What is below member i has no parent before it.
      below : i < m → m < next_row (rows_of s) i → At x m i
      below u v = by_place (placed b m (omega arith) v)
        where
          by_place : Placed (rows_of s) (kind_inside kind) (depth_inside kind depth) (i + 1) (i + 1) m → At x m i
          by_place (inl o) = absurd (omega (arith, o.is, d))
          by_place (inr (p, (w, n))) = absurd (omega (arith, n.is, d))

      on : At (row_at (rows_of s) i).tag m (next_row (rows_of s) i) → (v : Bool) → ltb (node_at (nodes_of s) i).tag tag ≡ v → At x m i
      on z true e =
          let a = later (ltb-true (node_at (nodes_of s) i).tag tag e) in
          record { from = omega (arith, from, z.from); right = λ u. omega (arith, a, z.right u); left = λ u. omega (arith, a, z.left u) }
      on z false e =
          let a = ltb-false (node_at (nodes_of s) i).tag tag e in
          record {
            from = omega (arith, from, z.from);
            right = λ u. absurd (omega (arith, same, z.from));
            left = λ _. omega (arith, lower-here (nodes_of s) tag i to (omega arith) a);
          }

      go : (next_row (rows_of s) i ≤ m → At (row_at (rows_of s) i).tag m (next_row (rows_of s) i))
          → (t : Bool) → ltb i m ≡ t → (u : Bool) → ltb m (next_row (rows_of s) i) ≡ u → (v : Bool) → ltb (node_at (nodes_of s) i).tag tag ≡ v
          → At x m i
      go z false a u c v e = subst (λ (j : ℕ). At x j i) (omega (arith, ltb-false i m a)) (here v e)
      go z true a true c v e = below (ltb-true i m a) (ltb-true m (next_row (rows_of s) i) c)
      go z true a false c v e = on (z (ltb-false m (next_row (rows_of s) i) c)) v e

  -- ---- The members of a container ascend, and go on from that member

  members-ascend : {kind : Kind} {depth holder least i to : ℕ} → Members (rows_of s) (length s) kind depth holder least i to
      → to ≤ length (nodes_of s)
      → (x : ℕ) → Starts kind least x → Ascends (nodes_of s) x (members (nodes_of s) i to)
  unfolding Ascends
  members-ascend (Members.end {i} {to} e) h x y = rw (members-end (nodes_of s) i to (omega arith)) tt
  members-ascend (Members.member {kind} {depth} {holder} {least} {i} {to} f k b r) h x y =
      rw (members-next (nodes_of s) i to (omega arith), tag-row i (omega arith), next_row_lem i (omega arith)) (
        member-from (length s) kind depth holder least x (row_at (rows_of s) i) k y,
        members-ascend r h (row_at (rows_of s) i).tag (member-on (length s) kind depth holder least (row_at (rows_of s) i) k),
      )

  lower-from : {kind : Kind} {depth holder least i to : ℕ} → Members (rows_of s) (length s) kind depth holder least i to
      → to ≤ length (nodes_of s)
      → (tag : ℕ) → members (nodes_of s) (lower (nodes_of s) tag (members (nodes_of s) i to) to) to
      ≡ from_tag (nodes_of s) tag (members (nodes_of s) i to)
  lower-from (Members.end {i} {to} e) h tag =
      rw (lower-end (nodes_of s) tag i to (omega arith), ← from_end (nodes_of s) tag i to (omega arith))
      (members-end (nodes_of s) to to (omega arith) ∙ sym (members-end (nodes_of s) i to (omega arith)))
  lower-from (Members.member {i} {to} f m b r) h tag = go (lower-from r h tag) (ltb (node_at (nodes_of s) i).tag tag) refl
    where
      Claim : ℕ → Type 0
      Claim j = members (nodes_of s) (lower (nodes_of s) tag (members (nodes_of s) j to) to) to
          ≡ from_tag (nodes_of s) tag (members (nodes_of s) j to)

      go : Claim (next_row (rows_of s) i) → (u : Bool) → ltb (node_at (nodes_of s) i).tag tag ≡ u → Claim i
      go x true d =
          let l = ltb-true (node_at (nodes_of s) i).tag tag d in
          rw (lower-later (nodes_of s) tag i to (omega arith) l, ← from-later (nodes_of s) tag i to (omega arith) l, next_row_lem i (omega arith))
          x
      go x false d =
          let l = ltb-false (node_at (nodes_of s) i).tag tag d in
          rw (lower-here (nodes_of s) tag i to (omega arith) l) (from-here (nodes_of s) tag i to (omega arith) l)

  -- ---- In one container

  pub root-ascends : Ascends (nodes_of s) 0 (root (nodes_of s))
  root-ascends = rw (nodes-count s) (members-ascend (rows-members s) (omega (arith, nodes-count s)) 0 (omega arith))

  pub root-container : (n : ℕ) → n ≡ length (nodes_of s) → Container s 0 n
  root-container n e =
      record { kind = elements; depth = 0; held = rw (e, nodes-count s) (rows-members s); ends = omega (arith, e) }

  module _ (holder : ℕ) (h : holder < length (nodes_of s)) where
    around : Found (rows_of s) (length s) 0 holder (length (rows_of s))
    around = row-found (rows-members s) holder (omega arith) (row-known s holder h)

    pub node-container : (to : ℕ) → to ≡ next_node (nodes_of s) holder → Container s (holder + 1) to
    node-container to e =
        record {
          kind = kind_inside around.kind;
          depth = depth_inside around.kind around.depth_here;
          held = rw (e, next_row_lem holder h) around.first.below;
          ends = omega (arith, e, next_row_lem holder h, nodes-count s, row_next s holder (row-known s holder h));
        }

  module _ (up to : ℕ) (c : Container s up to) where
    pub container-ascends : Ascends (nodes_of s) 0 (members (nodes_of s) up to)
    container-ascends = members-ascend c.held c.ends 0 (starts-low c.kind)

    -- The first member whose tag is not below the tag, by its number.
    abbrev pub First : ℕ → ℕ
    First tag = lower (nodes_of s) tag (members (nodes_of s) up to) to

    pub first-within : (tag : ℕ) → (up ≤ First tag) × (First tag ≤ to)
    first-within tag = lower-within c.held c.ends tag

    pub first-goes-on : (tag n : ℕ) → n ≡ First tag → members (nodes_of s) n to ≡ from_tag (nodes_of s) tag (members (nodes_of s) up to)
    first-goes-on tag n e = rw e (lower-from c.held c.ends tag)

    module _ (i m : ℕ) (a : MemberAbove s up i m) (l : i < to) where
      pub member-known : m < length (nodes_of s)
      member-known = omega (arith, a.low, c.ends)

      pub first-side : (tag : ℕ) → Sides tag 0 (node_at (nodes_of s) m).tag m (next_node (nodes_of s) m) (First tag)
      first-side tag =
          rw (next_row_lem m member-known, tag-row m member-known)
          (sides c.held c.ends (omega arith) tag m a.after (omega (arith, a.low)) a.held 0 (starts-low c.kind))

    -- A node below the container is a member of it, or its parent is below the container too.
    pub step-up : (i m : ℕ) → up ≤ m → m ≤ i → i < next_node (nodes_of s) m → i < to → ((row_at (rows_of s) m).parent ≡ up → ⊥)
        → (p : ℕ) × (((row_at (rows_of s) m).parent ≡ p + 1) × ((up ≤ p) × ((p < m) × (i < next_node (nodes_of s) p))))
    step-up i m u v w l n = by_place (placed c.held m u (omega arith))
      where
        by_place : Placed (rows_of s) c.kind c.depth up up m
            → (p : ℕ) × (((row_at (rows_of s) m).parent ≡ p + 1) × ((up ≤ p) × ((p < m) × (i < next_node (nodes_of s) p))))
        by_place (inl o) = absurd (n o.is)
        by_place (inr (p, (q, x))) =
            let k : m < length (nodes_of s) = omega (arith, c.ends) in
            let j : p < length (nodes_of s) = omega (arith, x.low) in
            let e : next_row (rows_of s) m ≤ next_row (rows_of s) p = row-nested s p (omega (arith, nodes-count s)) m x.low x.high in
            (p, (omega (arith, x.is), (q, (x.low, omega (arith, next_row_lem m k, next_row_lem p j)))))

  pub inside-ascends : (holder : ℕ) → holder < length (nodes_of s) → Ascends (nodes_of s) 0 (inside (nodes_of s) holder)
  inside-ascends holder h = container-ascends (holder + 1) (next_node (nodes_of s) holder)
      (node-container holder h (next_node (nodes_of s) holder) refl)
