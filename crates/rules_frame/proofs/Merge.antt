-- Rule 27 in one walk along two items. Tags never descend in a container, so that what the walk has passed in the shared item is asked for
-- by no element that is left in the other.
use Rattle.std.specs.Prelude.{Option, Some, None}
use mathlib.Core.Path.{◌≡◌, refl, sym, ap, ◌∙◌}
use Prim.Native.Nat.{ℕ, ◌+◌, ◌≤◌, ◌<◌}
use native.Mathlib.Omega.{arith}
use mathlib.Core.List.{List, [], ◌∷◌}
use mathlib.Core.Bool.{Bool, true, false, cond, ◌&&◌, and-false}
use lib.Dec.{eqb, ltb}
use borrow.Author.Tests.{lt-ltb, ltb-true}
use Rattle.basics.specs.Vr.{SQ}
use Rattle.node.specs.Nodes.{Node, node_at, next_node, members, inside}
use Rattle.node.specs.Find.{holds, and_then, of_vr}
use Rattle.node.specs.Internal.{Ascends, from_tag, first_is}
use Rattle.node.proofs.Walks.{members-end, members-next}
use Rattle.node.proofs.Halves.{ascends-here, ascends-next, find_first, from-here, from-later}
use Rattle.element.specs.Elements.{some}
use Rattle.rules.specs.Frame.{is_shared}
use Rattle.rules_frame.specs.Internal.{is_repeated}

from-twice : (ns : List Node) (a t : ℕ) (is : List ℕ) → a ≤ t → from_tag ns t (from_tag ns a is) ≡ from_tag ns t is
unfolding from_tag
from-twice ns a t [] h = refl
from-twice ns a t (i ∷ is) h = go (from-twice ns a t is h) (ltb (node_at ns i).tag a) refl
  where
    go : from_tag ns t (from_tag ns a is) ≡ from_tag ns t is → (b : Bool) → ltb (node_at ns i).tag a ≡ b
        → from_tag ns t (from_tag ns a (i ∷ is)) ≡ from_tag ns t (i ∷ is)
    go x true d = rw (d, lt-ltb (node_at ns i).tag t (omega (arith, ltb-true (node_at ns i).tag a d))) x
    go x false d = rw d

-- What is found is of a VR just where its VR is that.
of-vr : (ns : List Node) (f : Option ℕ) → holds (and_then f (of_vr ns SQ)) (λ k. true) ≡ holds f (λ k. eqb (node_at ns k).vr SQ)
unfolding of_vr
of-vr ns None = refl
of-vr ns (Some k) = go (eqb (node_at ns k).vr SQ)
  where
    go : (b : Bool) → holds (cond b (Some k) None) (λ k. true) ≡ b
    go true = refl
    go false = refl

-- No element repeats a sequence of the shared node, if no tag there is as high as its own.
none_left : (ns : List Node) (shared : ℕ) → Ascends ns 0 (inside ns shared) → (least : ℕ) (ks : List ℕ) → Ascends ns least ks
    → ((tag : ℕ) → least ≤ tag → from_tag ns tag (inside ns shared) ≡ []) → some (is_shared ns shared) ks ≡ false
unfolding Ascends some is_shared first_is
none_left ns shared r least [] a f = refl
none_left ns shared r least (k ∷ ks) a f =
    rw (find_first ns (node_at ns k).tag 0 (inside ns shared) r, f (node_at ns k).tag a.0, and-false (eqb (node_at ns k).vr SQ))
    (none_left ns shared r (node_at ns k).tag ks a.1 (λ tag l. f tag (omega (arith, l, a.0))))

-- The walk is at j among the members up to `end`, and at k among those of the shared node, which end at `to`.
pub record Ahead (ns : List Node) (shared j end k to : ℕ) : Type 0 where
  pub least : ℕ
  pub ascends : Ascends ns least (members ns j end)
  pub same : (tag : ℕ) → least ≤ tag → from_tag ns tag (members ns k to) ≡ from_tag ns tag (inside ns shared)

pub ahead-start : (ns : List Node) (shared item end to : ℕ) → end ≡ next_node ns item → to ≡ next_node ns shared
    → Ascends ns 0 (inside ns item)
    → Ahead ns shared (item + 1) end (shared + 1) to
ahead-start ns shared item end to a b r = record { least = 0; ascends = rw a r; same = λ tag l. rw b }

module _ (ns : List Node) (shared j end k to : ℕ) (h : j < end) (a : Ahead ns shared j end k to) where
  pub ahead-asks : from_tag ns (node_at ns j).tag (members ns k to) ≡ from_tag ns (node_at ns j).tag (inside ns shared)
  ahead-asks = a.same (node_at ns j).tag (ascends-here ns j end a.least h a.ascends)

  module _ (n : ℕ) (e : members ns n to ≡ from_tag ns (node_at ns j).tag (inside ns shared)) where
    pub ahead-here : Ascends ns 0 (inside ns shared) → is_shared ns shared j ≡ is_repeated ns j (members ns n to)
    unfolding is_shared is_repeated
    ahead-here r =
        ap (λ (f : Option ℕ). eqb (node_at ns j).vr SQ && holds (and_then f (of_vr ns SQ)) (λ k. true))
        (find_first ns (node_at ns j).tag 0 (inside ns shared) r ∙ ap (first_is ns (node_at ns j).tag) (sym e))
        ∙ ap (λ (b : Bool). eqb (node_at ns j).vr SQ && b) (of-vr ns (first_is ns (node_at ns j).tag (members ns n to)))

    -- Where the shared item has ended, nothing that is left is repeated.
    pub ahead_none : to ≤ n → Ascends ns 0 (inside ns shared) → some (is_shared ns shared) (members ns j end) ≡ false
    unfolding Ascends from_tag
    ahead_none l r =
        rw (members-next ns j end h)
        (none_left ns shared r (node_at ns j).tag (j ∷ members ns (next_node ns j) end)
        (omega arith, ascends-next ns j end a.least h a.ascends)
        (λ tag m. sym (from-twice ns (node_at ns j).tag tag (inside ns shared) m)
        ∙ ap (λ (x : List ℕ). from_tag ns tag x) (sym e ∙ members-end ns n to l)))

    pub ahead-next : Ahead ns shared (next_node ns j) end n to
    ahead-next =
        record {
          least = (node_at ns j).tag;
          ascends = ascends-next ns j end a.least h a.ascends;
          same = λ tag l. ap (λ (x : List ℕ). from_tag ns tag x) e ∙ from-twice ns (node_at ns j).tag tag (inside ns shared) l;
        }

-- ---- Step by step in the shared item too

module _ (ns : List Node) (shared j end k to : ℕ) (a : Ahead ns shared j end k to) where
  -- Where the shared item has ended, nothing that is left is repeated.
  pub ahead-over : to ≤ k → Ascends ns 0 (inside ns shared) → some (is_shared ns shared) (members ns j end) ≡ false
  unfolding from_tag
  ahead-over l r =
      none_left ns shared r a.least (members ns j end) a.ascends
      (λ tag m. sym (a.same tag m) ∙ ap (λ (x : List ℕ). from_tag ns tag x) (members-end ns k to l))

  module _ (h : j < end) (g : k < to) where
    -- A lower tag of the shared item is passed.
    pub ahead-pass : (node_at ns k).tag < (node_at ns j).tag → Ahead ns shared j end (next_node ns k) to
    unfolding Ascends
    ahead-pass l =
        record {
          least = (node_at ns j).tag;
          ascends = rw (members-next ns j end h) (omega arith, ascends-next ns j end a.least h a.ascends);
          same = λ tag m.
              from-later ns tag k to g (omega arith)
              ∙ a.same tag (omega (arith, ascends-here ns j end a.least h a.ascends));
        }

    -- One that is not lower is the first that is not.
    pub ahead-at : (node_at ns j).tag ≤ (node_at ns k).tag → members ns k to ≡ from_tag ns (node_at ns j).tag (inside ns shared)
    ahead-at l = from-here ns (node_at ns j).tag k to g l ∙ ahead-asks ns shared j end k to h a
