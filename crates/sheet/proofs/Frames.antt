-- Counting one frame more leaves one frame fewer to count, so what is counted and what is left come to the same; the cursor over the
-- items moves with the frames.
use Rattle.std.specs.Prelude.{Some, None}
use mathlib.Core.Path.{◌≡◌, sym, ap, ◌∙◌}
use mathlib.Core.Bool.{Bool, true, false, cond}
use mathlib.Core.List.{List}
use Prim.Native.Nat.{ℕ, zero, suc, ◌+◌, ◌-◌, ◌*◌, ◌≤◌, ◌<◌}
use native.Mathlib.Omega.{arith}
use lib.ListN.{length, drop}
use borrow.Author.Tests.{le-leb, ne_eqb}
use Rattle.node.specs.Nodes.{Node}
use Rattle.node.proofs.Walks.{members-end, members-next}
use Rattle.element.specs.declared.Items.{Items}
use Rattle.element.specs.Internal.{Along}
use Rattle.element.specs.Elements.{first}
use Rattle.element.specs.Frames.{frame_items}
use Rattle.display.specs.Show.{picture_of}
use Rattle.ranges.specs.Internal.{item_of}
use Rattle.value.specs.Internal.{Below}
use Rattle.sheet.specs.Sheet.{levels_of, natives_of}
use Rattle.sheet.specs.Internal.{tallied, Room}
use Rattle.display.specs.Internal.{IsItem}
use Rattle.sheet.proofs.Counts.{tallied-append}
use Rattle.sheet.proofs.Runs.{tallied-most}

-- ---- Items

module _ (ns : List Node) (f : ℕ) (c : Items) (w : Along ns (drop (f - 1) (frame_items ns)) c) (low : 1 ≤ f) where
  pub item-some : c.at < c.end → IsItem ns f (Some c.at)
  item-some h = record {
    is = rw (le-leb 1 f low) (sym (ap first (sym w.ahead ∙ members-next ns c.at c.end h)));
    below = omega (arith, w.inner);
  }

  pub item-none : c.end ≤ c.at → IsItem ns f None
  item-none h = record { is = rw (le-leb 1 f low) (sym (ap first (sym w.ahead ∙ members-end ns c.at c.end h))); below = tt }

-- ---- Levels and room

-- What is left to count, with one frame counted.
pub frames-more : (ns : List Node) (f end : ℕ) (now after : List ℕ) → f < end → after ≡ tallied (picture_of ns f).samples now
    → tallied (levels_of ns (f + 1) (end - (f + 1))) after ≡ tallied (levels_of ns f (end - f)) now
unfolding levels_of
frames-more ns f end now after h e =
    let z : end - f ≡ suc (end - (f + 1)) = omega arith in
    ap (tallied (levels_of ns (f + 1) (end - (f + 1)))) e
    ∙ (sym (tallied-append (picture_of ns f).samples (levels_of ns (f + 1) (end - (f + 1))) now)
    ∙ ap (λ (k : ℕ). tallied (levels_of ns f k) now) (sym z))

pub frames-none : (ns : List Node) (f end : ℕ) (now : List ℕ) → end ≤ f → tallied (levels_of ns f (end - f)) now ≡ now
unfolding levels_of tallied
frames-none ns f end now h =
    let z : end - f ≡ 0 = omega arith in
    rw z

-- The native frames that are left, with one frame counted.
pub natives-more : (ns : List Node) (f end m after : ℕ) → f < end → after ≡ cond (picture_of ns f).masked 0 1 + m
    → after + natives_of ns (f + 1) (end - (f + 1)) ≡ m + natives_of ns f (end - f)
unfolding natives_of
natives-more ns f end m after h e =
    let z : end - f ≡ suc (end - (f + 1)) = omega arith in
    rw (z, e) (omega arith)

pub natives-none : (ns : List Node) (f end m : ℕ) → end ≤ f → m + natives_of ns f (end - f) ≡ m
unfolding natives_of
natives-none ns f end m h =
    let z : end - f ≡ 0 = omega arith in
    rw z (omega arith)

pub one-most : (b : Bool) → cond b 0 1 ≤ 1
one-most true = omega arith
one-most false = omega arith

pub natives-few : (ns : List Node) (f n : ℕ) → natives_of ns f n ≤ n
unfolding natives_of
natives-few ns f zero = omega arith
natives-few ns f (suc n) = omega (arith, natives-few ns (f + 1) n, one-most (picture_of ns f).masked)

split-left : (f end m : ℕ) → f < end → (end - f) * m ≡ m + (end - (f + 1)) * m
split-left f end m h =
    let z : end - f ≡ suc (end - (f + 1)) = omega arith in
    rw z (omega arith)

pub room-one : (f end m : ℕ) (now : List ℕ) → f < end → Room now ((end - f) * m) → Room now m
room-one f end m now h r = record { below = λ y. omega (arith, r.below y, split-left f end m h) }

pub room-rest : (f end m : ℕ) (l now after : List ℕ) → f < end → length l ≡ m → after ≡ tallied l now → Room now ((end - f) * m)
    → Room after ((end - (f + 1)) * m)
room-rest f end m l now after h e a r = record { below = λ y. rw a (omega (arith, r.below y, split-left f end m h, tallied-most l now y)) }

-- ---- The mask item that applies

pub item-below : (n w : ℕ) → w ≤ n → Below n (item_of w)
item-below n zero h = tt
item-below n (suc w) h = rw (ne_eqb (suc w) 0 (λ e. omega (arith, e))) (omega arith)
