-- In an accepted object no step lacks anything, and the rules bound its sizes; so its scene and the plan of each frame are what drawing
-- requires.
use Rattle.std.specs.Prelude.{Option, Some, IsSome}
use mathlib.Core.Path.{◌≡◌, sym, ap, ◌∙◌, subst}
use mathlib.Core.Bool.{true, ◌||◌}
use mathlib.Core.List.{List}
use mathlib.Core.Logic.{◌⊎◌, inl, inr}
use Prim.Native.Nat.{ℕ, ◌*◌, ◌≤◌, ◌<◌}
use lib.Dec.{eqb}
use lib.ListN.{length, take, drop}
use native.Mathlib.Omega.{arith}
use borrow.Author.Tests.{eqb-true}
use Rattle.value.specs.Number.{number_or0}
use Rattle.dataset.specs.declared.Row.{Row}
use Rattle.dataset.specs.Tree.{rows_of, row_at}
use Rattle.basics.proofs.Tests.{or-either}
use Rattle.node.specs.Nodes.{Node, nodes_of, node_at, node_of, value_in, root}
use Rattle.node.specs.Find.{find}
use Rattle.node.specs.Internal.{Table}
use Rattle.node.proofs.Laws.{node-is}
use Rattle.basics.specs.Tags
use Rattle.basics.specs.Vr.{OB, OW}
use Rattle.pixel.specs.declared.Geometry.{Geometry}
use Rattle.element.specs.Elements.{value_at}
use Rattle.pixel.specs.Pixel.{samples_of}
use Rattle.pixel.proofs.Laws.{frames-fit}
use Rattle.steps.specs.Given.{check}
use Rattle.steps.specs.Steps.{Picture, geometry_of, pixels_of, mask_for, window_for, inverse_of}
use Rattle.steps.specs.Internal.{GivesItem}
use Rattle.display.specs.Show.{image_size, picture_in, picture_of}
use Rattle.display.specs.Drawing.{Whole}
use Rattle.steps.proofs.Given.{same_some, check-some, need-some}
use Rattle.display.proofs.Lacking.{nothing-lacks}
use Rattle.display.proofs.Accepted.{GivesWindow}
use Rattle.display.proofs.Whole as whole
use Rattle.window.specs.declared.Window.{Window}
use Rattle.window.specs.Internal.{Drawable}
use Rattle.display.proofs.Answering.{there, applying-some}
use Rattle.display.specs.Internal.{Gives, GivesInverse, MasksReady, IsObject, IsScene, IsPixels, IsPlan}
use Rattle.display.specs.declared.Scene.{Scene}
use Rattle.display.specs.declared.Plan.{Plan}

-- ---- The pixel bytes

pub record Pixels (ns : List Node) (p : ℕ) : Type 0 where
  pub is : pixels_of ns ≡ Some (value_at ns p)
  pub vr : ((node_at ns p).vr ≡ OW) ⊎ ((node_at ns p).vr ≡ OB)

pub pixels-of : (ns : List Node) (p : ℕ) (v : List ℕ) → find ns Tags.PixelData (root ns) ≡ Some p → pixels_of ns ≡ Some v → Pixels ns p
unfolding pixels_of
pixels-of ns p v e h =
    let u : pixels_of ns ≡ check (eqb (node_at ns p).vr OW || eqb (node_at ns p).vr OB) (Some (value_at ns p)) = rw e in
    let c = check-some (eqb (node_at ns p).vr OW || eqb (node_at ns p).vr OB) (Some (value_at ns p)) (sym u ∙ h) in
    record { is = u ∙ rw c.0; vr = kind (or-either (eqb (node_at ns p).vr OW) (eqb (node_at ns p).vr OB) c.0) }
  where
    kind : (eqb (node_at ns p).vr OW ≡ true) ⊎ (eqb (node_at ns p).vr OB ≡ true) → ((node_at ns p).vr ≡ OW) ⊎ ((node_at ns p).vr ≡ OB)
    kind (inl e) = inl (eqb-true (node_at ns p).vr OW e)
    kind (inr e) = inr (eqb-true (node_at ns p).vr OB e)

-- They are the part of the data set that their row names.
pub pixel-bytes : (s rows : List ℕ) → Table s rows → (p : ℕ) → IsPixels (nodes_of s) p
    → take (row_at (rows_of s) p).size (drop (row_at (rows_of s) p).offset s) ≡ value_at (nodes_of s) p
pixel-bytes s rows t p h =
    let e : node_at (nodes_of s) p ≡ node_of s (row_at (rows_of s) p) = node-is s rows t p h.below in
    sym (plain (row_at (rows_of s) p) (kind h.is)) ∙ ap (λ (n : Node). n.value) (sym e)
  where
    kind : ((node_at (nodes_of s) p).vr ≡ OW) ⊎ ((node_at (nodes_of s) p).vr ≡ OB) → ((row_at (rows_of s) p).vr ≡ OW) ⊎ ((row_at (rows_of s) p).vr ≡ OB)
    kind (inl a) = inl (ap (λ (n : Node). n.vr) (sym (node-is s rows t p h.below)) ∙ a)
    kind (inr a) = inr (ap (λ (n : Node). n.vr) (sym (node-is s rows t p h.below)) ∙ a)

    plain : (r : Row) → (r.vr ≡ OW) ⊎ (r.vr ≡ OB) → value_in s r ≡ take r.size (drop r.offset s)
    plain r (inl a) = rw a
    plain r (inr a) = rw a

-- ---- Objects

pub objects : (s : List ℕ) (n f : ℕ) → IsObject s n → 1 ≤ f → f ≤ n → whole.All (nodes_of s) f n
objects s n f h low high = whole.all_of s h.bytes h.sound f n h.frames low high

-- What every step gives for all frames.
module _ (s : List ℕ) (n : ℕ) (h : IsObject s n) where
  first : whole.All (nodes_of s) 1 n
  first = objects s n 1 h (omega arith) h.some-frame

  pub geometry-there : {r : Option Geometry} → r ≡ geometry_of (nodes_of s) → IsSome r
  geometry-there e = there e first.o.geometry

  pub pixels-there : {r : Option ℕ} → r ≡ find (nodes_of s) Tags.PixelData (root (nodes_of s)) → IsSome r
  unfolding pixels_of
  pixels-there e = there e (need-some (find (nodes_of s) Tags.PixelData (root (nodes_of s))) _ first.o.pixels).1.0

  pub inverse-given : GivesInverse (inverse_of (nodes_of s))
  inverse-given = record { b = first.o.inverse; is = first.o.photometric }

  pub stored-most : {r : Option Geometry} {g : Geometry} → r ≡ geometry_of (nodes_of s) → r ≡ Some g → g.stored ≤ 16
  stored-most e q = subst (λ (x : Geometry). x.stored ≤ 16) (same_some first.o.geometry (sym e ∙ q)) first.o.stored-high

  pub few-frames : n ≤ 65535
  few-frames = omega (arith, first.o.few-frames, first.n-is)

-- And for frame f.
module _ (s : List ℕ) (n f : ℕ) (h : IsObject s n) (low : 1 ≤ f) (high : f ≤ n) where
  pub mask-given : Gives n (mask_for (nodes_of s) f)
  mask-given = (objects s n f h low high).mask

  pub item-given : GivesItem (nodes_of s) f
  item-given e = applying-some (nodes_of s) f n e mask-given

  pub frame-fits : f < 4294967296
  frame-fits = omega (arith, few-frames s n h)

  module _ (c : Scene) (q : IsScene (nodes_of s) c) where
    window-of : GivesWindow (nodes_of s) f c.g.stored
    window-of =
        let a = objects s n f h low high in
        subst (λ (x : Geometry). GivesWindow (nodes_of s) f x.stored) (same_some a.o.geometry q.geometry) a.win

    module _ {r : Option Window} (e : r ≡ window_for (nodes_of s) f c.g.stored) where
      pub window-there : IsSome r
      window-there = there e window-of.window

      pub window-is : {w : Window} → r ≡ Some w → window_for (nodes_of s) f c.g.stored ≡ Some w
      window-is p = sym e ∙ p

      pub window-drawable : {w : Window} → r ≡ Some w → Drawable w
      window-drawable p = subst Drawable (same_some window-of.window (sym e ∙ p)) window-of.drawable

pub ruleset given =
    (geometry-there, pixels-there, inverse-given, stored-most, mask-given, item-given, frame-fits, window-there, window-is, window-drawable)

-- A picture that lacks nothing has Rows × Columns cells, and in an accepted object none lacks anything.
pub whole-size : (ns : List Node) (f : ℕ) → Whole ns f → length (picture_of ns f).samples ≡ image_size ns
unfolding picture_of
whole-size ns f w = ap (λ (p : Option Picture). length (picture_in p).samples) w.is ∙ w.size

pub picture-cells : (s : List ℕ) (n f : ℕ) → IsObject s n → 1 ≤ f → f ≤ n
    → length (picture_of (nodes_of s) f).samples ≡ image_size (nodes_of s)
picture-cells s n f h low high =
    whole-size (nodes_of s) f (nothing-lacks s h.bytes h.sound f low
    (subst (λ (x : Option ℕ). f ≤ number_or0 x) (sym h.frames) high))

module _ (s : List ℕ) (n f : ℕ) (h : IsObject s n) (low : 1 ≤ f) (high : f ≤ n) (c : Scene) (q : IsScene (nodes_of s) c) where
  pub all : whole.All (nodes_of s) f n
  all = objects s n f h low high

  pub pixels-are : Pixels (nodes_of s) c.p
  pixels-are = pixels-of (nodes_of s) c.p all.o.v q.pixels all.o.pixels

  pub is-pixels : IsPixels (nodes_of s) c.p
  is-pixels = record { below = q.below; is = pixels-are.vr }

  pub based : whole.Based (nodes_of s) f n c.g (value_at (nodes_of s) c.p)
  based = whole.based_on (nodes_of s) f n c.g (value_at (nodes_of s) c.p) all low q.geometry pixels-are.is

  pub picture-size : length (picture_of (nodes_of s) f).samples ≡ samples_of c.g
  picture-size = picture-cells s n f h low high ∙ sym based.size

  module _ (p : Plan) (r : IsPlan (nodes_of s) f c.g.stored p) where
    pub ready : MasksReady (nodes_of s) (value_at (nodes_of s) c.p) c.g p.masking
    ready = whole.masks-ready (nodes_of s) (value_at (nodes_of s) c.p) c.g n based.each based.few p.masking
        (mask_for (nodes_of s) f) r.masking-is r.below all.mask

-- No more cells than this in any number of its frames.
pub cells-few : (s : List ℕ) (n : ℕ) (h : IsObject s n) → 1 ≤ n → (c : Scene) → IsScene (nodes_of s) c → (k : ℕ) → k ≤ n
    → k * image_size (nodes_of s) ≤ 281462092005375
cells-few s n h one c q k l =
    let b = based s n 1 h (omega arith) one c q in
    subst (λ (x : ℕ). k * x ≤ 281462092005375) b.size
    (frames-fit k c.g.rows c.g.columns 0 (omega (arith, b.few)) b.shape.rows-most b.shape.columns-most (omega arith))
