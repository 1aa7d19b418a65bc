-- For a frame of an accepted object no step lacks anything: its cells all answer, and the list of them is the picture. What
-- demand 3 (Drawing) says of the definitions is `nothing-lacks`.
use Rattle.std.specs.Prelude.{Option, Some, None}
use mathlib.Core.Path.{◌≡◌, refl, sym, ap, ◌∙◌, subst}
use mathlib.Core.Bool.{Bool, true, false, ◌&&◌}
use mathlib.Core.List.{List, [], ◌∷◌, ◌++◌}
use Prim.Native.Nat.{ℕ, zero, suc, ◌-◌, ◌*◌, ◌/◌, ◌%◌, ◌^◌, ◌≤◌, ◌<◌}
use native.Mathlib.Omega.{arith}
use lib.ListN.{length, length-append}
use lib.IntN.{ℤ, pos, ◌+ℤ◌, ◌-ℤ◌}
use lib.Dec.{eqb, leb}
use borrow.Author.Tests.{ne_eqb, le-leb}
use Rattle.value.specs.Number.{number_or0}
use Rattle.basics.specs.Bytes.{IsBytes}
use Rattle.shift.specs.declared.Moves.{Moves}
use Rattle.node.specs.Nodes.{Node, nodes_of, root}
use Rattle.pixel.specs.declared.Geometry.{Geometry}
use Rattle.pixel.specs.Pixel.{samples_of, is_frame, sample_at, are_inside, blended_at}
use Rattle.pixel.proofs.Blend.{are-inside}
use Rattle.window.specs.declared.Window.{Window}
use Rattle.window.specs.Window.{level_of, shaded}
use Rattle.window.specs.Internal.{Drawable}
use Rattle.window.proofs.Laws.{leveled, shade_number, shaded-is}
use Rattle.steps.specs.Given.{need, check, collect}
use Rattle.steps.specs.Steps.{Mask, native_cell, masked_cell, are_frames, picture_by, geometry_of, mask_for, steps_of, native as no_mask}
use Rattle.steps.specs.Steps.{masked as mask_by}
use Rattle.basics.specs.Tags
use Rattle.element.specs.Elements.{us_in}
use Rattle.element.specs.Frames.{frames_of}
use Rattle.conformance.specs.declared.Finding.TheVariants.{Accepted}
use Rattle.conformance.specs.Judging.{finding_of}
use Rattle.display.specs.Show.{image_size}
use Rattle.steps.proofs.Given.{never}
use Rattle.steps.proofs.Laws.{to-picture}
use Rattle.display.specs.Drawing.{AllLevels, Whole}
use Rattle.display.proofs.Small.{us-in-small}
use Rattle.display.proofs.Objects.{object, windowed}
use Rattle.display.proofs.Masks.{masking}
use Rattle.display.specs.Internal.{AllWithin, SoundMask, Gives}
use Rattle.display.proofs.Accepted.{Object, GivesWindow}

-- ---- Cells that all answer

pub all-levels-append : (a b : List ℕ) → AllLevels a → AllLevels b → AllLevels (a ++ b)
all-levels-append [] b p q = q
all-levels-append (y ∷ ys) b p q = (p.0, all-levels-append ys b p.1 q)

-- A cell that lacks nothing.
pub record Cell (o : Option ℕ) : Type 0 where
  pub y : ℕ
  pub is : o ≡ Some y
  pub small : y ≤ 255

-- The list of n cells that lack nothing.
pub record Cells (f : ℕ → Option ℕ) (n : ℕ) : Type 0 where
  pub l : List ℕ
  pub is : collect f n ≡ Some l
  pub size : length l ≡ n
  pub levels : AllLevels l

pub collect-all : (f : ℕ → Option ℕ) (n : ℕ) → ((i : ℕ) → i < n → Cell (f i)) → Cells f n
unfolding collect
collect-all f zero h = record { l = []; is = refl; size = refl; levels = tt }
collect-all f (suc n) h =
    let c = collect-all f n (λ i k. h i (omega arith)) in
    let e = h n (omega arith) in
    record {
      l = c.l ++ (e.y ∷ []);
      is = rw (c.is, e.is);
      size = simp length-append (omega (arith, c.size));
      levels = all-levels-append c.l (e.y ∷ []) c.levels (e.small, tt);
    }

-- ---- A cell lacks nothing in a window that can be drawn with

shade-small : (inverse : Bool) (y : ℕ) → y ≤ 255 → shade_number inverse y ≤ 255
shade-small true y h = omega arith
shade-small false y h = h

level-cell : (w : Window) → Drawable w → (inverse : Bool) (x : ℤ) → Cell (shaded inverse (level_of w x))
level-cell w d inverse x =
    let l = leveled w x in
    record {
      y = shade_number inverse l.y;
      is = ap (shaded inverse) l.is ∙ shaded-is inverse l.y l.small;
      small = shade-small inverse l.y l.small;
    }

pub native-cell : (g : Geometry) (v : List ℕ) (f : ℕ) (w : Window) → Drawable w → (inverse : Bool) (i : ℕ)
    → Cell (native_cell g v f w inverse i)
unfolding native_cell
native-cell g v f w d inverse i = level-cell w d inverse (pos (sample_at g v f i))

-- With a bit stored x is a whole number.
pub some_bits : (b : ℕ) → 1 ≤ b → eqb b 0 ≡ false
some_bits b h = ne_eqb b 0 (λ e. omega arith)

pub masked-cell : (g : Geometry) → 1 ≤ g.stored → (v : List ℕ) (f : ℕ) (ks : List ℕ) (m : Moves) (w : Window) → Drawable w
    → (inverse : Bool) (i : ℕ)
    → 1 ≤ length ks → are_inside g m i ≡ true → Cell (masked_cell g v f ks m w inverse i)
unfolding masked_cell
masked-cell g l v f ks m w d inverse i one h =
    rw (le-leb 1 (length ks) one, h, some_bits g.stored l)
    (level-cell w d inverse (pos (sample_at g v f i) -ℤ pos (blended_at g v ks m i) +ℤ pos (2 ^ (g.stored - 1))))

-- ---- The mask frames are frames

pub are-frames : (g : Geometry) (v : List ℕ) (n : ℕ) → ((k : ℕ) → 1 ≤ k → k ≤ n → is_frame g v k ≡ true) → (ks : List ℕ) → AllWithin n ks
    → are_frames g v ks ≡ true
unfolding are_frames
are-frames g v n h [] a = refl
are-frames g v n h (k ∷ ks) a = rw (h k a.0.0 a.0.1, are-frames g v n h ks a.1)

-- ---- The size of the picture

-- The size of a frame is Rows × Columns.
size-checked : (t : Bool) (x g : Geometry) → check t (Some x) ≡ Some g → samples_of g ≡ samples_of x
size-checked true x g e =
    let q : x ≡ g = cc in
    ap samples_of (sym q)
size-checked false x g e = absurd (never e)

size-given : (r c a b : Option ℕ) (g : Geometry)
    → need r (λ r. need c (λ c.
    need a (λ a. need b (λ b. check (leb 8 a && eqb (a % 8) 0) (Some (record { rows = r; columns = c; width = a / 8; stored = b }))))))
    ≡ Some g
    → samples_of g ≡ number_or0 r * number_or0 c
size-given (Some r) (Some c) (Some a) (Some b) g e = size-checked (leb 8 a && eqb (a % 8) 0)
    (record { rows = r; columns = c; width = a / 8; stored = b }) g e
size-given (Some r) (Some c) (Some a) None g e = absurd (never e)
size-given (Some r) (Some c) None b g e = absurd (never e)
size-given (Some r) None a b g e = absurd (never e)
size-given None c a b g e = absurd (never e)

pub geometry-size : (ns : List Node) (g : Geometry) → geometry_of ns ≡ Some g → samples_of g ≡ image_size ns
unfolding geometry_of
geometry-size ns g e = size-given (us_in ns Tags.Rows (root ns)) (us_in ns Tags.Columns (root ns)) (us_in ns Tags.BitsAllocated (root ns))
    (us_in ns Tags.BitsStored (root ns)) g e

-- ---- The picture

module _ (ns : List Node) (f : ℕ) (o : Object ns) (low : 1 ≤ f) (high : f ≤ o.n) (w : GivesWindow ns f o.g.stored)
    (k : Gives o.n (mask_for ns f)) where
  drawn : Whole ns f
  unfolding picture_by
  drawn =
      go k.m k.sound
      (to-picture ns f o.g o.v w.w o.inverse o.geometry o.pixels (o.inside f low high) w.window o.photometric
      k.m k.mask)
    where
      go : (m : Mask) → SoundMask o.n m → steps_of ns f ≡ picture_by o.g o.v f w.w o.inverse m → Whole ns f
      go no_mask s e =
          let c = collect-all (native_cell o.g o.v f w.w o.inverse) (samples_of o.g)
          (λ i h. native-cell o.g o.v f w.w w.drawable o.inverse i) in
          record {
            p = record { masked = false; samples = c.l };
            is = e ∙ rw c.is;
            size = c.size ∙ geometry-size ns o.g o.geometry;
            levels = c.levels;
          }
      go (mask_by ks mv) s e =
          let c = collect-all (masked_cell o.g o.v f ks mv w.w o.inverse) (samples_of o.g) (λ i h.
          masked-cell o.g o.stored_low o.v f ks mv w.w w.drawable o.inverse i s.0 (are-inside o.g mv i h)) in
          record {
            p = record { masked = true; samples = c.l };
            is = e ∙ rw (are-frames o.g o.v o.n o.inside ks s.1.1.0, c.is);
            size = c.size ∙ geometry-size ns o.g o.geometry;
            levels = c.levels;
          }

pub nothing-lacks : (s : List ℕ) → IsBytes s → finding_of (nodes_of s) ≡ Accepted → (f : ℕ) → 1 ≤ f → f ≤ number_or0 (frames_of (nodes_of s))
    → Whole (nodes_of s) f
nothing-lacks s b ok f low high =
    let ns = nodes_of s in
    let o = object ns (λ tag k e. us-in-small s b tag k (root ns) e) ok in
    let h : f ≤ o.n = subst (λ (x : Option ℕ). f ≤ number_or0 x) o.frames high in
    drawn ns f o low h (windowed ns ok o f low h) (masking ns ok o.n o.frames o.some-frame o.few-frames f low h)
