-- Painting from the table of shades gives the picture of the steps, native or masked, and leaves the image untouched beyond it.
use Rattle.std.specs.Prelude.{Some}
use mathlib.Core.Path.{◌≡◌, sym, ap, ◌∙◌}
use mathlib.Core.Bool.{Bool, true, false}
use mathlib.Core.List.{List, [], ◌∷◌, ◌++◌}
use Prim.Native.Nat.{ℕ, ◌+◌, ◌-◌, ◌^◌, ◌≤◌}
use lib.ListN.{length, drop}
use Rattle.value.specs.Number.{us_values}
use Rattle.shift.specs.declared.Moves.{Moves}
use Rattle.node.specs.Nodes.{Node}
use Rattle.element.specs.Elements.{value_at}
use Rattle.pixel.specs.declared.Geometry.{Geometry}
use Rattle.pixel.specs.Pixel.{samples_of, is_frame}
use Rattle.pixel.specs.Internal.{painted, native_shade, masked_shade}
use Rattle.window.specs.declared.Window.{Window}
use Rattle.window.specs.Internal.{Drawable, shade_at, Filled}
use Rattle.steps.specs.Steps.{Picture, geometry_of, pixels_of, mask_for, window_for, inverse_of, native_cell, masked_cell, picture_by}
use Rattle.steps.specs.Steps.{steps_of, native as no_mask, masked as mask_of}
use Rattle.display.specs.declared.Masking.{Masking}
use Rattle.display.specs.declared.Masking.TheVariants as masking
use Rattle.display.specs.Show.{picture_in, picture_of}
use Rattle.display.specs.Internal.{SoundMask, Gives, masking_of, is_masked, shade_by}
use Rattle.steps.proofs.Laws.{to-picture}
use Rattle.display.proofs.Answering.{gives-sound}
use Rattle.display.proofs.Lacking.{are-frames}
use Rattle.display.proofs.Pictures.{collected, native-is, masked-is}

-- The picture is p, and painting gives its samples.
pub record Shows (ns : List Node) (f : ℕ) (masked : Bool) (image after : List ℕ) : Type 0 where
  pub masked-is : masked ≡ (picture_of ns f).masked
  pub image-is : after ≡ (picture_of ns f).samples ++ drop (length (picture_of ns f).samples) image

steps-show : (ns : List Node) (f : ℕ) (p : Picture) → steps_of ns f ≡ Some p → (image after : List ℕ)
    → after ≡ p.samples ++ drop (length p.samples) image → Shows ns f p.masked image after
unfolding picture_of
steps-show ns f p e image after h =
    let u : picture_in (steps_of ns f) ≡ p = ap picture_in e in
    record {
      masked-is = ap (λ (q : Picture). q.masked) (sym u);
      image-is = h ∙ ap (λ (q : Picture). q.samples ++ drop (length q.samples) image) (sym u);
    }

module _ (ns : List Node) (f n : ℕ) (g : Geometry) (v : List ℕ) (w : Window) (inverse : Bool)
    (is_g : geometry_of ns ≡ Some g) (is_v : pixels_of ns ≡ Some v) (frame : is_frame g v f ≡ true) (is_w : window_for ns f g.stored ≡ Some w)
    (d : Drawable w) (is_i : inverse_of ns ≡ Some inverse) (whole : (k : ℕ) → 1 ≤ k → k ≤ n → is_frame g v k ≡ true) (low : 1 ≤ g.stored)
    (table : List ℕ) (t : Filled (shade_at w g.stored inverse) (2 ^ (g.stored + 1) - 1) table) (image : List ℕ)
    (room : samples_of g ≤ length image) where
  ends : (l : List ℕ) → length l ≡ samples_of g → (after : List ℕ) → after ≡ l ++ drop (samples_of g) image
      → after ≡ l ++ drop (length l) image
  ends l e after h = h ∙ ap (λ (k : ℕ). l ++ drop k image) (sym e)

  native-shows : mask_for ns f ≡ Some no_mask → Shows ns f false image (painted (native_shade table g v f) (samples_of g) image)
  unfolding picture_by
  native-shows e =
      let c = collected (native_cell g v f w inverse) (native_shade table g v f) (samples_of g) image room
      (λ i h. native-is g v f low w d inverse table t i) in
      let is = to-picture ns f g v w inverse is_g is_v frame is_w is_i no_mask e in
      steps-show ns f (record { masked = false; samples = c.l }) (is ∙ rw c.is) image
      (painted (native_shade table g v f) (samples_of g) image) (ends c.l c.size _ c.image-is)

  masked-shows : (ks : List ℕ) (mv : Moves) → mask_for ns f ≡ Some (mask_of ks mv) → SoundMask n (mask_of ks mv)
      → Shows ns f true image (painted (masked_shade table g v f ks mv) (samples_of g) image)
  unfolding picture_by
  masked-shows ks mv e s =
      let c = collected (masked_cell g v f ks mv w inverse) (masked_shade table g v f ks mv) (samples_of g) image room
      (λ i h. masked-is g v f low w d inverse table t ks mv s.0 s.1.0 i h) in
      let is = to-picture ns f g v w inverse is_g is_v frame is_w is_i (mask_of ks mv) e in
      steps-show ns f (record { masked = true; samples = c.l }) (is ∙ rw (are-frames g v n whole ks s.1.1.0, c.is))
      image (painted (masked_shade table g v f ks mv) (samples_of g) image) (ends c.l c.size _ c.image-is)

  pub painted-shows : (k : Masking) → Some (masking_of ns k) ≡ mask_for ns f → Gives n (mask_for ns f)
      → Shows ns f (is_masked k) image (painted (shade_by ns table g v f k) (samples_of g) image)
  painted-shows masking.Native e q = native-shows (sym e)
  painted-shows (masking.Average k mv) e q = masked-shows (us_values (value_at ns k)) mv (sym e)
      (gives-sound n (mask_of (us_values (value_at ns k)) mv) (mask_for ns f) (sym e) q)
  painted-shows (masking.One k mv) e q = masked-shows (k ∷ []) mv (sym e) (gives-sound n (mask_of (k ∷ []) mv) (mask_for ns f) (sym e) q)
