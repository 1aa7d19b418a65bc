-- The cells of a picture, one by one: what the painting functions write is what the steps give, so the cells of frame f are the shades of
-- its samples.
use Rattle.std.specs.Prelude.{Some}
use mathlib.Core.Path.{◌≡◌, sym, ap, ◌∙◌, subst}
use mathlib.Core.Bool.{Bool, true}
use mathlib.Core.List.{List, [], ◌++◌, append-nil}
use Prim.Native.Nat.{ℕ, ◌+◌, ◌-◌, ◌^◌, ◌≤◌}
use native.Mathlib.Omega.{arith}
use lib.ListN.{length, drop, drop_of_length-le}
use Rattle.node.specs.Nodes.{Node, nodes_of}
use Rattle.element.specs.Elements.{value_at}
use Rattle.pixel.specs.declared.Geometry.{Geometry}
use Rattle.pixel.specs.Pixel.{samples_of, is_frame}
use Rattle.window.specs.declared.Window.{Window}
use Rattle.window.specs.Internal.{Drawable, shade_at, Filled}
use Rattle.steps.specs.Steps.{geometry_of, pixels_of, mask_for, window_for, inverse_of}
use Rattle.display.specs.declared.Masking.{Masking}
use Rattle.display.specs.Show.{picture_of}
use Rattle.display.specs.declared.Scene.{Scene}
use Rattle.display.specs.declared.Plan.{Plan}
use Rattle.display.specs.Internal.{Gives, masking_of, is_masked, shade_by, MasksReady, IsPixels, PlanReady}
use Rattle.display.proofs.Draws.{painted-shows}
use Rattle.display.proofs.Scenes as scenes
use Rattle.display.proofs.Whole.{Based}
use Rattle.lines.specs.declared.Shades.{Shades}
use Rattle.lines.specs.Internal.{shades_of}
use Rattle.basics.specs.Lists.{up_to}
use Rattle.lines.proofs.Lists.{up_to-length, painted-list}
use Rattle.lines.proofs.Laws.{ideal-filled}

-- Frame f is masked or not, and its cells are the shades.
pub record Drawn (ns : List Node) (f : ℕ) (masked : Bool) (shade : ℕ → ℕ) (n : ℕ) : Type 0 where
  pub masked-is : masked ≡ (picture_of ns f).masked
  pub cells : (picture_of ns f).samples ≡ up_to shade n

ends : (l m z : List ℕ) (n : ℕ) → length l ≡ n → length z ≡ n → m ++ drop n z ≡ l ++ drop (length l) z → l ≡ m
ends l m z n e k h =
    let d : drop n z ≡ [] = drop_of_length-le z {i = n} (omega arith) in
    let a : m ++ [] ≡ l ++ [] = subst (λ (x : List ℕ). m ++ x ≡ l ++ x) d (subst (λ (i : ℕ). m ++ drop n z ≡ l ++ drop i z) e h) in
    sym (append-nil l) ∙ (sym a ∙ append-nil m)

module _ (ns : List Node) (f n : ℕ) (g : Geometry) (v : List ℕ) (w : Window) (inverse : Bool)
    (is_g : geometry_of ns ≡ Some g) (is_v : pixels_of ns ≡ Some v) (frame : is_frame g v f ≡ true) (is_w : window_for ns f g.stored ≡ Some w)
    (d : Drawable w) (is_i : inverse_of ns ≡ Some inverse) (whole : (k : ℕ) → 1 ≤ k → k ≤ n → is_frame g v k ≡ true) (low : 1 ≤ g.stored)
    (table : List ℕ) (t : Filled (shade_at w g.stored inverse) (2 ^ (g.stored + 1) - 1) table) where
  pub drawn : (k : Masking) → Some (masking_of ns k) ≡ mask_for ns f → Gives n (mask_for ns f) → length (picture_of ns f).samples ≡ samples_of g
      → Drawn ns f (is_masked k) (shade_by ns table g v f k) (samples_of g)
  drawn k e q size =
      let z : List ℕ = up_to (λ _. 0) (samples_of g) in
      let l : length z ≡ samples_of g = up_to-length (λ _. 0) (samples_of g) in
      let s = painted-shows ns f n g v w inverse is_g is_v frame is_w d is_i whole low table t z (omega arith) k e q in
      record {
        masked-is = s.masked-is;
        cells = ends (picture_of ns f).samples (up_to (shade_by ns table g v f k) (samples_of g)) z (samples_of g) size l
            (sym (painted-list (shade_by ns table g v f k) (samples_of g) z (omega arith)) ∙ s.image-is);
      }

-- ---- A frame of an accepted object, by its plan

module _ {s : List ℕ} {n : ℕ} {c : Scene} {f : ℕ} {p : Plan} (r : PlanReady s n c f p) where
  pub based : Based (nodes_of s) f n c.g (value_at (nodes_of s) c.p)
  based = scenes.based s n f r.object r.low r.high c r.scene

  pub is-pixels : IsPixels (nodes_of s) c.p
  is-pixels = scenes.is-pixels s n f r.object r.low r.high c r.scene

  pub masks-ready : MasksReady (nodes_of s) (value_at (nodes_of s) c.p) c.g p.masking
  masks-ready = scenes.ready s n f r.object r.low r.high c r.scene p r.plan

  pub picture : (t : Shades) → t.window ≡ p.window → t.inverse ≡ c.inverse
      → Drawn (nodes_of s) f (is_masked p.masking)
      (shade_by (nodes_of s) (shades_of t c.g.stored) c.g (value_at (nodes_of s) c.p) f p.masking) (samples_of c.g)
  picture t same-window same-inverse =
      drawn (nodes_of s) f n c.g (value_at (nodes_of s) c.p) t.window t.inverse r.scene.geometry
      (scenes.pixels-are s n f r.object r.low r.high c r.scene).is based.inside
      (r.plan.window-is ∙ ap Some (sym same-window)) (subst Drawable (sym same-window) r.plan.drawable)
      (r.scene.inverse-is ∙ ap Some (sym same-inverse)) based.each based.shape.stored_some
      (shades_of t c.g.stored) (ideal-filled t c.g.stored based.shape.stored-most) p.masking
      r.plan.masking-is (scenes.all s n f r.object r.low r.high c r.scene).mask
      (scenes.picture-size s n f r.object r.low r.high c r.scene)
