-- What an accepted object gives to the drawing steps: the two halves of demand 3, as records. Each field is a fact that
-- follows from rules that hold.
use Rattle.std.specs.Prelude.{Some}
use mathlib.Core.Path.{◌≡◌}
use mathlib.Core.Bool.{Bool, true}
use mathlib.Core.List.{List}
use mathlib.Core.Logic.{◌⊎◌}
use Prim.Native.Nat.{ℕ, ◌*◌, ◌≤◌, ◌<◌}
use Rattle.node.specs.Nodes.{Node, root}
use Rattle.element.specs.Elements.{us_in}
use Rattle.element.specs.Frames.{frames_of}
use Rattle.pixel.specs.declared.Geometry.{Geometry}
use Rattle.pixel.specs.Pixel.{is_frame}
use Rattle.pixel.specs.Internal.{Shaped}
use Rattle.window.specs.declared.Window.{Window}
use Rattle.window.specs.Internal.{Drawable}
use Rattle.steps.specs.Steps.{geometry_of, pixels_of, window_for, inverse_of}

-- A US of the root is a number of two bytes: so it is where the nodes hold bytes.
abbrev pub SmallRoot : List Node → Type 0
SmallRoot ns = (tag k : ℕ) → us_in ns tag (root ns) ≡ Some k → k < 65536

-- The object has n frames, and each of them lies whole inside the pixel bytes.
pub record Object (ns : List Node) : Type 0 where
  pub n : ℕ
  pub frames : frames_of ns ≡ Some n
  pub some-frame : 1 ≤ n
  pub few-frames : n ≤ 65535
  pub g : Geometry
  pub geometry : geometry_of ns ≡ Some g
  pub width : (g.width ≡ 1) ⊎ (g.width ≡ 2)
  pub stored_low : 1 ≤ g.stored
  pub stored-high : g.stored ≤ 16
  pub stored-fits : g.stored ≤ 8 * g.width
  pub rows-low : 1 ≤ g.rows
  pub rows-high : g.rows ≤ 65535
  pub columns-low : 1 ≤ g.columns
  pub columns-high : g.columns ≤ 65535
  pub v : List ℕ
  pub pixels : pixels_of ns ≡ Some v
  pub inside : (k : ℕ) → 1 ≤ k → k ≤ n → is_frame g v k ≡ true
  pub inverse : Bool
  pub photometric : inverse_of ns ≡ Some inverse

-- The window of frame f.
pub record GivesWindow (ns : List Node) (f stored : ℕ) : Type 0 where
  pub w : Window
  pub window : window_for ns f stored ≡ Some w
  pub drawable : Drawable w

pub shape_of : {ns : List Node} (o : Object ns) → Shaped o.g
shape_of o = record {
  width = o.width;
  stored_some = o.stored_low;
  stored-most = o.stored-high;
  rows-some = o.rows-low;
  rows-most = o.rows-high;
  columns-some = o.columns-low;
  columns-most = o.columns-high;
}
