-- What the functions inside `linear` require. None of this is in the papers.
use Rattle.std.specs.Prelude.{◌≡◌, true, List, ℕ, ◌≤◌, length, Some}
use Rattle.node.specs.Nodes.{Node}
use Rattle.pixel.specs.declared.Geometry.{Geometry}
use Rattle.pixel.specs.Pixel.{samples_of, is_frame}
use Rattle.pixel.specs.Internal.{Shaped}
use Rattle.rules.specs.Intensity.{is_lut, has_lut}
use Rattle.steps.specs.Steps.{geometry_of, pixels_of}

-- What mapping the cells of a frame needs.
pub record MapReady (pixels : List ℕ) (g : Geometry) (frame : ℕ) (descriptor entries : List ℕ) (values : List ℕ) : Type 0 where
  pub shape : Shaped g
  pub inside : is_frame g pixels frame ≡ true
  pub room : samples_of g ≤ length values
  pub lut : is_lut descriptor entries ≡ true

-- Frame f of an accepted object, with TO_LINEAR item j and room.
pub record Mappable (ns : List Node) (f j most : ℕ) : Type 0 where
  pub g : Geometry
  pub geometry : geometry_of ns ≡ Some g
  pub v : List ℕ
  pub pixels : pixels_of ns ≡ Some v
  pub shape : Shaped g
  pub inside : is_frame g v f ≡ true
  pub room : samples_of g ≤ most
  pub lut : has_lut ns j ≡ true
