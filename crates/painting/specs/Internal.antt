-- What painting a frame requires. None of this is in the papers; a cell's level is defined in `Rattle.pixel` and `Rattle.window`.
use Rattle.std.specs.Prelude.{◌≡◌, true, List, ℕ, ◌≤◌, length}
use Rattle.pixel.specs.declared.Geometry.{Geometry}
use Rattle.pixel.specs.Pixel.{samples_of, is_frame}
use Rattle.pixel.specs.Internal.{Shaped}

-- A frame of the pixel bytes, and room for its picture.
pub record CanPaint (v : List ℕ) (g : Geometry) (f : ℕ) (image : List ℕ) : Type 0 where
  pub shape : Shaped g
  pub inside : is_frame g v f ≡ true
  pub room : samples_of g ≤ length image
