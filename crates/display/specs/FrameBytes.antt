-- The bytes that a frame is drawn from (document 02, Q-5): "A frame looked at as its own part of the pixel bytes must be shown to be
-- exactly that frame's bytes, in the data set as lent." Take a data set as lent, in which the steps find a geometry g and pixel bytes.
-- Let p be the row of its Pixel Data (7FE0,0010), and `pixels` the part of the data set that `value_part` hands out for that row. Then
-- the bytes of that part are the steps' pixel bytes. And the view that the code makes of frame f of it, for any f, lies in the data set
-- f - 1 frames after the offset of Pixel Data, is as long as a frame, and holds the cells that step 1 reads as those of frame f
-- (`InDataSet` of `Rattle.frame`). Proved in proofs/FrameBytes.
use Rattle.std.specs.Prelude.{◌≡◌, List, ℕ, Some}
use Rattle.std.specs.Borrow.{Bor}
use Rattle.basics.specs.Tags
use Rattle.dataset.specs.Tree.{rows_of, row_at}
use Rattle.node.specs.Nodes.{nodes_of, root}
use Rattle.node.specs.Find.{find}
use Rattle.pixel.specs.declared.Geometry.{Geometry}
use Rattle.frame.specs.declared.FrameView.{FrameView}
use Rattle.frame.specs.View.{Part, IsView, InDataSet}
use Rattle.steps.specs.Steps.{geometry_of, pixels_of}

-- The row, the geometry and the pixel bytes l of a data set as lent, as the steps find them.
pub record Lent (bytes : Bor (List ℕ)) (p : ℕ) (g : Geometry) (l : List ℕ) : Type 0 where
  pub row : find (nodes_of bytes.now) Tags.PixelData (root (nodes_of bytes.now)) ≡ Some p
  pub geometry : geometry_of (nodes_of bytes.now) ≡ Some g
  pub pixels : pixels_of (nodes_of bytes.now) ≡ Some l

-- What the code has in hand: the value of row p, as `value_part` promises it, and frame f of it, as `view` does.
pub record InHand (bytes : Bor (List ℕ)) (p : ℕ) (g : Geometry) (pixels : Bor (List ℕ)) (f : ℕ) (v : FrameView) : Type 0 where
  pub value : Part bytes (row_at (rows_of bytes.now) p).offset (row_at (rows_of bytes.now) p).size pixels
  pub frame : IsView pixels g.rows g.columns g.width f v

pub record OwnBytes (bytes : Bor (List ℕ)) (p : ℕ) (g : Geometry) (l : List ℕ) (pixels : Bor (List ℕ)) (f : ℕ) (v : FrameView)
    : Type 0 where
  pub pixels-are : pixels.now ≡ l
  pub frame : InDataSet bytes p g l f v

-- For every data set as lent, every frame number, and every view that the code makes of that frame.
abbrev pub FrameBytes : Type 0
FrameBytes = (bytes : Bor (List ℕ)) (p : ℕ) (g : Geometry) (l : List ℕ) → Lent bytes p g l
    → (pixels : Bor (List ℕ)) (f : ℕ) (v : FrameView) → InHand bytes p g pixels f v → OwnBytes bytes p g l pixels f v
