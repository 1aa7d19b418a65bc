-- A frame looked at as its own part of the pixel bytes (document 02, Q-5): exactly that frame's bytes, in the data set as lent.
use Rattle.std.specs.Prelude.{◌≡◌, List, ℕ, ◌+◌, ◌-◌, ◌*◌, ◌≤◌, ◌<◌, length, take, drop}
use Rattle.std.specs.Borrow.{Bor}
use Rattle.dataset.specs.Tree.{rows_of, row_at}
use Rattle.pixel.specs.declared.Geometry.{Geometry}
use Rattle.pixel.specs.Pixel.{samples_of, sample_at, cell_at}
use Rattle.frame.specs.declared.FrameView.{FrameView}

-- The reference r is the part of the lent slice s that starts at `at` and has n bytes: it points into the same memory, `at` bytes on, so
-- nothing is copied; and its bytes are those of s there.
pub record Part (s : Bor (List ℕ)) (at n : ℕ) (r : Bor (List ℕ)) : Type 0 where
  pub inside : at + n ≤ length s.now
  pub block : r.ref_ptr.0 ≡ s.ref_ptr.0
  pub place : r.ref_ptr.1 ≡ s.ref_ptr.1 + at
  pub bytes : r.now ≡ take n (drop at s.now)

-- The bytes of a frame.
abbrev pub frame_size : ℕ → ℕ → ℕ → ℕ
frame_size rows columns width = rows * columns * width

-- The view of frame f of the pixel bytes: exactly that frame's bytes, with its numbers of rows and columns.
pub record IsView (pixels : Bor (List ℕ)) (rows columns width f : ℕ) (v : FrameView) : Type 0 where
  pub part : Part pixels ((f - 1) * frame_size rows columns width) (frame_size rows columns width) v.samples
  pub rows_are : v.rows ≡ rows
  pub columns_are : v.columns ≡ columns

-- The same in the data set as lent, where p is the row of the pixel bytes: frame f starts f - 1 frames after the value's
-- offset, is as long as a frame, and holds the cells that step 1 reads as those of frame f.
pub record InDataSet (bytes : Bor (List ℕ)) (p : ℕ) (g : Geometry) (pixels : List ℕ) (f : ℕ) (v : FrameView) : Type 0 where
  pub part : Part bytes ((row_at (rows_of bytes.now) p).offset + (f - 1) * frame_size g.rows g.columns g.width)
      (frame_size g.rows g.columns g.width) v.samples
  pub cells : (i : ℕ) → i < samples_of g → cell_at g v.samples.now i ≡ sample_at g pixels f i
