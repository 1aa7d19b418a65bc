-- What the functions of this crate require. None of this is in the papers.
use Rattle.std.specs.Prelude.{ℕ, ◌*◌, ◌≤◌}
use Rattle.frame.specs.View.{frame_size}

-- Frames of this size, up to f, lie inside l pixel bytes.
pub record Fits (rows columns width f l : ℕ) : Type 0 where
  pub first : 1 ≤ f
  pub some : 1 ≤ width
  pub inside : f * frame_size rows columns width ≤ l
