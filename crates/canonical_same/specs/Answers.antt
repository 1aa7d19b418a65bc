-- Two data sets that the calls answer alike. Two claims are about such pairs: Q-10's (`Canonical`) and Q-7's (`Privacy` of
-- `Rattle.privacy`).
use Rattle.std.specs.Prelude.{◌≡◌, ℕ, List}
use Rattle.conformance.specs.Judging.{judge_of}
use Rattle.searches.specs.Reported.{reported_of}
use Rattle.display.specs.Show.{show_of, image_of}
use Rattle.sheet.specs.Answer.{sheet_of}
use Rattle.compare.specs.Answer.{compare_of}

-- Judged, drawn, sampled and compared alike, with any buffers, frame numbers, cells and tolerance.
pub record AnswersAlike (s t : List ℕ) : Type 0 where
  pub judged : (buffer : List ℕ) → judge_of s buffer ≡ judge_of t buffer
  pub searches : (buffer : List ℕ) → reported_of s buffer ≡ reported_of t buffer
  pub shown : (frame : ℕ) (buffer image : List ℕ) → show_of s frame buffer image ≡ show_of t frame buffer image
  pub picture : (frame : ℕ) (buffer image : List ℕ) → image_of s frame buffer image ≡ image_of t frame buffer image
  pub sampled : (first last : ℕ) (buffer : List ℕ) → sheet_of s first last buffer ≡ sheet_of t first last buffer
  pub compared : (frame : ℕ) (cells : List ℕ) (tolerance : ℕ) (buffer : List ℕ)
      → compare_of s frame cells tolerance buffer ≡ compare_of t frame cells tolerance buffer
