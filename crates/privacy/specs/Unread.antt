-- A verdict depends only on values that a rule reads. Take two data sets within the size limit that both read, with the same rows but for
-- offsets and lengths, the same values at the tags that are read (specs/Read.antt), and Pixel Data of the same length. With the same row
-- buffer, `judge` gives the same code, rule, frame and row count. So the bytes of Pixel Data do not affect the verdict, nor do the values
-- of private elements or of any other element that no rule names. Proved in proofs/Unread.antt.
use Rattle.std.specs.Prelude.{◌≡◌, ℕ, cond, List, [], map, length, eqb}
use Rattle.dataset.specs.declared.Row.{Row}
use Rattle.node.specs.Nodes.{value_in}
use Rattle.basics.specs.Tags
use Rattle.conformance.specs.Judging.{judge_of}
use Rattle.privacy.specs.Read.{is_read}
use Rattle.privacy.specs.Rows.{SameRows}

-- The bytes of a row's value, if its tag is read, and the length of Pixel Data.
abbrev pub read_value : List ℕ → Row → List ℕ
read_value s r = cond (is_read r.tag) (value_in s r) []

abbrev pub pixel_length : List ℕ → Row → ℕ
pixel_length s r = cond (eqb r.tag Tags.PixelData) (length (value_in s r)) 0

pub record SameWhereRead (s t : List ℕ) : Type 0 where
  pub shape : SameRows s t
  pub values : map (read_value s) shape.rows ≡ map (read_value t) shape.others
  pub pixels : map (pixel_length s) shape.rows ≡ map (pixel_length t) shape.others

abbrev pub Unread : Type 0
Unread = (s t : List ℕ) → SameWhereRead s t → (buffer : List ℕ) → judge_of s buffer ≡ judge_of t buffer
