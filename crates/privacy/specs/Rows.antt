-- Two data sets that read well, with the same rows but for offsets and lengths.
use Rattle.std.specs.Prelude.{◌≡◌, ℕ, List, map}
use Rattle.dataset.specs.Reading.{row, read, reading_of}
use Rattle.dataset.specs.declared.Row.{Row}

-- A row without its offset and length: its tag, VR, depth, rows below and seventh number.
abbrev pub outline : Row → Row
outline r = row r.tag r.vr r.depth 0 0 r.descendants r.parent

-- Within the size limit, both read. A sequence may be of defined length in one and of undefined length in the other.
pub record SameRows (s t : List ℕ) : Type 0 where
  pub rows : List Row
  pub others : List Row
  pub reads : reading_of s ≡ read rows
  pub reads_other : reading_of t ≡ read others
  pub same : map outline rows ≡ map outline others
