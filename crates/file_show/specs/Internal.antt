-- What the helpers of showing a file answer. None of this is in the papers.
use Rattle.std.specs.Prelude.{ℕ}
use Rattle.conformance.specs.declared.Outcome.{Outcome}
use Rattle.conformance.specs.declared.Outcome.TheVariants as outcome

-- The number of rows of a data set that was judged.
abbrev pub row_count : Outcome → ℕ
row_count (outcome.Accepted n) = n
row_count (outcome.Broken n rule frame) = n
