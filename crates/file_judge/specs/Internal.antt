-- What the helpers of judging a file answer and ask for. None of this is in the papers.
use Rattle.std.specs.Prelude.{ℕ, List, Result, Ok, Err}
use Rattle.node.specs.Nodes.{nodes_of}
use Rattle.dataset.specs.declared.ReadError.{ReadError}
use Rattle.conformance.specs.declared.Outcome.{Outcome}
use Rattle.conformance.specs.declared.Outcome.TheVariants as outcome
use Rattle.searches.specs.Searches.{searches_of}
use Rattle.searches.specs.Internal.{RowsLeft}
use Rattle.file_read.specs.declared.FileError.{FileError}
use Rattle.file_judge.specs.declared.CountedFile.{CountedFile}
use Rattle.file_judge.specs.JudgeFile.{judge_part}
use Rattle.file_judge.specs.Searches.{searches_in}

-- The number of rows of a data set that was judged.
abbrev pub row_count : Outcome → ℕ
row_count (outcome.Accepted n) = n
row_count (outcome.Broken n rule frame) = n

-- The answer with its sum, for a data set and the head's SOP class.
abbrev pub counted_part : List ℕ → List ℕ → List ℕ → CountedFile
counted_part s class buffer =
    record { answer = judge_part s class buffer; searches = searches_in (searches_of (nodes_of s)) (judge_part s class buffer) }

-- If judging accepted, the row buffer begins with its rows.
abbrev pub LeftIn : List ℕ → List ℕ → Result Outcome (FileError ReadError) → Type 0
LeftIn s rows (Ok o) = RowsLeft s rows (Ok o)
LeftIn s rows (Err e) = Unit {0}
