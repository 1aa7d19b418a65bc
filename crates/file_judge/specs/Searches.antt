-- What judging a file reports about its searches (document 02, Q-11): the sum for the data set inside with code 0, and 0 with every other
-- answer.
use Rattle.std.specs.Prelude.{ℕ, List, drop, Result, Ok, Err}
use Rattle.node.specs.Nodes.{nodes_of}
use Rattle.dataset.specs.declared.ReadError.{ReadError}
use Rattle.conformance.specs.declared.Outcome.{Outcome}
use Rattle.meta.specs.Meta.{meta_of}
use Rattle.meta.specs.declared.FileHead.{FileHead}
use Rattle.meta.specs.declared.HeadError.{HeadError}
use Rattle.searches.specs.Searches.{searches_of}
use Rattle.searches.specs.Reported.{Reported, if_accepted}
use Rattle.file_read.specs.declared.FileError.{FileError}
use Rattle.file_judge.specs.declared.CountedFile.{CountedFile}
use Rattle.file_judge.specs.JudgeFile.{judge_file_of, judge_fields}

abbrev pub searches_in : ℕ → Result Outcome (FileError ReadError) → ℕ
searches_in sum (Ok o) = if_accepted sum (Ok o)
searches_in sum (Err e) = 0

-- The sum for the data set after the head.
abbrev pub inside_sum : List ℕ → Result FileHead HeadError → ℕ
inside_sum s (Ok h) = searches_of (nodes_of (drop h.data_set s))
inside_sum s (Err e) = 0

unfoldable pub searches_file_of : List ℕ → List ℕ → ℕ
searches_file_of s buffer = searches_in (inside_sum s (meta_of s)) (judge_file_of s buffer)

-- What `judge_file_counted` answers.
abbrev pub counted_file_of : List ℕ → List ℕ → CountedFile
counted_file_of s buffer = record { answer = judge_file_of s buffer; searches = searches_file_of s buffer }

-- The paper's numbers: those of the answer, and the sum.
abbrev pub counted_fields : CountedFile → Reported
counted_fields r = record { answer = judge_fields r.answer; searches = r.searches }
