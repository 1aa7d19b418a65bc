-- Judging a file (document 02, Q-1): the head first, for 15, 16 and 17; then the data set is judged as the part of the file that it is;
-- then its SOP class is compared with the head's, for 18.
use Rattle.std.specs.Prelude.{ℕ, List, drop, Result, Ok, Err}
use Rattle.basics.specs.Fields.{Fields}
use Rattle.node.specs.Nodes.{nodes_of}
use Rattle.dataset.specs.declared.ReadError.{ReadError}
use Rattle.conformance.specs.Judging as judging
use Rattle.conformance.specs.declared.Outcome.{Outcome}
use Rattle.meta.specs.Meta.{meta_of, part}
use Rattle.meta.specs.declared.FileHead.{FileHead}
use Rattle.meta.specs.declared.HeadError.{HeadError}
use Rattle.file_read.specs.declared.FileError.{FileError}
use Rattle.file_read.specs.declared.FileError.TheVariants.{Head}
use Rattle.file_read.specs.ReadFile.{same_class, in_class, file_fields}

unfoldable pub judge_part : List ℕ → List ℕ → List ℕ → Result Outcome (FileError ReadError)
judge_part s class buffer = in_class (same_class class (nodes_of s)) (judging.judge_of s buffer)

abbrev pub judge_by : List ℕ → Result FileHead HeadError → List ℕ → Result Outcome (FileError ReadError)
judge_by s (Ok h) buffer = judge_part (drop h.data_set s) (part s h.class.start h.class.stop) buffer
judge_by s (Err e) buffer = Err (Head e)

unfoldable pub judge_file_of : List ℕ → List ℕ → Result Outcome (FileError ReadError)
judge_file_of s buffer = judge_by s (meta_of s) buffer

-- The paper's numbers for each case: those of the bare call; 15 to 18 alone.
abbrev pub judge_fields : Result Outcome (FileError ReadError) → Fields
judge_fields a = file_fields judging.fields_of a
