-- The judge's answer if the row buffer is large enough, which is what the program prints.
use Rattle.std.specs.Prelude.{ℕ, List, Result}
use Rattle.dataset.specs.Answer.{flat}
use Rattle.dataset.specs.Tree.{rows_of}
use Rattle.dataset.specs.declared.ReadError.{ReadError}
use Rattle.conformance.specs.declared.Outcome.{Outcome}
use Rattle.conformance.specs.Judging.{judge_of}

-- A row buffer that the rows exactly fill. Every larger one gives every call the same answer.
abbrev pub full_buffer : List ℕ → List ℕ
full_buffer s = flat (rows_of s)

abbrev pub judge_printed : List ℕ → Result Outcome ReadError
judge_printed s = judge_of s (full_buffer s)
