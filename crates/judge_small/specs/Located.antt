-- The judge's answer, and the row that it is about: if a broken rule names a frame, the row of the frame's item.
use Rattle.std.specs.Prelude.{ℕ, ◌+◌, List, Option, Some, None, Result, Ok, Err}
use Rattle.node.specs.Nodes.{Node, nodes_of}
use Rattle.element.specs.Frames.{frame_item}
use Rattle.dataset.specs.declared.ReadError.{ReadError}
use Rattle.conformance.specs.declared.Outcome.{Outcome}
use Rattle.conformance.specs.declared.Outcome.TheVariants as outcome
use Rattle.judge_small.specs.declared.Located.{Located}
use Rattle.judge_small.specs.Printed.{judge_printed}

-- The number of a node's row, counted from 1; 0 if there is none.
abbrev pub row_number : Option ℕ → ℕ
row_number (Some i) = i + 1
row_number None = 0

-- The row of item f of the per-frame functional groups; there is no item 0.
abbrev pub item_row : List Node → ℕ → ℕ
item_row ns frame = row_number (frame_item ns frame)

abbrev pub row_for : List Node → Result Outcome ReadError → ℕ
row_for ns (Ok (outcome.Accepted n)) = 0
row_for ns (Ok (outcome.Broken n rule frame)) = item_row ns frame
row_for ns (Err e) = 0

abbrev pub located : List Node → Result Outcome ReadError → Located
located ns a = record { answer = a; row = row_for ns a }

abbrev pub located_printed : List ℕ → Located
located_printed s = located (nodes_of s) (judge_printed s)
