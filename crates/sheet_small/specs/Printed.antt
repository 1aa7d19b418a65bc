-- The sheet of frames 1 to N if the row buffer is large enough, which is what the program prints.
use Rattle.std.specs.Prelude.{ℕ, List}
use Rattle.value.specs.Number.{number_or0}
use Rattle.dataset.specs.Answer.{flat}
use Rattle.dataset.specs.Tree.{rows_of}
use Rattle.node.specs.Nodes.{nodes_of}
use Rattle.element.specs.Frames.{frames_of}
use Rattle.sheet.specs.declared.Sampled.{Sampled}
use Rattle.sheet.specs.Answer.{sheet_of}

-- With a row buffer that the rows exactly fill; a larger one gives the same.
abbrev pub whole_sheet : List ℕ → Sampled
whole_sheet s = sheet_of s 1 (number_or0 (frames_of (nodes_of s))) (flat (rows_of s))
