-- What is mapped of a data set if the row buffer is large enough, which is what the program prints: the answer, the frame's size and
-- the numbers.
use Rattle.std.specs.Prelude.{ℕ, List, Result, Ok, Err}
use Rattle.node.specs.Nodes.{Node, nodes_of}
use Rattle.linear.specs.declared.LinearError.{LinearError}
use Rattle.linear.specs.Answer.{linear_of, values_left}
use Rattle.judge_small.specs.Printed.{full_buffer}
use Rattle.show_small.specs.declared.Sides.{Sides}
use Rattle.show_small.specs.Shown.{sides_of, no_sides}
use Rattle.linear_small.specs.declared.Mapped.{Mapped}

-- The sides that go with an answer: those of a frame that was mapped.
abbrev pub sides_for : List Node → Result ℕ LinearError → Sides
sides_for ns (Ok n) = sides_of ns
sides_for ns (Err e) = no_sides

abbrev pub sized : List Node → Result ℕ LinearError → Mapped
sized ns a = record { answer = a; sides = sides_for ns a }

abbrev pub linear_printed : List ℕ → ℕ → List ℕ → Mapped
linear_printed s f values = sized (nodes_of s) (linear_of s f (full_buffer s) values)

-- The values buffer afterwards.
abbrev pub values_printed : List ℕ → ℕ → List ℕ → List ℕ
values_printed s f values = values_left s f (full_buffer s) values
