-- What is shown of a data set if the row buffer is large enough, which is what the program prints: the answer, the image's size and the
-- image.
use Rattle.std.specs.Prelude.{ℕ, List, Result, Ok, Err}
use Rattle.value.specs.Number.{number_or0}
use Rattle.node.specs.Nodes.{Node, nodes_of, root}
use Rattle.basics.specs.Tags
use Rattle.element.specs.Elements.{us_in}
use Rattle.display.specs.declared.Drawn.{Drawn}
use Rattle.display.specs.declared.ShowError.{ShowError}
use Rattle.display.specs.Show.{show_of, image_of}
use Rattle.judge_small.specs.Printed.{full_buffer}
use Rattle.show_small.specs.declared.Sides.{Sides}
use Rattle.show_small.specs.declared.Shown.{Shown}

-- The sides of a frame: the width is Columns, the height is Rows.
abbrev pub sides_of : List Node → Sides
sides_of ns = record { width = number_or0 (us_in ns Tags.Columns (root ns)); height = number_or0 (us_in ns Tags.Rows (root ns)) }

-- A refusal has no image.
abbrev pub no_sides : Sides
no_sides = record { width = 0; height = 0 }

abbrev pub sides_for : List Node → Result Drawn ShowError → Sides
sides_for ns (Ok d) = sides_of ns
sides_for ns (Err e) = no_sides

abbrev pub sized : List Node → Result Drawn ShowError → Shown
sized ns a = record { answer = a; sides = sides_for ns a }

abbrev pub show_printed : List ℕ → ℕ → List ℕ → Shown
show_printed s f image = sized (nodes_of s) (show_of s f (full_buffer s) image)

-- The image buffer afterwards.
abbrev pub image_printed : List ℕ → ℕ → List ℕ → List ℕ
image_printed s f image = image_of s f (full_buffer s) image
