-- What `show` answers, and what its buffers then hold (document 01, "What is handed back"): as for judging up to code 9, then 10 for a
-- frame that is not in 1..N, then 11 for an image buffer under Rows × Columns bytes, then 0.
use Rattle.std.specs.Prelude.{ℕ, ◌*◌, Bool, false, cond, ◌&&◌, List, [], ◌++◌, length, drop, leb, Option, Some, None, Result, Ok, Err}
use Rattle.value.specs.Number.{number_or0}
use Rattle.basics.specs.Fields.{Fields, code_alone, drawn}
use Rattle.node.specs.Nodes.{Node, nodes_of, root}
use Rattle.basics.specs.Tags
use Rattle.element.specs.Elements.{us_in}
use Rattle.element.specs.Frames.{frames_of}
use Rattle.conformance.specs.Judging.{accept_of, refusal_fields}
use Rattle.conformance.specs.declared.NotAccepted.{NotAccepted}
use Rattle.steps.specs.Steps.{Picture, steps_of}
use Rattle.display.specs.declared.Drawn.{Drawn}
use Rattle.display.specs.declared.ShowError.{ShowError}
use Rattle.display.specs.declared.ShowError.TheVariants as error

-- The frame is one of 1 to N.
abbrev pub is_frame_of : List Node → ℕ → Bool
is_frame_of ns f = leb 1 f && leb f (number_or0 (frames_of ns))

-- Rows × Columns.
abbrev pub image_size : List Node → ℕ
image_size ns = number_or0 (us_in ns Tags.Rows (root ns)) * number_or0 (us_in ns Tags.Columns (root ns))

-- The picture that the steps give. If they lack something, which never happens for a frame of an accepted object (proofs/Drawing), it is
-- empty.
abbrev pub picture_in : Option Picture → Picture
picture_in None = record { masked = false; samples = [] }
picture_in (Some p) = p

unfoldable pub picture_of : List Node → ℕ → Picture
picture_of ns f = picture_in (steps_of ns f)

-- The answer for an accepted object with n rows.
unfoldable pub accepted_answer : List Node → ℕ → List ℕ → ℕ → Result Drawn ShowError
accepted_answer ns f image n =
    cond (is_frame_of ns f)
    (cond (leb (image_size ns) (length image)) (Ok (record { rows = n; masked = (picture_of ns f).masked })) (Err error.NoImageRoom))
    (Err error.NoFrame)

abbrev pub answer_for : List Node → ℕ → List ℕ → Result ℕ NotAccepted → Result Drawn ShowError
answer_for ns f image (Ok n) = accepted_answer ns f image n
answer_for ns f image (Err e) = Err (error.Refused e)

unfoldable pub show_of : List ℕ → ℕ → List ℕ → List ℕ → Result Drawn ShowError
show_of s f buffer image = answer_for (nodes_of s) f image (accept_of s buffer)

-- The image buffer afterwards: the picture's cells, and untouched beyond them; untouched by a refusal.
abbrev pub image_by : Picture → List ℕ → Result Drawn ShowError → List ℕ
image_by p image (Ok d) = p.samples ++ drop (length p.samples) image
image_by p image (Err e) = image

unfoldable pub image_of : List ℕ → ℕ → List ℕ → List ℕ → List ℕ
image_of s f buffer image = image_by (picture_of (nodes_of s) f) image (show_of s f buffer image)

-- The paper's numbers for each case.
abbrev pub fields_of : Result Drawn ShowError → Fields
fields_of (Ok d) = drawn d.rows (cond d.masked 1 0)
fields_of (Err (error.Refused e)) = refusal_fields e
fields_of (Err error.NoFrame) = code_alone 10
fields_of (Err error.NoImageRoom) = code_alone 11
