-- What `linear` answers, and what its buffers then hold (document 02, Q-8): as for `show` up to code 10, then 20 for a frame without a
-- TO_LINEAR item, then 11 for a values buffer under Rows × Columns numbers, then 0.
use Rattle.std.specs.Prelude.{ℕ, cond, List, [], ◌++◌, length, drop, leb, Option, Some, None, Result, Ok, Err}
use Rattle.basics.specs.Fields.{Fields, code_alone, counted}
use Rattle.node.specs.Nodes.{Node, nodes_of}
use Rattle.conformance.specs.Judging.{accept_of, refusal_fields}
use Rattle.conformance.specs.declared.NotAccepted.{NotAccepted}
use Rattle.display.specs.Show.{is_frame_of, image_size}
use Rattle.linear.specs.declared.LinearError.{LinearError}
use Rattle.linear.specs.declared.LinearError.TheVariants as error
use Rattle.linear.specs.Mapping.{mapping_of, has_linear_item}

-- The entries; none if something is lacking, which never happens for a frame of an accepted object with a TO_LINEAR item.
abbrev pub entries_in : Option (List ℕ) → List ℕ
entries_in None = []
entries_in (Some l) = l

unfoldable pub entries_of : List Node → ℕ → List ℕ
entries_of ns f = entries_in (mapping_of ns f)

-- The answer for an accepted object with n rows.
unfoldable pub accepted_answer : List Node → ℕ → List ℕ → ℕ → Result ℕ LinearError
accepted_answer ns f values n =
    cond (is_frame_of ns f)
    (cond (has_linear_item ns f)
    (cond (leb (image_size ns) (length values)) (Ok n) (Err error.NoValuesRoom))
    (Err error.NoItem))
    (Err error.NoFrame)

abbrev pub answer_for : List Node → ℕ → List ℕ → Result ℕ NotAccepted → Result ℕ LinearError
answer_for ns f values (Ok n) = accepted_answer ns f values n
answer_for ns f values (Err e) = Err (error.Refused e)

unfoldable pub linear_of : List ℕ → ℕ → List ℕ → List ℕ → Result ℕ LinearError
linear_of s f buffer values = answer_for (nodes_of s) f values (accept_of s buffer)

-- The values buffer afterwards: the entries, and untouched beyond them; untouched by a refusal.
abbrev pub values_by : List ℕ → List ℕ → Result ℕ LinearError → List ℕ
values_by l values (Ok n) = l ++ drop (length l) values
values_by l values (Err e) = values

unfoldable pub values_left : List ℕ → ℕ → List ℕ → List ℕ → List ℕ
values_left s f buffer values = values_by (entries_of (nodes_of s) f) values (linear_of s f buffer values)

-- The paper's numbers for each case.
abbrev pub fields_of : Result ℕ LinearError → Fields
fields_of (Ok n) = counted n
fields_of (Err (error.Refused e)) = refusal_fields e
fields_of (Err error.NoFrame) = code_alone 10
fields_of (Err error.NoItem) = code_alone 20
fields_of (Err error.NoValuesRoom) = code_alone 11
