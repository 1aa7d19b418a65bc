-- The tests are those of the definition; a range that fails one has no answer, and the frames stay as they were.
use Rattle.std.specs.Prelude.{Some}
use Rattle.value.specs.Number.{us_values}
use Rattle.node.specs.Nodes.{nodes_of}
use Rattle.steps.specs.Steps.{is_in_pairs, range_has}
use Rattle.ranges.proofs.Items as items
use Rattle.ranges.proofs.cover_range.Goals as goal

pub returns-then-has_pairs : goal.returns-then-has_pairs
returns-then-has_pairs c =
    let a = c.args in
    let ns = nodes_of a.set.now in
    items.tried-by (λ f. is_in_pairs f (us_values c.value.result.now)) (λ f. range_has ns f (Some a.i)) _ _ _ _
    (λ f. rw (← c.has_pairs.ensures, c.if-has_pairs.true, ← c.value.ensures))
    c.cover_pairs.ensures
