-- The rows that the answer counts are those of the data set.
use mathlib.Core.Path.{sym, ◌∙◌}
use Rattle.node.proofs.After.{after-reading}
use Rattle.steps_cases.proofs.print_case.Goals as goal

pub new-set-requires : goal.new-set-requires
new-set-requires g c =
    (after-reading _ _ _ _ (sym c.in-Ok.is ∙ c.read.ensures.answers.same) c.read.ensures.rows_after).1
