-- The values that are counted are those of the definition.
use Rattle.value.proofs.is_single.Goals as goal

pub returns : goal.returns
returns c =
    rw c.count_values.ensures.value
