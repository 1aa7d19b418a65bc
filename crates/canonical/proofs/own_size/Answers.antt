-- A node takes its header and its value, and both are read from its row.
use Rattle.canonical.specs.Written.{own_size}
use Rattle.canonical.proofs.own_size.Goals as goal

pub returns : goal.returns
unfolding own_size
returns c =
    rw (c.head_size.ensures.0, c.vr.ensures, c.value.ensures)
