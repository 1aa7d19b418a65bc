-- A group that was not found has no items; one that was found has those inside it.
use Rattle.searches.specs.Searches.{looked_in_each}
use Rattle.searches.proofs.look_group.Goals as goal

pub returns-in-None : goal.returns-in-None
unfolding looked_in_each
returns-in-None c =
    rw c.in-None.is
