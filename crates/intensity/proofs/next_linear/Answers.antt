-- An item that is not TO_LINEAR leaves the TO_LINEAR items among those behind it as they were.
use mathlib.Core.Path.{sym, ◌∙◌}
use Rattle.intensity.proofs.Laws as laws
use Rattle.intensity.proofs.next_linear.Goals as goal

pub loop-j-preserved : goal.loop-j-preserved
loop-j-preserved c =
    rw c.next-j.ensures.0
    (sym (laws.linear-later _ _ _ c.loop-j-test.true (sym c.is_linear.ensures ∙ c.if-is_linear.false))
    ∙ c.loop-j.invariant)
