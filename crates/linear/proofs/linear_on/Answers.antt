-- The search stops at the first TO_LINEAR item, and where there is none, not before the group's end.
use Rattle.std.specs.Prelude.{Some}
use mathlib.Core.Path.{ap, ◌∙◌}
use borrow.Author.Tests.{eq-eqb}
use Rattle.linear.proofs.Laws as laws
use Rattle.linear.proofs.linear_on.Goals as goal

pub returns-clause-result_value : goal.returns-clause-result_value
returns-clause-result_value c =
    rw (← c.vr.ensures, eq-eqb _ _ c.if-vr-ne-SQ.false, ← c.next-to.ensures.0)
    (ap Some (c.then_some.ensures ∙ laws.first-is _ _ _ _ c.next_linear-j.ensures))
