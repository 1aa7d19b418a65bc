-- Both sides test the VR, and read the function from the same value.
use borrow.Author.Tests.{eq-eqb, ne_eqb}
use mathlib.Core.Path.{ap, ◌∙◌}
use Rattle.value.specs.Words.{function_of}
use Rattle.element.proofs.function_at.Goals as goal

pub returns-then-vr-eq-CS : goal.returns-then-vr-eq-CS
returns-then-vr-eq-CS c =
    rw (← c.vr.ensures, eq-eqb _ _ c.if-vr-eq-CS.true)
    (c.function_of.ensures ∙ ap function_of c.value.ensures)

pub returns-else-vr-eq-CS : goal.returns-else-vr-eq-CS
returns-else-vr-eq-CS c =
    rw (← c.vr.ensures, ne_eqb _ _ c.if-vr-eq-CS.false)
