-- The form of the VR alone says whether the header has 12 bytes or 8.
use mathlib.Core.Path.{sym, ◌∙◌}
use native.Mathlib.Omega.{arith}
use Rattle.canonical.proofs.Shape.{head-long, head-else}
use Rattle.canonical.proofs.head_size.Goals as goal

pub returns-then-vr_form-eq2 : goal.returns-then-vr_form-eq2
returns-then-vr_form-eq2 c =
    (sym (head-long _ (sym c.vr_form.ensures ∙ c.if-vr_form-eq2.true)), (omega arith, omega arith))

pub returns-else-vr_form-eq2 : goal.returns-else-vr_form-eq2
returns-else-vr_form-eq2 c =
    (sym (head-else _ (λ e. c.if-vr_form-eq2.false (c.vr_form.ensures ∙ e))), (omega arith, omega arith))
