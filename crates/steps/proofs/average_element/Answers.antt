-- The value holds whole numbers where its length is even, and at least one where it has two bytes.
use native.Mathlib.Omega.{arith}
use Rattle.std.proofs.lemmas.Bool.Decides.{nat_tests}
use Rattle.steps.specs.Steps.{average_frames}
use Rattle.steps.proofs.Laws as laws
use Rattle.steps.proofs.average_element.Goals as goal

pub returns-then-n-ge2-clause-result_value : goal.returns-then-n-ge2-clause-result_value
unfolding average_frames
returns-then-n-ge2-clause-result_value c =
    rw (laws.told c.in_ok-k.was c.find_vr_item.ensures.value, ← c.value-n.ensures, c.if-n-eq0.true, laws.values-some _ c.if-n-ge2.true)

pub returns-else-n-eq0-clause-result_value : goal.returns-else-n-eq0-clause-result_value
unfolding average_frames
returns-else-n-eq0-clause-result_value c =
    rw (laws.told c.in_ok-k.was c.find_vr_item.ensures.value, ← c.value-n.ensures)
    (grind (arith, nat_tests, laws.values-none c.value-n.result.now))
