-- Two searches tell the cases apart: none is TO_LINEAR, one is, or one more stands behind the first.
use mathlib.Core.Path.{sym, ◌∙◌}
use Rattle.intensity.proofs.Laws as laws
use Rattle.intensity.proofs.luts_of.Goals as goal

pub returns-then-other-to : goal.returns-then-other-to
returns-then-other-to c =
    sym (laws.luts-more _ _ _ _ c.next_linear-k.ensures _ _ c.if-k-to.false c.next-after.ensures.0
    c.next_linear-other.ensures c.if-other-to.true)

pub returns-then-has_lut : goal.returns-then-has_lut
returns-then-has_lut c =
    sym (rw (laws.only _ _ _ _ c.next_linear-k.ensures _ _ c.if-k-to.false c.next-after.ensures.0
    c.next_linear-other.ensures c.if-other-to.false)
    (laws.luts-yes _ _ (sym c.has_lut.ensures ∙ c.if-has_lut.true)))

pub returns-else-has_lut : goal.returns-else-has_lut
returns-else-has_lut c =
    sym (rw (laws.only _ _ _ _ c.next_linear-k.ensures _ _ c.if-k-to.false c.next-after.ensures.0
    c.next_linear-other.ensures c.if-other-to.false)
    (laws.luts-no _ _ (sym c.has_lut.ensures ∙ c.if-has_lut.false)))

pub returns-then-k-to : goal.returns-then-k-to
returns-then-k-to c =
    sym (rw (laws.no-linear _ _ _ _ c.next_linear-k.ensures c.if-k-to.true) (laws.luts-none _))
