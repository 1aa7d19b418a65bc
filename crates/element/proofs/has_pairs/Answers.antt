-- The three tests are those of the definition, in its order.
use borrow.Author.Tests.{eq-eqb, ne_eqb, le-leb, lt-leb}
use Rattle.element.proofs.has_pairs.Goals as goal

pub returns-then-v-ge4 : goal.returns-then-v-ge4
returns-then-v-ge4 c =
    rw (← c.vr.ensures, eq-eqb _ _ c.if-vr-eq-US.true, ← c.value-v.ensures, le-leb _ _ c.if-v-ge4.true)

pub returns-else-v-ge4 : goal.returns-else-v-ge4
returns-else-v-ge4 c =
    rw (← c.vr.ensures, eq-eqb _ _ c.if-vr-eq-US.true, ← c.value-v.ensures, lt-leb _ _ c.if-v-ge4.false)

pub returns-else-vr-eq-US : goal.returns-else-vr-eq-US
returns-else-vr-eq-US c =
    rw (← c.vr.ensures, ne_eqb _ _ c.if-vr-eq-US.false)
