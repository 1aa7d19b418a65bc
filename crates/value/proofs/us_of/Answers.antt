-- Two bytes are one number below 65,536; any other length is no single US.
use borrow.Author.Tests.{eq-eqb, ne_eqb}
use Rattle.value.specs.Number.{us_of}
use Rattle.value.proofs.us_of.Goals as goal

pub returns-then-v-eq2 : goal.returns-then-v-eq2
unfolding us_of
returns-then-v-eq2 c = record {
  value = rw (eq-eqb _ _ c.if-v-eq2.true, c.u16_at.ensures.0);
  below = c.u16_at.ensures.1;
}

pub returns-else-v-eq2 : goal.returns-else-v-eq2
unfolding us_of
returns-else-v-eq2 c = record {
  value = rw (ne_eqb _ _ c.if-v-eq2.false);
  below = tt;
}
