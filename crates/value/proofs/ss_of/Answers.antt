-- Two bytes are below 65,536: the lower half stands for itself, the upper half for what it lacks to 65,536.
use native.Mathlib.Omega.{arith}
use borrow.Author.Tests.{eq-eqb, ne_eqb, lt-ltb, le-ltb}
use Rattle.value.specs.Number.{ss_of}
use Rattle.value.proofs.ss_of.Goals as goal

pub returns-then-n-lt32768 : goal.returns-then-n-lt32768
unfolding ss_of
returns-then-n-lt32768 c = record {
  value = rw (eq-eqb _ _ c.if-v-eq2.true, ← c.u16_at-n.ensures.0, lt-ltb _ _ c.if-n-lt32768.true);
  size_below = omega (arith, c.if-n-lt32768.true);
}

pub returns-else-n-lt32768 : goal.returns-else-n-lt32768
unfolding ss_of
returns-else-n-lt32768 c = record {
  value = rw (eq-eqb _ _ c.if-v-eq2.true, ← c.u16_at-n.ensures.0, le-ltb _ _ c.if-n-lt32768.false);
  size_below = omega (arith, c.if-n-lt32768.false);
}

pub returns-else-v-eq2 : goal.returns-else-v-eq2
unfolding ss_of
returns-else-v-eq2 c = record {
  value = rw (ne_eqb _ _ c.if-v-eq2.false);
  size_below = tt;
}
