-- Keeping the low bits is the remainder by 2^stored (`Laws`), and the bytes are those of the width.
use lib.Bits.{and_le_r}
use lib.ListN.{length}
use native.Mathlib.Omega.{arith}
use Rattle.pixel.proofs.Laws.{one_byte, two_bytes, width_two, cell-narrow, cell-wide}
use Rattle.pixel.proofs.sample.Goals as goal

pub bounds-pixels-j : goal.bounds-pixels-j
bounds-pixels-j c =
    one_byte _ _ _ c.if-g-eq1.true c.requires.inside

pub overflow_mul-j : goal.overflow_mul-j
overflow_mul-j c =
    omega (
      arith,
      two_bytes c.args.g.width c.args.j (length c.args.pixels.now) c.requires.width c.if-g-eq1.false
          c.requires.inside,
    )

pub u16_at-requires : goal.u16_at-requires
u16_at-requires c =
    two_bytes _ _ _ c.requires.width c.if-g-eq1.false c.requires.inside

pub returns-then-g-eq1 : goal.returns-then-g-eq1
returns-then-g-eq1 c = (
  rw c.from.ensures (cell-narrow c.args.g c.args.pixels.now c.args.low c.args.j
      c.if-g-eq1.true c.requires.kept),
  and_le_r c.from.result c.args.low,
)

pub returns-else-g-eq1 : goal.returns-else-g-eq1
returns-else-g-eq1 c = (
  rw c.u16_at.ensures.0 (cell-wide c.args.g c.args.pixels.now c.args.low c.args.j
      (width_two _ c.requires.width c.if-g-eq1.false) c.requires.kept),
  and_le_r c.u16_at.result c.args.low,
)
