-- Each cell adds one at its level, and the room that is left in each count is at least the cells that are left.
use lib.ListN.{length}
use Rattle.sheet.proofs.Counts.{tallied-next, tallied-all, room-next}
use mathlib.Core.Path.{refl, sym, ◌∙◌}
use native.Mathlib.Omega.{arith}
use Rattle.sheet.proofs.tally.Goals as goal

pub overflow_add-sofar : goal.overflow_add-sofar
overflow_add-sofar c =
    record { fits = omega (arith, c.loop-y.invariant.1.below c.from.result, c.loop-y-test.true) }

pub loop-y-init : goal.loop-y-init
loop-y-init c =
    (refl, record { below = λ y. omega (arith, c.requires.below y) })

pub loop-y-preserved : goal.loop-y-preserved
loop-y-preserved c = (
  rw c.from.ensures (sym (tallied-next c.args.line.now c.loop-y.sofar c.loop-y.y-index c.loop-y-test.true) ∙ c.loop-y.invariant.0),
  room-next c.loop-y.sofar c.from.result (length c.args.line.now) c.loop-y.y-index c.loop-y-test.true c.loop-y.invariant.1,
)

pub returns : goal.returns
returns c =
    sym (tallied-all c.args.line.now c.loop-y.sofar c.loop-y.y-index c.loop-y-test.false) ∙ c.loop-y.invariant.0
