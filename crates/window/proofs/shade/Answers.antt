-- A level is at most 255, so what it lacks to 255 fits a byte too.
use mathlib.Core.Bool.{true, false}
use Rattle.window.proofs.Laws.{shaded-is}
use Rattle.window.proofs.shade.Goals as goal

pub returns-then-inverse : goal.returns-then-inverse
returns-then-inverse c =
    rw (c.if-inverse.true, ← c.level-y.ensures.0, shaded-is true c.level-y.result c.level-y.ensures.1)

pub returns-else-inverse : goal.returns-else-inverse
returns-else-inverse c =
    rw (c.if-inverse.false, ← c.level-y.ensures.0, shaded-is false c.level-y.result c.level-y.ensures.1)
