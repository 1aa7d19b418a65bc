-- `read_old` answers `read_sized` of version 1's length: the length decides, then the fields.
use mathlib.Core.Path.{ap, ◌∙◌}
use borrow.Author.Tests.{eq-eqb, ne_eqb}
use Rattle.slip.specs.Slip.{if_possible, read_sized}
use Rattle.slip.proofs.read_old.Goals as goal

pub returns-then-slip-ne-OLD_SIZE : goal.returns-then-slip-ne-OLD_SIZE
unfolding read_sized
returns-then-slip-ne-OLD_SIZE c = simp (ne_eqb _ _ c.if-slip-ne-OLD_SIZE.true)

pub returns : goal.returns
unfolding read_sized
returns c = simp (eq-eqb _ _ c.if-slip-ne-OLD_SIZE.false) (c.if_possible.ensures ∙ ap if_possible c.fields.ensures)
