-- `read_new` answers `read_sized` of version 2's length: the length decides, then the fields with the number in the last
-- four bytes.
use mathlib.Core.Path.{sym, ap, ◌∙◌}
use borrow.Author.Tests.{eq-eqb, ne_eqb}
use Rattle.slip.specs.Slip.{rows_place, if_possible, read_sized}
use Rattle.basics.proofs.Bytes.{le32-is}
use Rattle.slip.proofs.read_new.Goals as goal

pub returns-then-slip-ne-SIZE : goal.returns-then-slip-ne-SIZE
unfolding read_sized
returns-then-slip-ne-SIZE c = simp (ne_eqb _ _ c.if-slip-ne-SIZE.true)

pub returns : goal.returns
unfolding read_sized
returns c =
    let rows = c.u32_at.ensures.0 ∙ le32-is c.args.slip.now rows_place in
    simp (eq-eqb _ _ c.if-slip-ne-SIZE.false, sym rows) (c.if_possible.ensures ∙ ap if_possible c.fields.ensures)
