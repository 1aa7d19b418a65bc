-- A number is short where its short form is a number (`Laws`).
use Rattle.std.proofs.Common.{sym, ◌∙◌}
use Rattle.value.proofs.Laws.{number-some}
use Rattle.shift.proofs.Laws.{shift-numbers}
use Rattle.shift.proofs.is_shift_of.Goals as goal

pub returns-then-is_some : goal.returns-then-is_some
returns-then-is_some c =
    rw (shift-numbers, ← c.short_moves_of-m.ensures.value, number-some, number-some, ← c.is_some.ensures, c.if-is_some.true)
    c.is_some-then-is_some.ensures

pub returns-else-is_some : goal.returns-else-is_some
returns-else-is_some c =
    c.if-is_some.false
    ∙ sym (rw (shift-numbers, ← c.short_moves_of-m.ensures.value, number-some, ← c.is_some.ensures, c.if-is_some.false))
