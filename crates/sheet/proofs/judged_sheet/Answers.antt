-- An accepted object leaves its rows in the buffer, and the frames are counted from them.
use native.Mathlib.Omega.{arith}
use mathlib.Core.Path.{sym}
use Rattle.display.proofs.Judged as laws
use Rattle.sheet.proofs.judged_sheet.Goals as goal

pub new-set-requires : goal.new-set-requires
new-set-requires c =
    laws.rows-are _ _ _ _ c.accept.ensures.value c.in-Ok.is c.accept.ensures.rows_after

pub sheet_span-requires : goal.sheet_span-requires
sheet_span-requires c =
    rw c.new-set.ensures (
      (λ i. omega (arith, c.type_inv.bytes i)),
      laws.is-sound _ _ _ _ c.accept.ensures.value c.in-Ok.is c.accept.ensures.rows_after,
    )
