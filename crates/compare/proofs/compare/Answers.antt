-- An accepted object leaves its rows in the buffer, and the frame is compared from them.
use native.Mathlib.Omega.{arith}
use Rattle.display.proofs.Judged as laws
use Rattle.compare.proofs.compare.Goals as goal

pub new-set-requires : goal.new-set-requires
new-set-requires c =
    laws.rows-are _ _ _ _ c.accept.ensures.value c.in_ok-count.was c.accept.ensures.rows_after

pub compare_table-requires : goal.compare_table-requires
compare_table-requires c =
    rw c.new-set.ensures (
      (λ i. omega (arith, c.type_inv.bytes i)),
      laws.is-sound _ _ _ _ c.accept.ensures.value c.in_ok-count.was c.accept.ensures.rows_after,
    )
