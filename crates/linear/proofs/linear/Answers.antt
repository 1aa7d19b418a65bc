-- An accepted object leaves its rows in the buffer, and the frame is mapped from them.
use native.Mathlib.Omega.{arith}
use Rattle.display.proofs.Judged as laws
use Rattle.linear.proofs.linear.Goals as goal

pub new-set-requires : goal.new-set-requires
new-set-requires c =
    (laws.after-accepting _ _ _ _ c.in_ok-count.ensures.value c.in_ok-count.ensures.rows_after).0.1

pub linear_table-requires : goal.linear_table-requires
linear_table-requires c =
    rw c.new-set.ensures (
      (λ i. omega (arith, c.type_inv.bytes i)),
      (laws.after-accepting _ _ _ _ c.in_ok-count.ensures.value c.in_ok-count.ensures.rows_after).1,
    )
