-- An accepted object leaves its rows in the buffer, and the frame is drawn from them.
use native.Mathlib.Omega.{arith}
use Rattle.display.proofs.Judged as laws
use Rattle.display.proofs.show.Goals as goal

pub new-set-requires : goal.new-set-requires
new-set-requires c =
    (laws.after-accepting _ _ _ _ c.in_ok-count.ensures.value c.in_ok-count.ensures.rows_after).0.1

pub show_table-requires : goal.show_table-requires
show_table-requires c =
    rw c.new-set.ensures (
      (λ i. omega (arith, c.type_inv.bytes i)),
      (laws.after-accepting _ _ _ _ c.in_ok-count.ensures.value c.in_ok-count.ensures.rows_after).1,
    )
