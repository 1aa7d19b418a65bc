-- c.in_ok-outcome.ensures.cases c.in_ok-outcome.ensures.variant c.judge.ensures.answers.samehere a data set was judged, its rows stand in the buffer; the class is compared from them, and only where it is the same is the image
-- written.
use mathlib.Core.Path.{sym, ◌∙◌}
use native.Mathlib.Omega.{arith}
use lib.Seq.{length-take-le}
use Rattle.file_show.proofs.Shown as laws
use Rattle.file_show.proofs.show_part.Goals as goal

pub overflow_mul-row_count : goal.overflow_mul-row_count
overflow_mul-row_count c = record {
  fits = laws.rows-few _ _ _ _ _ _ c.in_ok-outcome.ensures.cases c.in_ok-outcome.ensures.variant c.judge.ensures.answers.same c.judge.ensures.rows_after _ c.row_count.ensures;
}

pub slice_bounds-new-end : goal.slice_bounds-new-end
slice_bounds-new-end c = laws.rows-there _ _ _ _ _ _ c.in_ok-outcome.ensures.cases c.in_ok-outcome.ensures.variant c.judge.ensures.answers.same c.judge.ensures.rows_after _ c.row_count.ensures

pub slice_bounds-new-end-2 : goal.slice_bounds-new-end-2
slice_bounds-new-end-2 c =
    sym (length-take-le _ _ (laws.rows-there _ _ _ _ _ _ c.in_ok-outcome.ensures.cases c.in_ok-outcome.ensures.variant c.judge.ensures.answers.same c.judge.ensures.rows_after _ c.row_count.ensures))

pub new-set-requires : goal.new-set-requires
new-set-requires c = laws.rows-are _ _ _ _ _ _ c.in_ok-outcome.ensures.cases c.in_ok-outcome.ensures.variant c.judge.ensures.answers.same c.judge.ensures.rows_after _ c.row_count.ensures

pub show_table-requires : goal.show_table-requires
show_table-requires c =
    rw c.new-set.ensures (
      (λ i. omega (arith, c.type_inv.bytes i)),
      laws.is-sound _ _ _ _ _ _ c.in_ok-outcome.ensures.cases c.in_ok-outcome.ensures.variant c.judge.ensures.answers.same c.judge.ensures.rows_after _ c.in-Accepted.is,
    )

pub returns-then-not-same_class-clause-value : goal.returns-then-not-same_class-clause-value
returns-then-not-same_class-clause-value c =
    laws.other-shown _ _ c.judge.new.rows _ _ _ c.in_ok-outcome.ensures.cases c.in_ok-outcome.ensures.variant
    c.judge.ensures.answers.same _ _ _ (rw c.new-set.ensures at (sym c.same_class.ensures ∙ c.if-not-same_class.true))
