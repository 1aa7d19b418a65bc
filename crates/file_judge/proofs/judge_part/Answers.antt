-- Where a data set was judged, its rows stand in the buffer.
use mathlib.Core.Path.{sym}
use lib.Seq.{length-take-le}
use Rattle.file_judge.proofs.Counted as laws
use Rattle.file_judge.proofs.judge_part.Goals as goal

pub overflow_mul-row_count : goal.overflow_mul-row_count
overflow_mul-row_count c = record {
  fits = laws.rows-few _ _ _ _ c.in_ok-outcome.ensures.answers.same c.in_ok-outcome.ensures.rows_after _ c.row_count.ensures;
}

pub slice_bounds-new-end : goal.slice_bounds-new-end
slice_bounds-new-end c =
    laws.rows-there _ _ _ _ c.in_ok-outcome.ensures.answers.same c.in_ok-outcome.ensures.rows_after _ c.row_count.ensures

pub slice_bounds-new-end-2 : goal.slice_bounds-new-end-2
slice_bounds-new-end-2 c =
    sym (length-take-le _ _ (laws.rows-there _ _ _ _ c.in_ok-outcome.ensures.answers.same
    c.in_ok-outcome.ensures.rows_after _ c.row_count.ensures))

pub new-set-requires : goal.new-set-requires
new-set-requires c =
    laws.rows-are _ _ _ _ c.in_ok-outcome.ensures.answers.same c.in_ok-outcome.ensures.rows_after _ c.row_count.ensures
