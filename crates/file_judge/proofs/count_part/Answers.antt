-- Judging leaves the rows from which the searches are added up, and the sum goes with the answer.
use Rattle.file_judge.proofs.Counted.{left_in, counted-part}
use Rattle.file_judge.proofs.count_part.Goals as goal

pub searches_in-searches-requires : goal.searches_in-searches-requires
searches_in-searches-requires c =
    left_in c.args.bytes.now c.args.class.now c.args.rows.now c.judge_part-answer.new.rows
    c.judge_part-answer.result c.judge_part-answer.ensures.value c.judge_part-answer.ensures.rows_after

pub returns : goal.returns
returns c =
    record {
      value = counted-part c.args.bytes.now c.args.class.now c.args.rows.now c.judge_part-answer.result
          c.searches_in-searches.result c.judge_part-answer.ensures.value c.searches_in-searches.ensures;
      rows_after = c.judge_part-answer.ensures.rows_after;
    }
