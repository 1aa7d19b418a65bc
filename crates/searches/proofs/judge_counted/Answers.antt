-- Judging leaves the rows in the buffer, and the searches are added up over just those.
use Rattle.searches.proofs.After.{rows_left_lem, counted_is}
use Rattle.basics.proofs.Promised.{promised}
use Rattle.searches.proofs.judge_counted.Goals as goal

pub reported-searches-requires : goal.reported-searches-requires
reported-searches-requires c =
    rows_left_lem c.args.bytes.now c.args.rows.now c.judge-answer.new.rows c.judge-answer.result
    c.judge-answer.ensures.answers.same c.judge-answer.ensures.rows_after

pub returns : goal.returns
returns c =
    record {
      answers = promised (counted_is c.args.bytes.now c.args.rows.now c.judge-answer.result c.reported-searches.result
          c.judge-answer.ensures.answers.same c.reported-searches.ensures);
      rows_after = c.judge-answer.ensures.rows_after;
    }
