-- What the judge answers is what is printed, since the buffer has seven numbers for each 8 bytes that there may be; a broken rule's item
-- is looked for in the rows that judging left.
use mathlib.Core.Path.{refl, sym, ◌∙◌}
use native.Mathlib.Omega.{arith}
use Rattle.judge_small.proofs.Places as laws
use Rattle.judge_small.proofs.judge_located.Goals as goal

pub new-set-requires : goal.new-set-requires
new-set-requires c =
    laws.rows-are _ _ _ _ _ _ c.judge-answer.ensures.answers.same c.in-Ok-Broken.is (rw c.in-Ok-Broken.is at c.in-Ok-Broken.field-0-is)
    c.judge-answer.ensures.rows_after

pub returns-in-Ok-Broken : goal.returns-in-Ok-Broken
returns-in-Ok-Broken c =
    rw c.new-set.ensures at c.broken_at.ensures
    ∙ laws.roomy-located _ _ (omega (arith, c.row_buffer-rows.ensures, c.requires)) _
    (sym (laws.judged-broken c.in-Ok-Broken.is (rw c.in-Ok-Broken.is at c.in-Ok-Broken.field-0-is)) ∙ c.judge-answer.ensures.answers.same)

pub returns-in-Ok-Accepted : goal.returns-in-Ok-Accepted
returns-in-Ok-Accepted c =
    laws.rowless _ _ (omega (arith, c.row_buffer-rows.ensures, c.requires)) c.judge-answer.ensures.answers.same
    (laws.judged-accepted c.in-Ok-Accepted.is (rw c.in-Ok-Accepted.is at c.in-Ok-Accepted.field-0-is)) refl

pub returns-in-Err : goal.returns-in-Err
returns-in-Err c =
    laws.rowless _ _ (omega (arith, c.row_buffer-rows.ensures, c.requires)) c.judge-answer.ensures.answers.same c.in-Err.is refl
