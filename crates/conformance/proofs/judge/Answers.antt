-- What reads well leaves its rows in the buffer, and the rules are asked of them.
use Rattle.node.proofs.After.{after-reading}
use Rattle.conformance.proofs.judge.Goals as goal

pub new-set-requires : goal.new-set-requires
new-set-requires c =
    (after-reading _ _ _ _ c.in_ok-n.ensures.answers.same c.in_ok-n.ensures.rows_after).1
