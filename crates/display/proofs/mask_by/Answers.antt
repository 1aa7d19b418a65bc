-- The item gives a mask, as is asked, so what its operation needs is there.
use borrow.Author.Rules.{rules}
use Rattle.display.proofs.Answering.{operations}
use Rattle.display.proofs.mask_by.Goals as goal

pub unwrap-requires : goal.unwrap-requires
unwrap-requires c = search (rules, operations)

pub unwrap-k-requires : goal.unwrap-k-requires
unwrap-k-requires c = search (rules, operations)

pub moves_for-requires-clause-gives : goal.moves_for-requires-clause-gives
moves_for-requires-clause-gives c = search (rules, operations)

pub unwrap-requires-in-Tid : goal.unwrap-requires-in-Tid
unwrap-requires-in-Tid c = search (rules, operations)

pub moves_for-requires-in-Some-clause-gives : goal.moves_for-requires-in-Some-clause-gives
moves_for-requires-in-Some-clause-gives c = search (rules, operations)

pub returns-in-Native-clause-result_value : goal.returns-in-Native-clause-result_value
returns-in-Native-clause-result_value c = search (rules, operations)

pub returns-in-Average-clause-result_value : goal.returns-in-Average-clause-result_value
returns-in-Average-clause-result_value c = search (rules, operations)

pub returns-in-None-clause-result_value : goal.returns-in-None-clause-result_value
returns-in-None-clause-result_value c = search (rules, operations)

pub returns-in-Some-clause-result_value : goal.returns-in-Some-clause-result_value
returns-in-Some-clause-result_value c = search (rules, operations)
