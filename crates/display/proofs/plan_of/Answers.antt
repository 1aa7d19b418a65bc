-- An accepted object's steps lack nothing, so the window and the masking are those that the steps give.
use borrow.Author.Rules.{rules}
use Rattle.display.proofs.Scenes.{given}
use Rattle.display.proofs.plan_of.Goals as goal

pub unwrap-requires : goal.unwrap-requires
unwrap-requires c = search (rules, given)

pub mask_on-requires-clause-small : goal.mask_on-requires-clause-small
mask_on-requires-clause-small c = search (rules, given)

pub mask_on-requires-clause-gives : goal.mask_on-requires-clause-gives
mask_on-requires-clause-gives c = search (rules, given)

pub returns : goal.returns
returns c = search (rules, given)
