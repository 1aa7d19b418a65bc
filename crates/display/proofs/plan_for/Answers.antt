-- The search for the mask item that applies lacks nothing.
use borrow.Author.Rules.{rules}
use Rattle.display.proofs.Scenes.{given}
use Rattle.display.proofs.plan_for.Goals as goal

pub mask_item-applies-requires : goal.mask_item-applies-requires
mask_item-applies-requires c = search (rules, given)
