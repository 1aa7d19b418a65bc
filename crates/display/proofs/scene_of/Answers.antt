-- An accepted object lacks nothing that the steps need.
use borrow.Author.Rules.{rules}
use Rattle.display.proofs.Scenes.{given}
use Rattle.display.proofs.scene_of.Goals as goal

pub unwrap-g-requires : goal.unwrap-g-requires
unwrap-g-requires c = search (rules, given)

pub unwrap-p-requires : goal.unwrap-p-requires
unwrap-p-requires c = search (rules, given)

pub is_inverse-requires : goal.is_inverse-requires
is_inverse-requires c = search (rules, given)

pub shared_window-requires : goal.shared_window-requires
shared_window-requires c = search (rules, given)
