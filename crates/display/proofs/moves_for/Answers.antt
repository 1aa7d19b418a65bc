-- The step has moves, as is asked, so it has a shift.
use borrow.Author.Rules.{rules}
use Rattle.display.proofs.Answering.{moves}
use Rattle.display.proofs.moves_for.Goals as goal

pub returns : goal.returns
returns c = search (rules, moves)
