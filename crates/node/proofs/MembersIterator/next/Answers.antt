-- What is ahead is the next member and what follows it.
use mathlib.Core.Path.{sym, ◌∙◌}
use Rattle.std.proofs.Common.{rules}
use Rattle.node.proofs.Walks.{members-end, walk-next}
use Rattle.node.proofs.MembersIterator.next.Goals as goal

pub returns-then-i-self-clause-steps : goal.returns-then-i-self-clause-steps
returns-then-i-self-clause-steps c =
    walk-next _ _ _ _ _ c.self.view_is c.if-i-self.true c.next-self-inside.ensures.0

pub returns-then-i-self-clause-goes : goal.returns-then-i-self-clause-goes
returns-then-i-self-clause-goes c =
    let steps = walk-next _ _ _ _ _ c.self.view_is c.if-i-self.true c.next-self-inside.ensures.0 in
    rw steps (search rules)

pub returns-else-i-self-clause-steps : goal.returns-else-i-self-clause-steps
returns-else-i-self-clause-steps c =
    let none = sym c.self.view_is ∙ members-end _ _ _ c.if-i-self.false in
    (none, none)
