-- The items behind the one at hand start where it ends; an empty walk has none to drop.
use Rattle.element.proofs.Laws as laws
use Rattle.element.proofs.advance.Goals as goal

pub returns-then-at-end : goal.returns-then-at-end
returns-then-at-end c =
    record { ahead = rw c.next.ensures.0 (laws.rest-next _ _ _ c.if-at-end.true); inner = c.requires }

pub returns-else-at-end : goal.returns-else-at-end
returns-else-at-end c =
    record { ahead = laws.rest_end _ _ _ c.if-at-end.false; inner = c.requires }
