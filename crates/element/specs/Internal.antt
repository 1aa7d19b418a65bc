-- Where a cursor is along the items of a sequence. None of this is in the papers.
use Rattle.std.specs.Prelude.{◌≡◌, ℕ, ◌≤◌, List, length}
use Rattle.node.specs.Nodes.{Node, members}
use Rattle.element.specs.declared.Items.{Items}

-- The items l are still ahead.
pub record Along (ns : List Node) (l : List ℕ) (c : Items) : Type 0 where
  pub ahead : members ns c.at c.end ≡ l
  pub inner : c.end ≤ length ns
