-- The plain search (document 02, Q-11): it goes along the members, skipping the rows below each, and stops at the first tag not below the
-- one sought. It finds what `find` finds, and looks at as many rows as `looked_at` counts.
use Rattle.std.specs.Prelude.{◌≡◌, ℕ, List, length}
use Rattle.value.specs.Internal.{Below}
use Rattle.node.specs.Nodes.{Node, members, inside}
use Rattle.node.specs.Find.{find}
use Rattle.searches.specs.declared.Looked.{Looked}
use Rattle.searches.specs.Count.{looked_at}

pub record Looks (ns : List Node) (tag from to : ℕ) (r : Looked) : Type 0 where
  pub finds : r.found ≡ find ns tag (members ns from to)
  pub counts : r.count ≡ looked_at ns tag (members ns from to)
  pub within : Below to r.found

-- The same in an item.
pub record LooksIn (ns : List Node) (tag item : ℕ) (r : Looked) : Type 0 where
  pub finds : r.found ≡ find ns tag (inside ns item)
  pub counts : r.count ≡ looked_at ns tag (inside ns item)
  pub within : Below (length ns) r.found
