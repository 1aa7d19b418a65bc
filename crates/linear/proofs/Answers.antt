-- Which answer an accepted object gets: codes 10, 20 and 11 where their tests say so, and else the numbers.
use Rattle.std.specs.Prelude.{Some}
use mathlib.Core.Path.{◌≡◌}
use mathlib.Core.List.{List}
use Prim.Native.Nat.{ℕ}
use Rattle.node.specs.Nodes.{Node}
use Rattle.linear.specs.Mapping.{linear_for, mapping_by, mapping_of}
use Rattle.linear.specs.Answer.{entries_in, entries_of}

-- The numbers by the item.
pub entries-are : (ns : List Node) (f j : ℕ) → linear_for ns f ≡ Some (Some j) → entries_of ns f ≡ entries_in (mapping_by ns f j)
unfolding entries_of mapping_of
entries-are ns f j e = rw e
