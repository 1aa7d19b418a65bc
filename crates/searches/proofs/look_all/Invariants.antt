-- What is looked at for the tags that are left comes with the sum to the whole.
use mathlib.Core.Path.{◌≡◌}
use Prim.Native.Nat.{◌+◌}
use lib.ListN.{drop}
use Rattle.node.specs.Nodes.{nodes_of, members}
use Rattle.searches.specs.Internal.{all_looked}
use Rattle.searches.proofs.look_all.Given as goal

abbrev pub invariant-loop-tag : goal.invariant-loop-tag
invariant-loop-tag l =
    l.sum + all_looked (nodes_of l.set) (drop l.tag-index l.wanted) (members (nodes_of l.set) l.from l.to)
    ≡ all_looked (nodes_of l.set) l.wanted (members (nodes_of l.set) l.from l.to)
