-- A data set's elements and items without offsets: what the rules and the drawing steps see.
use Rattle.std.specs.Prelude.{ℕ, zero, suc, ◌+◌, ◌-◌, List, [], ◌∷◌, map, Bool, cond, ◌||◌, length, get_or, take, drop, eqb, ltb}
use Rattle.basics.specs.Vr.{SQ}
use Rattle.dataset.specs.declared.Row.{Row}
use Rattle.dataset.specs.Tree.{rows_of}

-- An element or item: its tag, VR (an item's is 0), depth, number of nodes below it, and, unless it is a sequence or an item, its value.
pub record Node : Type 0 where
  pub tag : ℕ
  pub vr : ℕ
  pub depth : ℕ
  pub descendants : ℕ
  pub value : List ℕ

-- A sequence and an item hold nodes, and have no value of their own.
abbrev pub holds_nodes : ℕ → Bool
holds_nodes vr = eqb vr SQ || eqb vr 0

abbrev pub value_in : List ℕ → Row → List ℕ
value_in s r = cond (holds_nodes r.vr) [] (take r.size (drop r.offset s))

abbrev pub node_of : List ℕ → Row → Node
node_of s r = record { tag = r.tag; vr = r.vr; depth = r.depth; descendants = r.descendants; value = value_in s r }

-- The nodes of a data set that reads well; otherwise none.
unfoldable pub nodes_of : List ℕ → List Node
nodes_of s = map (node_of s) (rows_of s)

abbrev pub no_node : Node
no_node = record { tag = 0; vr = 0; depth = 0; descendants = 0; value = [] }

-- Node i.
abbrev pub node_at : List Node → ℕ → Node
node_at ns i = get_or ns i no_node

-- The node after node i and all below it.
abbrev pub next_node : List Node → ℕ → ℕ
next_node ns i = i + 1 + (node_at ns i).descendants

-- ---- Members: nodes that stand directly in one container, by their numbers

-- From node i up to `to`; a step to the next member passes the nodes below this one, and there are no more steps than nodes.
unfoldable pub members_by : ℕ → List Node → ℕ → ℕ → List ℕ
members_by zero ns i to = []
members_by (suc steps) ns i to = cond (ltb i to) (i ∷ members_by steps ns (next_node ns i) to) []

unfoldable pub members : List Node → ℕ → ℕ → List ℕ
members ns i to = members_by (to - i) ns i to

-- The elements of the root; the items of a sequence, or the elements of an item.
abbrev pub root : List Node → List ℕ
root ns = members ns 0 (length ns)

abbrev pub inside : List Node → ℕ → List ℕ
inside ns i = members ns (i + 1) (next_node ns i)
