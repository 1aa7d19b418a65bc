-- "Length not 0" (document 01, "The rule list": "Has"). A node has no length: `filled` asks whether a sequence contains nodes, and
-- whether the value of any other element has bytes. Both are the paper's question. For every element of every data set that reads well,
-- `filled` says that the length in its row is not 0. So a sequence's length is 0 exactly when no row is below it. That holds for both
-- forms: an undefined length counts up to the sequence's delimiter, so an empty sequence of undefined length has length 0 too.
use Rattle.std.specs.Prelude.{◌≡◌, not, List, ℕ, ◌<◌, length, eqb}
use Rattle.dataset.specs.Tree.{rows_of, row_at}
use Rattle.node.specs.Nodes.{nodes_of}
use Rattle.node.specs.Find.{filled}

-- Row i is that of an element: an item's VR is 0.
abbrev pub LengthNotZero : Type 0
LengthNotZero = (s : List ℕ) (i : ℕ) → i < length (rows_of s) → ((row_at (rows_of s) i).vr ≡ 0 → ⊥)
    → filled (nodes_of s) i ≡ not (eqb (row_at (rows_of s) i).size 0)
