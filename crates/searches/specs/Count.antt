-- How far one search looks (document 02, Q-11): "the number of that data set's elements with a lower tag, plus one if an element
-- remains". What is below a row is skipped, so only the members of one data set count.
use Rattle.std.specs.Prelude.{ℕ, ◌+◌, List, [], ◌∷◌, Bool, cond, ltb, leb}
use Rattle.node.specs.Nodes.{Node, node_at}
use Rattle.element.specs.Elements.{some}

-- The members with a lower tag.
unfoldable pub lower_tags : List Node → ℕ → List ℕ → ℕ
lower_tags ns tag [] = 0
lower_tags ns tag (i ∷ is) = cond (ltb (node_at ns i).tag tag) 1 0 + lower_tags ns tag is

-- An element remains: one whose tag is not lower.
unfoldable pub remains : List Node → ℕ → List ℕ → Bool
remains ns tag is = some (λ i. leb tag (node_at ns i).tag) is

-- The rows looked at when the tag is sought among the members.
unfoldable pub looked_at : List Node → ℕ → List ℕ → ℕ
looked_at ns tag is = lower_tags ns tag is + cond (remains ns tag is) 1 0
