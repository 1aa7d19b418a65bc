-- What the functions of this crate require of and promise each other. None of this is in the papers.
use Rattle.std.specs.Prelude.{◌≡◌, Bool, cond, List, [], ◌∷◌, ℕ, ◌*◌, ◌≤◌, ◌<◌, length, eqb, ltb, Option, Some, None}
use Rattle.basics.specs.Limits.{most_rows}
use Rattle.dataset.specs.Answer.{width, flat}
use Rattle.dataset.specs.Tree.{rows_of, row_at, Kind, Members}
use Rattle.node.specs.Nodes.{nodes_of, Node, node_at, next_node, members}

-- The row table of a data set that was read, which every function here requires.
pub record Table (s rows : List ℕ) : Type 0 where
  pub is : rows ≡ flat (rows_of s)
  pub size : length rows ≡ width * length (nodes_of s)
  pub few : length (nodes_of s) ≤ most_rows

-- What p says about what was found; `otherwise` if nothing was.
abbrev pub holds_or : Option ℕ → (ℕ → Bool) → Bool → Bool
holds_or None p otherwise = otherwise
holds_or (Some n) p otherwise = p n

-- ---- How the code finds an element among members: tags never descend among them, so a search can stop at the first tag not below the
-- one sought, and can go by halves if that is far.

-- No tag of the members is below `least` or below one before it.
unfoldable pub Ascends : List Node → ℕ → List ℕ → Type 0
Ascends ns least [] = Unit {0}
Ascends ns least (k ∷ ks) = (least ≤ (node_at ns k).tag) × Ascends ns (node_at ns k).tag ks

-- The members from the first one on whose tag is not below the given tag.
unfoldable pub from_tag : List Node → ℕ → List ℕ → List ℕ
from_tag ns tag [] = []
from_tag ns tag (k ∷ ks) = cond (ltb (node_at ns k).tag tag) (from_tag ns tag ks) (k ∷ ks)

-- The first of the members, if it has the tag.
unfoldable pub first_is : List Node → ℕ → List ℕ → Option ℕ
first_is ns tag [] = None
first_is ns tag (k ∷ ks) = cond (eqb (node_at ns k).tag tag) (Some k) None

-- If the answer names a node, the members from it on are those from `from` up to `to` whose tags are not below the given tag.
abbrev pub Nearby : List Node → ℕ → ℕ → ℕ → Option ℕ → Type 0
Nearby ns tag from to (Some n) = members ns n to ≡ from_tag ns tag (members ns from to)
Nearby ns tag from to None = Unit {0}

-- The number of the first member whose tag is not below the given tag; `to` if there is none.
unfoldable pub lower : List Node → ℕ → List ℕ → ℕ → ℕ
lower ns tag [] to = to
lower ns tag (k ∷ ks) to = cond (ltb (node_at ns k).tag tag) (lower ns tag ks to) k

-- The members of one container are those from `up` up to `to`. Their parent number is `up`: that of a node counted from 1, or 0 for the
-- root.
pub record Container (s : List ℕ) (up to : ℕ) : Type 0 where
  pub kind : Kind
  pub depth : ℕ
  pub held : Members (rows_of s) (length s) kind depth up 0 up to
  pub ends : to ≤ length (nodes_of s)

-- Node i is in the container `up`, or below a member of it.
pub record StandsIn (s : List ℕ) (up i : ℕ) : Type 0 where
  pub to : ℕ
  pub within : Container s up to
  pub low : up ≤ i
  pub high : i < to

-- Node m is a member of the container `up`, and node i is m or below it.
pub record MemberAbove (s : List ℕ) (up i m : ℕ) : Type 0 where
  pub held : (row_at (rows_of s) m).parent ≡ up
  pub after : up ≤ m
  pub low : m ≤ i
  pub high : i < next_node (nodes_of s) m
