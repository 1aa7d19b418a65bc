-- The canonical form of a data set: written with defined lengths throughout and no delimiters (document 02, Q-10: no end marks). It is a
-- function of the data set's nodes alone, that is of tags, VRs, depths, rows below and, except for sequences and items, values.
use Rattle.std.specs.Prelude.{ℕ, ◌+◌, ◌/◌, ◌%◌, cond, List, [], ◌∷◌, ◌++◌, length, take, eqb}
use Rattle.basics.specs.Bytes.{le}
use Rattle.basics.specs.Vr.{form_of}
use Rattle.node.specs.Nodes.{Node}

-- ---- Headers

-- The two letters of a VR.
unfoldable pub letters : ℕ → List ℕ
letters vr = vr / 256 % 256 ∷ vr % 256 ∷ []

-- What follows the tag in a header. For an item, which has no VR (0 in its row), a 32-bit length. For an element, its VR, then either two
-- zero bytes and a 32-bit length (form 2) or a 16-bit length (form 1).
unfoldable pub length_of : ℕ → ℕ → List ℕ
length_of vr size = cond (eqb vr 0) (le 4 size) (letters vr ++ cond (eqb (form_of vr) 2) (le 2 0 ++ le 4 size) (le 2 size))

-- A header: group, element, VR and length.
unfoldable pub header : ℕ → ℕ → ℕ → List ℕ
header tag vr size = le 2 (tag / 65536) ++ (le 2 (tag % 65536) ++ length_of vr size)

-- How many bytes a header has.
unfoldable pub head_size : ℕ → ℕ
head_size vr = cond (eqb (form_of vr) 2) 12 8

-- ---- Nodes

-- The bytes that a node takes by itself: its header and its value. A sequence and an item have no value of their own.
unfoldable pub own_size : Node → ℕ
own_size n = head_size n.vr + length n.value

-- The bytes that nodes take together.
unfoldable pub written_size : List Node → ℕ
written_size [] = 0
written_size (n ∷ ns) = own_size n + written_size ns

-- A node's header and value; `after` are the nodes that follow it, the first of which are below it. The length in its header is that of
-- its value plus that of all nodes below it; one of the two is 0.
unfoldable pub node_bytes : Node → List Node → List ℕ
node_bytes n after = header n.tag n.vr (length n.value + written_size (take n.descendants after)) ++ n.value

-- The canonical form: node after node. Nothing else is written, so there are no delimiters.
unfoldable pub written_of : List Node → List ℕ
written_of [] = []
written_of (n ∷ ns) = node_bytes n ns ++ written_of ns
