-- Demand 3, one statement over drawing and mapping. An object is accepted when it passes the size limit and the reading checks and breaks
-- no listed rule. Take any frame of it, from 1 to its Number of Frames. Then no drawing step lacks anything and `show` draws the frame,
-- as `Drawing` of `Rattle.display` says. And if the frame has a TO_LINEAR item, its mapping lacks no value, cell or entry: it gives
-- exactly Rows × Columns numbers. `linear` answers code 0 exactly when the object is accepted, the number is one of its frames, the frame
-- has a TO_LINEAR item, and there is room for the rows and for Rows × Columns numbers; what it then hands back is what the mapping gives,
-- and the values buffer is untouched beyond it. The statement covers all steps, frames, cells and entries at once. It is made of the same
-- definitions of the rules, the steps and the mapping that the calls are proved to follow, and no rule is built into the steps or the
-- mapping. Proved in proofs/Demand3.
use Rattle.std.specs.Prelude.{◌≡◌, true, List, ◌++◌, ℕ, length, drop, Some}
use Rattle.basics.specs.Bytes.{IsBytes}
use Rattle.dataset.specs.Tree.{rows_of}
use Rattle.node.specs.Nodes.{Node, nodes_of}
use Rattle.display.specs.Show.{image_size}
use Rattle.display.specs.Drawing.{IsAccepted, IsFrame, HasRoom, Drawing}
use Rattle.linear.specs.Mapping.{mapping_of, has_linear_item}
use Rattle.linear.specs.Answer.{linear_of, values_left, fields_of}

-- The mapping lacks nothing at frame f: it gives exactly Rows × Columns numbers.
pub record Mapped (ns : List Node) (f : ℕ) : Type 0 where
  pub l : List ℕ
  pub is : mapping_of ns f ≡ Some l
  pub size : length l ≡ image_size ns

-- The mapping gives numbers l, and `linear` hands back l.
pub record LinearBack (s : List ℕ) (f : ℕ) (buffer values : List ℕ) : Type 0 where
  pub l : List ℕ
  pub is : mapping_of (nodes_of s) f ≡ Some l
  pub rows : (fields_of (linear_of s f buffer values)).rows ≡ length (rows_of s)
  pub numbers : values_left s f buffer values ≡ l ++ drop (image_size (nodes_of s)) values

pub record Promise (s : List ℕ) (f : ℕ) : Type 0 where
  -- Drawing: every frame of an accepted object can be drawn and is, nothing else is, and as the steps say.
  pub drawing : Drawing s f
  -- Every frame of an accepted object that has a TO_LINEAR item can be mapped.
  pub mappable : IsAccepted s → IsFrame s f → has_linear_item (nodes_of s) f ≡ true → Mapped (nodes_of s) f
  -- It is mapped if there is room,
  pub mapped : (buffer values : List ℕ) → IsAccepted s → IsFrame s f → has_linear_item (nodes_of s) f ≡ true → HasRoom s buffer values
      → (fields_of (linear_of s f buffer values)).code ≡ 0
  -- and nothing else is.
  pub nothing-else : (buffer values : List ℕ) → (fields_of (linear_of s f buffer values)).code ≡ 0
      → IsAccepted s × (IsFrame s f × ((has_linear_item (nodes_of s) f ≡ true) × HasRoom s buffer values))
  -- What is handed back is what the mapping gives.
  pub as-mapped : (buffer values : List ℕ) → (fields_of (linear_of s f buffer values)).code ≡ 0 → LinearBack s f buffer values

-- For every data set, given as bytes, and every frame number.
abbrev pub Demand3 : Type 0
Demand3 = (s : List ℕ) → IsBytes s → (f : ℕ) → Promise s f
