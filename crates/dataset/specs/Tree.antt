-- The structure of a data set's rows, as a search over the row table uses it: the rows from one row number up to another are the members
-- of one container, and a step from one member to the next passes its descendants.
use Rattle.std.specs.Prelude.{◌≡◌, ℕ, ◌+◌, ◌*◌, ◌≤◌, List, [], get_or}
use Rattle.basics.specs.Vr.{form_of, SQ}
use Rattle.basics.specs.Tags.{item_tag}
use Rattle.dataset.specs.declared.Row.{Row}
use Rattle.dataset.specs.Reading.{row, Reading, too_large, refused_at, read, reading_of, depths}

-- The rows of a data set that reads well; otherwise none.
abbrev pub rows_in : Reading → List Row
rows_in too_large = []
rows_in (refused_at fault offset) = []
rows_in (read rows) = rows

unfoldable pub rows_of : List ℕ → List Row
rows_of s = rows_in (reading_of s)

abbrev pub no_row : Row
no_row = row 0 0 0 0 0 0 0

-- Row i.
abbrev pub row_at : List Row → ℕ → Row
row_at rows i = get_or rows i no_row

-- The row after row i and all its descendants.
abbrev pub next_row : List Row → ℕ → ℕ
next_row rows i = i + 1 + (row_at rows i).descendants

-- What a container holds: the root and an item hold elements, a sequence holds items.
pub data Kind : Type 0 where
  elements : Kind
  items : Kind

-- What a member of a container is: an element of a listed VR and a tag of at least `least`, or an item. Its depth is the container's
-- depth for its members, its value lies within the data set of `size` bytes, only a sequence or an item has descendants, and its parent
-- is the container, by its row number counted from 1. Each descendant takes at least 8 bytes, and a sequence or an item without
-- descendants has length 0.
abbrev pub IsMember : Kind → ℕ → Row → Type 0
IsMember elements least r = (least ≤ r.tag) × ((form_of r.vr ≡ 0 → ⊥) × ((r.vr ≡ SQ → ⊥) → r.descendants ≡ 0))
IsMember items least r = (r.tag ≡ item_tag) × (r.vr ≡ 0)

-- It is a sequence, or an item.
abbrev pub IsHolder : Kind → Row → Type 0
IsHolder elements r = r.vr ≡ SQ
IsHolder items r = Unit {0}

pub record Member (size : ℕ) (kind : Kind) (depth holder least : ℕ) (r : Row) : Type 0 where
  pub is : IsMember kind least r
  pub level : r.depth ≡ depth
  pub deep : r.depth ≤ depths
  pub within : r.offset + r.size ≤ size
  pub held : r.parent ≡ holder
  pub roomy : 8 * r.descendants ≤ r.size
  pub bare : IsHolder kind r → r.descendants ≡ 0 → r.size ≡ 0

-- What the members of a member are: items hold elements of their own depth, and sequences items one deeper.
abbrev pub kind_inside : Kind → Kind
kind_inside elements = items
kind_inside items = elements

abbrev pub depth_inside : Kind → ℕ → ℕ
depth_inside elements depth = depth + 1
depth_inside items depth = depth

-- The rows from i up to `to` are the members of one container, with all that is below them. Tags ascend among elements: each is at least
-- `least`, which for the next is one above this tag.
pub data Members (rows : List Row) (size : ℕ) : Kind → ℕ → ℕ → ℕ → ℕ → ℕ → Type 0 where
  end : {kind : Kind} {depth holder least i to : ℕ} → i ≡ to → Members rows size kind depth holder least i to
  member : {kind : Kind} {depth holder least i to : ℕ} → next_row rows i ≤ to → Member size kind depth holder least (row_at rows i)
      → Members rows size (kind_inside kind) (depth_inside kind depth) (i + 1) 0 (i + 1) (next_row rows i)
      → Members rows size kind depth holder ((row_at rows i).tag + 1) (next_row rows i) to
      → Members rows size kind depth holder least i to
