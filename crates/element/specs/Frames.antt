-- Frames and their functional groups (the paper's groups), and the mask items.
use Rattle.std.specs.Prelude.{ℕ, ◌-◌, List, Bool, cond, drop, leb, Option, Some, None}
use Rattle.value.specs.declared.Signed.{Signed}
use Rattle.value.specs.declared.Signed.TheVariants as signed
use Rattle.value.specs.Number.{integer_of}
use Rattle.node.specs.Nodes.{Node, root, inside}
use Rattle.node.specs.Find.{and_then, or_else, find, find_vr}
use Rattle.basics.specs.Tags.{NumberOfFrames, SharedFunctionalGroupsSequence, PerFrameFunctionalGroupsSequence}
use Rattle.basics.specs.Tags.{MaskSubtractionSequence, MaskOperation, SubtractionItemID}
use Rattle.basics.specs.Vr.{IS}
use Rattle.element.specs.Elements.{value_at, us_in, cs_is, the_item, items_in, first}

-- A signed number as a count: a negative one counts as 0.
abbrev pub as_count : Option Signed → Option ℕ
as_count (Some (signed.Plus n)) = Some n
as_count (Some (signed.Minus n)) = Some 0
as_count None = None

-- Number of Frames, the paper's N.
unfoldable pub frames_of : List Node → Option ℕ
frames_of ns = and_then (find_vr ns NumberOfFrames IS (root ns)) (λ i. as_count (integer_of (value_at ns i)))

-- The one item of the shared functional groups.
unfoldable pub shared_item : List Node → Option ℕ
shared_item ns = and_then (find ns SharedFunctionalGroupsSequence (root ns)) (the_item ns)

-- The items of the per-frame functional groups, and item f, counted from 1: there is no item 0.
unfoldable pub frame_items : List Node → List ℕ
frame_items ns = items_in ns PerFrameFunctionalGroupsSequence (root ns)

abbrev pub frame_item : List Node → ℕ → Option ℕ
frame_item ns f = cond (leb 1 f) (first (drop (f - 1) (frame_items ns))) None

-- "A frame's group is that in item f, of any VR, else the shared one": of the tag, for item i and the shared item s.
abbrev pub group_of : List Node → ℕ → ℕ → ℕ → Option ℕ
group_of ns tag s i = or_else (find ns tag (inside ns i)) (find ns tag (inside ns s))

-- The mask items, in their order.
unfoldable pub mask_items : List Node → List ℕ
mask_items ns = items_in ns MaskSubtractionSequence (root ns)

-- A mask item's operation is the word.
unfoldable pub operation_is : List Node → List ℕ → ℕ → Bool
operation_is ns word j = cs_is ns MaskOperation word (inside ns j)

-- The Subtraction Item ID of a mask item, or of an item of a frame's own shifts.
abbrev pub id_in : List Node → ℕ → Option ℕ
id_in ns j = us_in ns SubtractionItemID (inside ns j)
