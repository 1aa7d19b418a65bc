-- What a data set in Explicit VR Little Endian is, stated without a reader (PS3.5; document 01, "Reading"): a type of trees, the bytes
-- that spell a tree, which trees are data sets, and the rows of a tree. Nothing here walks bytes, and nothing refuses.
use Rattle.std.specs.Prelude.{◌≡◌, ℕ, ◌+◌, ◌/◌, ◌%◌, ◌≤◌, ◌<◌, List, [], ◌∷◌, ◌++◌, cond, length, eqb}
use Rattle.basics.specs.Bytes.{IsBytes, le}
use Rattle.basics.specs.Vr.{form_of, SQ}
use Rattle.basics.specs.Tags.{item_tag, item_delimiter, sequence_delimiter, item_group}
use Rattle.basics.specs.Limits.{largest}
use Rattle.dataset.specs.declared.Row.{Row}
use Rattle.dataset.specs.Reading.{row}
use Rattle.dataset.specs.Tree.{Kind, elements, items}

-- ---- Trees

-- How long a sequence or an item is said to be: by a number, or not, so that a delimiter (the paper's end mark) closes it.
pub data Extent : Type 0 where
  defined : Extent
  undefined : Extent

-- The members of one container, first to last: elements with a value, sequences of items, or items of elements.
pub data Forest : Kind → Type 0 where
  none : {kind : Kind} → Forest kind
  element : (tag vr : ℕ) → List ℕ → Forest elements → Forest elements
  sequence : (tag : ℕ) → Extent → Forest items → Forest elements → Forest elements
  item : Extent → Forest elements → Forest items → Forest items

-- ---- Bytes

-- A tag: group, then element.
unfoldable pub tag_bytes : ℕ → List ℕ
tag_bytes tag = le 2 (tag / 65536) ++ le 2 (tag % 65536)

-- An element's header: tag, the two letters of the VR, and a 16-bit length, or two zero bytes and a 32-bit length.
unfoldable pub element_header : ℕ → ℕ → ℕ → List ℕ
element_header tag vr size = tag_bytes tag ++ (vr / 256 ∷ vr % 256 ∷ cond (eqb (form_of vr) 2) (0 ∷ 0 ∷ le 4 size) (le 2 size))

unfoldable pub header_size : ℕ → ℕ
header_size vr = cond (eqb (form_of vr) 2) 12 8

-- The header of an item, or a delimiter: tag and a 32-bit length.
unfoldable pub item_header : ℕ → ℕ → List ℕ
item_header tag size = tag_bytes tag ++ le 4 size

-- The length in the header of a sequence or an item with so many bytes inside it, and what stands after these.
unfoldable pub length_in : Extent → ℕ → ℕ
length_in defined size = size
length_in undefined size = 0xFFFF_FFFF

unfoldable pub closing : Extent → ℕ → List ℕ
closing defined delimiter = []
closing undefined delimiter = item_header delimiter 0

unfoldable pub spell : {kind : Kind} → Forest kind → List ℕ
spell none = []
spell (element tag vr value rest) = element_header tag vr (length value) ++ (value ++ spell rest)
spell (sequence tag extent inside rest) =
    element_header tag SQ (length_in extent (length (spell inside))) ++ (spell inside ++ (closing extent sequence_delimiter ++ spell rest))
spell (item extent inside rest) =
    item_header item_tag (length_in extent (length (spell inside))) ++ (spell inside ++ (closing extent item_delimiter ++ spell rest))

-- ---- Data sets

-- A tag of 32 bits, above the one before it in the same data set (`least` is one more than that, 0 for the first), and of no item or
-- delimiter.
pub record Tagged (least tag : ℕ) : Type 0 where
  pub ascends : least ≤ tag
  pub small : tag < 4294967296
  pub group : tag / 65536 ≡ item_group → ⊥

-- A value of a listed VR, SQ apart: an even number of bytes that fits the 16 bits of a short form. (The limit of the whole data set sees to
-- 32-bit lengths, so that none is FFFFFFFFH; and what is inside a sequence or an item is even because all that is in it is.)
pub record Valued (vr : ℕ) (value : List ℕ) : Type 0 where
  pub known : form_of vr ≡ 0 → ⊥
  pub plain : vr ≡ SQ → ⊥
  pub bytes : IsBytes value
  pub even : length value % 2 ≡ 0
  pub short : form_of vr ≡ 1 → length value < 65536

-- Tags ascend in each data set, and no sequence has depth 8.
unfoldable pub Valid : {kind : Kind} → ℕ → ℕ → Forest kind → Type 0
Valid depth least none = Unit {0}
Valid depth least (element tag vr value rest) = Tagged least tag × (Valued vr value × Valid depth (tag + 1) rest)
Valid depth least (sequence tag extent inside rest) =
    Tagged least tag × ((depth < 8) × (Valid (depth + 1) 0 inside × Valid depth (tag + 1) rest))
Valid depth least (item extent inside rest) = Valid depth 0 inside × Valid depth 0 rest

pub record DataSet (t : Forest elements) : Type 0 where
  pub valid : Valid 0 0 t
  pub small : length (spell t) ≤ largest

-- ---- Rows

-- How many elements and items there are.
unfoldable pub count : {kind : Kind} → Forest kind → ℕ
count none = 0
count (element tag vr value rest) = 1 + count rest
count (sequence tag extent inside rest) = 1 + (count inside + count rest)
count (item extent inside rest) = 1 + (count inside + count rest)

-- The seven numbers of each, in byte order, for members whose bytes start at `at`: `holder` is the number, counted from 1, of the row that
-- holds them, and `n` the number, counted from 0, of their first row.
unfoldable pub rows_at : {kind : Kind} → (depth at holder n : ℕ) → Forest kind → List Row
rows_at depth at holder n none = []
rows_at depth at holder n (element tag vr value rest) =
    row tag vr depth (at + header_size vr) (length value) 0 holder ∷ rows_at depth (at + header_size vr + length value) holder (n + 1) rest
rows_at depth at holder n (sequence tag extent inside rest) =
    row tag SQ depth (at + header_size SQ) (length (spell inside)) (count inside) holder
    ∷ (rows_at (depth + 1) (at + header_size SQ) (n + 1) (n + 1) inside
    ++ rows_at depth (at + header_size SQ + length (spell inside) + length (closing extent sequence_delimiter)) holder (n + 1 + count inside)
    rest)
rows_at depth at holder n (item extent inside rest) =
    row item_tag 0 depth (at + 8) (length (spell inside)) (count inside) holder
    ∷ (rows_at depth (at + 8) (n + 1) (n + 1) inside
    ++ rows_at depth (at + 8 + length (spell inside) + length (closing extent item_delimiter)) holder (n + 1 + count inside) rest)

unfoldable pub tree_rows : Forest elements → List Row
tree_rows t = rows_at 0 0 0 0 t
