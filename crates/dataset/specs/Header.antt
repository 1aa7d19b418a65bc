-- What is at a cursor (document 01, "Checks at a header"): a header, with the cursor moved onto its value; the end of what is read, with
-- the cursor moved after it; or why it is refused. An end has its delimiter's tag and VR 0, or 0 for both at a known end. The checks come
-- in the paper's order; the first that applies decides.
--
-- A cursor is an offset, the innermost known end (data set or defined length), and whether what is read there has an
-- undefined length, so that a delimiter (the paper's end mark) closes it.
use Rattle.std.specs.Prelude.{ℕ, ◌+◌, ◌-◌, ◌/◌, ◌%◌, List, Bool, true, false, ltb, eqb}
use Rattle.std.specs.Prelude.{Result, Ok, Err}
use Rattle.dataset.specs.declared.Fault.{Fault}
use Rattle.dataset.specs.declared.Cursor.{Cursor}
use Rattle.dataset.specs.declared.Fault.TheVariants.{CutShort, NotAscending, UnlistedVr, OddLength, NotDue, TooDeep}
use Rattle.dataset.specs.declared.Head.{Head}
use Rattle.dataset.specs.declared.Head.TheVariants.{Header, End}
use Rattle.basics.specs.Bytes.{le16, le32, tag_at, vr_at}
use Rattle.basics.specs.Tags.{item_tag, item_delimiter, sequence_delimiter, item_group}
use Rattle.basics.specs.Vr.{form_of, SQ}

-- The first if the test holds, otherwise the second. It is `cond` for heads, but stays folded until a proof unfolds it, so that a search
-- can match on each check.
unfoldable pub when : Bool → Result Head Fault → Result Head Fault → Result Head Fault
when true a b = a
when false a b = b

-- The length that is undefined.
abbrev pub undefined : ℕ
undefined = 0xFFFF_FFFF

-- ---- The checks

abbrev pub cursor : ℕ → ℕ → Bool → Cursor
cursor at end delimited = record { at = at; end = end; delimited = delimited }

-- The cursor at another offset of the same level.
abbrev pub moved : Cursor → ℕ → Cursor
moved c at = cursor at c.end c.delimited

-- A known end reached exactly has no header: it closes a defined length, and an undefined length still open there is
-- code 1. Check 1: fewer than 8 bytes.
unfoldable pub header_by : Cursor → Result Head Fault → Result Head Fault
header_by c head =
    when (eqb c.at c.end) (when c.delimited (Err CutShort) (Ok (End 0 0 c)))
    (when (ltb (c.end - c.at) 8) (Err CutShort) head)

-- Check 2: a delimiter closes if it is due, that is only where that length is undefined, and with length 0.
unfoldable pub delimiter_by : Cursor → ℕ → ℕ → ℕ → Result Head Fault
delimiter_by c tag due len =
    when c.delimited
    (when (eqb tag due)
    (when (eqb len 0) (Ok (End tag 0 (moved c (c.at + 8)))) (Err NotDue))
    (Err NotDue))
    (Err NotDue)

-- Check 8: no SQ at depth 8, where no level is left below it.
unfoldable pub nested_by : ℕ → ℕ → ℕ → Cursor → Result Head Fault
nested_by tag vr levels value = when (eqb vr SQ) (when (eqb levels 0) (Err TooDeep) (Ok (Header tag vr value))) (Ok (Header tag vr value))

-- Checks 7 and 8, for a value of a defined length that starts at `start`.
unfoldable pub defined_by : Cursor → ℕ → ℕ → ℕ → ℕ → ℕ → Result Head Fault
defined_by c tag vr start len levels =
    when (eqb (len % 2) 1) (Err OddLength)
    (when (ltb (c.end - start) len) (Err CutShort)
    (nested_by tag vr levels (cursor start (start + len) false)))

-- Checks 6 to 8, for a value with a 32-bit length.
unfoldable pub long_by : Cursor → ℕ → ℕ → ℕ → ℕ → ℕ → Result Head Fault
long_by c tag vr start len levels =
    when (eqb len undefined)
    (when (eqb vr SQ) (nested_by tag vr levels (cursor start c.end true)) (Err NotDue))
    (defined_by c tag vr start len levels)

-- Checks 4 to 8, for an element of the tag and VR, the VR's form and the 16 bits after the VR: a short form has its
-- length there; a long form has its two bytes there, and its 32-bit length after them.
unfoldable pub typed_at : List ℕ → Cursor → ℕ → ℕ → ℕ → ℕ → ℕ → Result Head Fault
typed_at s c tag vr form short levels =
    when (eqb form 0) (Err UnlistedVr)
    (when (eqb form 1) (defined_by c tag vr (c.at + 8) short levels)
    (when (ltb (c.end - c.at) 12) (Err CutShort)
    (when (eqb short 0) (long_by c tag vr (c.at + 12) (le32 s (c.at + 8)) levels)
    (Err NotDue))))

-- Checks 2 to 8, for an element of the tag. `least` is one more than the tag before it in the same data set, and 0 for
-- the first; `levels` is the number of levels permitted below it.
unfoldable pub tagged_at : List ℕ → Cursor → ℕ → ℕ → ℕ → Result Head Fault
tagged_at s c tag least levels =
    when (eqb (tag / 65536) item_group) (delimiter_by c tag item_delimiter (le32 s (c.at + 4)))
    (when (ltb tag least) (Err NotAscending)
    (typed_at s c tag (vr_at s (c.at + 4)) (form_of (vr_at s (c.at + 4))) (le16 s (c.at + 6)) levels))

-- Check 7, for an item of the 32-bit length. The paper gives an item the VR 0.
unfoldable pub sized_by : Cursor → ℕ → Result Head Fault
sized_by c len =
    when (eqb len undefined) (Ok (Header item_tag 0 (cursor (c.at + 8) c.end true)))
    (defined_by c item_tag 0 (c.at + 8) len 0)

-- Checks 2 and 7, among items: the tag is item, or the due sequence delimiter.
unfoldable pub member_at : List ℕ → Cursor → ℕ → Result Head Fault
member_at s c tag =
    when (eqb tag item_tag) (sized_by c (le32 s (c.at + 4)))
    (delimiter_by c tag sequence_delimiter (le32 s (c.at + 4)))

-- What is at a cursor among elements, and among items.
abbrev pub element_at : List ℕ → Cursor → ℕ → ℕ → Result Head Fault
element_at s c least levels = header_by c (tagged_at s c (tag_at s c.at) least levels)

abbrev pub item_at : List ℕ → Cursor → Result Head Fault
item_at s c = header_by c (member_at s c (tag_at s c.at))
