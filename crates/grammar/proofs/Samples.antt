-- The starred reading cases of document 01 ("Sample drawer"): those that read well as trees, with the bytes that spell them and their rows;
-- those that are refused as bytes that no data set spells. Two cases beside them have each extent inside the other, and a UN and an SQ
-- element of length 0. All is worked out by the definitions.
use mathlib.Core.Path.{◌≡◌, refl}
use Prim.Native.Nat.{ℕ}
use mathlib.Core.List.{List, [], ◌∷◌, map}
use Rattle.basics.specs.Bytes.{le16, le}
use Rattle.basics.specs.Vr.{listed, form_of, US, UN, SQ}
use Rattle.basics.specs.Tags.{item_tag}
use Rattle.dataset.specs.declared.Fault.TheVariants.{CutShort, NotAscending, OddLength, NotDue}
use Rattle.dataset.specs.Header.{when, header_by, delimiter_by, nested_by, defined_by, long_by, typed_at, tagged_at, sized_by, member_at}
use Rattle.dataset.specs.declared.Row.{Row}
use Rattle.dataset.specs.Reading.{row, level, value_run, refused_at, read, reading_of}
use Rattle.dataset.specs.Tree.{elements}
use Rattle.grammar.specs.Grammar.{Forest, none, element, sequence, item, defined, undefined}
use Rattle.grammar.specs.Grammar.{tag_bytes, element_header, header_size, item_header, length_in, closing, spell, count, rows_at, tree_rows}

-- ---- What reads well

record Case : Type 0 where
  tree : Forest elements
  bytes : List ℕ
  rows : List Row

case : Forest elements → List ℕ → List Row → Case
case tree bytes rows = record { tree = tree; bytes = bytes; rows = rows }

rows_element : Forest elements → Forest elements
rows_element rest = element 0x0028_0010 US (2 ∷ 0 ∷ []) rest

cases : List Case
cases =
    -- no bytes: 0 rows
    case none [] []
    -- one row
    ∷ case (rows_element none) (0x28 ∷ 0 ∷ 0x10 ∷ 0 ∷ 0x55 ∷ 0x53 ∷ 2 ∷ 0 ∷ 2 ∷ 0 ∷ []) (row 0x0028_0010 US 0 8 2 0 0 ∷ [])
    -- a sequence of undefined length without items: one row, length 0
    ∷ case (sequence 0x5200_9229 undefined none none)
    (0 ∷ 0x52 ∷ 0x29 ∷ 0x92 ∷ 0x53 ∷ 0x51 ∷ 0 ∷ 0 ∷ 0xFF ∷ 0xFF ∷ 0xFF ∷ 0xFF ∷ 0xFE ∷ 0xFF ∷ 0xDD ∷ 0xE0 ∷ 0 ∷ 0 ∷ 0 ∷ 0 ∷ [])
    (row 0x5200_9229 SQ 0 12 0 0 0 ∷ [])
    -- not starred: an item of undefined length in a sequence of defined length, then one the other way round
    ∷ case (sequence 0x0028_6100 defined (item undefined (rows_element none) none)
    (sequence 0x5200_9229 undefined (item defined none none) none))
    (0x28 ∷ 0 ∷ 0 ∷ 0x61 ∷ 0x53 ∷ 0x51 ∷ 0 ∷ 0 ∷ 26 ∷ 0 ∷ 0 ∷ 0
    ∷ 0xFE ∷ 0xFF ∷ 0 ∷ 0xE0 ∷ 0xFF ∷ 0xFF ∷ 0xFF ∷ 0xFF ∷ 0x28 ∷ 0 ∷ 0x10 ∷ 0 ∷ 0x55 ∷ 0x53 ∷ 2 ∷ 0 ∷ 2 ∷ 0
    ∷ 0xFE ∷ 0xFF ∷ 0x0D ∷ 0xE0 ∷ 0 ∷ 0 ∷ 0 ∷ 0
    ∷ 0 ∷ 0x52 ∷ 0x29 ∷ 0x92 ∷ 0x53 ∷ 0x51 ∷ 0 ∷ 0 ∷ 0xFF ∷ 0xFF ∷ 0xFF ∷ 0xFF ∷ 0xFE ∷ 0xFF ∷ 0 ∷ 0xE0 ∷ 0 ∷ 0 ∷ 0 ∷ 0
    ∷ 0xFE ∷ 0xFF ∷ 0xDD ∷ 0xE0 ∷ 0 ∷ 0 ∷ 0 ∷ 0 ∷ [])
    (row 0x0028_6100 SQ 0 12 26 2 0 ∷ row item_tag 0 1 20 10 1 1 ∷ row 0x0028_0010 US 1 28 2 0 2
    ∷ row 0x5200_9229 SQ 0 50 8 1 0 ∷ row item_tag 0 1 58 0 0 4 ∷ [])
    -- not starred: UN bytes are a value, whatever they look like; SQ of length 0
    ∷ case (element 0x0009_0010 UN (0xFE ∷ 0xFF ∷ 0 ∷ 0xE0 ∷ 0 ∷ 0 ∷ 0 ∷ 0 ∷ []) (sequence 0x0028_6100 defined none none))
    (9 ∷ 0 ∷ 0x10 ∷ 0 ∷ 0x55 ∷ 0x4E ∷ 0 ∷ 0 ∷ 8 ∷ 0 ∷ 0 ∷ 0 ∷ 0xFE ∷ 0xFF ∷ 0 ∷ 0xE0 ∷ 0 ∷ 0 ∷ 0 ∷ 0
    ∷ 0x28 ∷ 0 ∷ 0 ∷ 0x61 ∷ 0x53 ∷ 0x51 ∷ 0 ∷ 0 ∷ 0 ∷ 0 ∷ 0 ∷ 0 ∷ [])
    (row 0x0009_0010 UN 0 12 8 0 0 ∷ row 0x0028_6100 SQ 0 32 0 0 0 ∷ []) ∷ []

spelt : map (λ (k : Case). spell k.tree) cases ≡ map (λ (k : Case). k.bytes) cases
unfolding cases case rows_element spell element_header item_header tag_bytes length_in closing le form_of listed
spelt = refl

tabled : map (λ (k : Case). tree_rows k.tree) cases ≡ map (λ (k : Case). k.rows) cases
unfolding cases case rows_element spell element_header item_header tag_bytes length_in closing le form_of listed tree_rows rows_at count header_size
tabled = refl

reads : map (λ (k : Case). reading_of k.bytes) cases ≡ map (λ (k : Case). read k.rows) cases
unfolding cases case le16 listed form_of when header_by delimiter_by nested_by defined_by long_by typed_at tagged_at sized_by member_at level value_run
    reading_of
reads = refl

-- ---- What is refused

-- By `Refusals` no data set spells these: 7 bytes; an element twice; length 3; an item at the root; and, not starred, a delimiter with a
-- length.
refusals : map reading_of (
    (0x28 ∷ 0 ∷ 0x10 ∷ 0 ∷ 0x55 ∷ 0x53 ∷ 2 ∷ [])
    ∷ (0x28 ∷ 0 ∷ 0x10 ∷ 0 ∷ 0x55 ∷ 0x53 ∷ 2 ∷ 0 ∷ 2 ∷ 0 ∷ 0x28 ∷ 0 ∷ 0x10 ∷ 0 ∷ 0x55 ∷ 0x53 ∷ 2 ∷ 0 ∷ 2 ∷ 0 ∷ [])
    ∷ (0x28 ∷ 0 ∷ 0x10 ∷ 0 ∷ 0x55 ∷ 0x53 ∷ 3 ∷ 0 ∷ 2 ∷ 0 ∷ [])
    ∷ (0xFE ∷ 0xFF ∷ 0 ∷ 0xE0 ∷ 0 ∷ 0 ∷ 0 ∷ 0 ∷ [])
    ∷ (0 ∷ 0x52 ∷ 0x29 ∷ 0x92 ∷ 0x53 ∷ 0x51 ∷ 0 ∷ 0 ∷ 0xFF ∷ 0xFF ∷ 0xFF ∷ 0xFF ∷ 0xFE ∷ 0xFF ∷ 0xDD ∷ 0xE0 ∷ 2 ∷ 0 ∷ 0 ∷ 0 ∷ []) ∷ [])
    ≡ refused_at CutShort 0 ∷ refused_at NotAscending 10 ∷ refused_at OddLength 0 ∷ refused_at NotDue 0 ∷ refused_at NotDue 12 ∷ []
unfolding le16 listed form_of when header_by delimiter_by nested_by defined_by long_by typed_at tagged_at sized_by member_at level value_run reading_of
refusals = refl
