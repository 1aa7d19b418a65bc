-- Which fault a refusal names, and which offset, without a walk along the bytes: where headers stand in bytes that are perhaps no data
-- set, and the first check that applies to one (dataset/specs/Header.antt, document 01's "Checks at a header").
--
-- A header stands at the start of the bytes; after members that are spelt right where one stands; and inside a sequence or an item whose
-- header is spelt right where one stands. Of what follows nothing is asked.
use Rattle.std.specs.Prelude.{◌≡◌, ℕ, ◌+◌, ◌-◌, ◌%◌, ◌≤◌, ◌<◌, Bool, true, false, List, ◌++◌, length, drop}
use Rattle.basics.specs.Bytes.{IsBytes}
use Rattle.basics.specs.Vr.{SQ}
use Rattle.basics.specs.Tags.{item_tag}
use Rattle.basics.specs.Limits.{largest}
use Rattle.std.specs.Prelude.{Result, Err}
use Rattle.dataset.specs.declared.Fault.{Fault}
use Rattle.dataset.specs.declared.Head.{Head}
use Rattle.dataset.specs.Header.{cursor, element_at, item_at}
use Rattle.dataset.specs.Reading.{refused_at, reading_of}
use Rattle.dataset.specs.Tree.{Kind, elements, items}
use Rattle.grammar.specs.Grammar.{Extent, defined, undefined, Forest, none, element, sequence, item}
use Rattle.grammar.specs.Grammar.{element_header, header_size, item_header, length_in, spell, Tagged, Valid}

-- One more than the last tag of a forest, or `least` if it is empty.
unfoldable pub least_after : {kind : Kind} → ℕ → Forest kind → ℕ
least_after least none = least
least_after least (element tag vr value rest) = least_after (tag + 1) rest
least_after least (sequence tag extent inside rest) = least_after (tag + 1) rest
least_after least (item extent inside rest) = least_after (item_tag + 1) rest

-- The innermost known end inside a container with so many bytes, and whether a delimiter closes it.
abbrev pub inner_end : Extent → ℕ → ℕ → ℕ → ℕ
inner_end defined start size end = start + size
inner_end undefined start size end = end

abbrev pub inner_mark : Extent → Bool
inner_mark defined = false
inner_mark undefined = true

-- The header of a sequence or an item: k bytes at the offset, with an even length up to the known end, or an undefined length (`size` is
-- 0).
pub record Opened (s : List ℕ) (at end k : ℕ) (front : ℕ → List ℕ) (extent : Extent) (size : ℕ) : Type 0 where
  pub fits : at + k + size ≤ end
  pub even : size % 2 ≡ 0
  pub bytes : drop at s ≡ front (length_in extent size) ++ drop (at + k) s

-- A header stands at `at`, among elements or items of a depth; `end` is the innermost known end, the Boolean says whether a delimiter
-- closes
-- the container, and `least` is one more than the tag before.
pub data Stands (s : List ℕ) : Kind → ℕ → ℕ → ℕ → Bool → ℕ → Type 0 where
  start : Stands s elements 0 0 (length s) false 0
  after : {kind : Kind} {depth at end least : ℕ} {d : Bool} (f : Forest kind) (next : ℕ) → Stands s kind depth at end d least
      → Valid depth least f → at + length (spell f) ≡ next → next ≤ end → drop at s ≡ spell f ++ drop next s
      → Stands s kind depth next end d (least_after least f)
  in-sequence : {depth at end least : ℕ} {d : Bool} (tag : ℕ) (extent : Extent) (size : ℕ) → Stands s elements depth at end d least
      → Tagged least tag → depth < 8 → Opened s at end (header_size SQ) (element_header tag SQ) extent size
      → Stands s items (depth + 1) (at + header_size SQ) (inner_end extent (at + header_size SQ) size end) (inner_mark extent) 0
  in_item : {depth at end least : ℕ} {d : Bool} (extent : Extent) (size : ℕ) → Stands s items depth at end d least
      → Opened s at end 8 (item_header item_tag) extent size
      → Stands s elements depth (at + 8) (inner_end extent (at + 8) size end) (inner_mark extent) 0

-- What is at an offset among elements or items; `levels` is how many levels are permitted below.
abbrev pub head_of : Kind → ℕ → List ℕ → ℕ → Bool → ℕ → ℕ → Result Head Fault
head_of elements levels s end d at least = element_at s (cursor at end d) least levels
head_of items levels s end d at least = item_at s (cursor at end d)

-- A header stands at the offset, and a check finds the fault.
pub record RefusedThere (s : List ℕ) (fault : Fault) (offset : ℕ) : Type 0 where
  pub kind : Kind
  pub depth : ℕ
  pub end : ℕ
  pub delimited : Bool
  pub least : ℕ
  pub stands : Stands s kind depth offset end delimited least
  pub refuses : head_of kind (8 - depth) s end delimited offset least ≡ Err fault

-- Reading refuses with a fault at an offset exactly if a header stands there in which a check finds the fault.
pub record Places (s : List ℕ) : Type 0 where
  pub there : IsBytes s → (fault : Fault) (offset : ℕ) → reading_of s ≡ refused_at fault offset → RefusedThere s fault offset
  pub only : length s ≤ largest → (fault : Fault) (offset : ℕ) → RefusedThere s fault offset → reading_of s ≡ refused_at fault offset
