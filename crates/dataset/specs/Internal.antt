-- What the functions inside `read` promise in terms of the definition of reading: bounds of a header, and what a walk along one level
-- returns and writes. None of this is in the papers.
use Rattle.std.specs.Prelude.{◌≡◌, ℕ, ◌+◌, ◌*◌, ◌≤◌, ◌<◌, List, length, Bool, true, false, Option, Some, None, Result, Ok, Err}
use Rattle.std.proofs.lemmas.List.Edits.{sets}
use Rattle.dataset.specs.declared.Fault.{Fault}
use Rattle.dataset.specs.declared.Fault.TheVariants.{CutShort}
use Rattle.dataset.specs.declared.Cursor.{Cursor}
use Rattle.dataset.specs.declared.Head.{Head}
use Rattle.dataset.specs.declared.Head.TheVariants as head
use Rattle.dataset.specs.declared.Walk.{Walk}
use Rattle.dataset.specs.declared.Refusal.{Refusal}
use Rattle.dataset.specs.Fault.{refusal}
use Rattle.dataset.specs.declared.Row.{Row}
use Rattle.dataset.specs.Header.{header_by}
use Rattle.dataset.specs.Reading.{Run, done, refused, unfinished, depths, items_by, elements_at}
use Rattle.basics.specs.Limits.{largest}
use Rattle.dataset.specs.Answer.{flat, width}

-- A sequence, item by item.
abbrev pub items_at : ℕ → List ℕ → ℕ → Cursor → Run
items_at levels s first c = items_by (elements_at levels s) levels s first c

-- A header moves the cursor by at least 8 bytes and stays within the known end.
abbrev pub Within : Cursor → Result Head Fault → Type 0
Within c (Ok (head.Header tag vr value)) = (c.at + 8 ≤ value.at)
    × ((value.at ≤ value.end) × ((value.end ≤ c.end) × ((tag < 4294967296) × (vr < 65536))))
Within c (Ok (head.End tag vr next)) = (c.at ≤ next.at) × (next.at ≤ c.end)
Within c (Err fault) = Unit {0}

-- What a header at the cursor comes to: the header, if there is one, and otherwise the end or a refusal.
abbrev pub Begins : Cursor → Result Bool Fault → Type 0
Begins c (Ok true) = (c.at + 8 ≤ c.end) × ((header : Result Head Fault) → header_by c header ≡ header)
Begins c (Ok false) = (header : Result Head Fault) → header_by c header ≡ Ok (head.End 0 0 c)
Begins c (Err fault) = (header : Result Head Fault) → header_by c header ≡ Err fault

-- The numbers of a row fit 32 bits.
pub record IsStorable (r : Row) : Type 0 where
  pub tag : r.tag < 4294967296
  pub vr : r.vr < 4294967296
  pub depth : r.depth < 4294967296
  pub offset : r.offset < 4294967296
  pub size : r.size < 4294967296
  pub descendants : r.descendants < 4294967296
  pub parent : r.parent < 4294967296

abbrev pub walk : ℕ → ℕ → ℕ → Walk
walk stop next rows = record { stop = stop; next = next; rows = rows }

-- What a walk answers of a run. Where the run is unfinished any answer serves, since `RunWithin` says that none is.
abbrev pub told : ℕ → Run → Result Walk Refusal
told first (done stop next rows) = Ok (walk stop next (first + length rows))
told first (refused fault offset) = Err (refusal fault offset)
told first unfinished = Err (refusal CutShort 0)

-- A run that stops or is refused does so within the known end, and it has not run out of turns.
abbrev pub RunWithin : Cursor → Run → Type 0
RunWithin c (done stop next rows) = (c.at ≤ stop) × ((stop ≤ next) × ((next ≤ c.end) × (c.at + 8 * length rows ≤ next)))
RunWithin c (refused fault offset) = (c.at ≤ offset) × (offset ≤ c.end)
RunWithin c unfinished = ⊥

-- A buffer with room for the rows, numbered from `first`, holds them afterwards.
abbrev pub Wrote : ℕ → Run → List ℕ → List ℕ → Type 0
Wrote first (done stop next rows) buffer after = width * (first + length rows) ≤ length buffer
    → after ≡ sets buffer (width * first) (flat rows)
Wrote first (refused fault offset) buffer after = Unit {0}
Wrote first unfinished buffer after = Unit {0}

pub record Walked (run : Run) (c : Cursor) (first : ℕ) (buffer after : List ℕ) (answer : Result Walk Refusal) : Type 0 where
  pub is : answer ≡ told first run
  pub within : RunWithin c run
  pub wrote : Wrote first run buffer after

-- Rows written over what an abandoned walk left are as if written over what it began with.
abbrev pub Replaced : ℕ → Run → List ℕ → List ℕ → Type 0
Replaced first (done stop next rows) buffer after = width * (first + length rows) ≤ length buffer
    → sets after (width * first) (flat rows) ≡ sets buffer (width * first) (flat rows)
Replaced first (refused fault offset) buffer after = Unit {0}
Replaced first unfinished buffer after = Unit {0}

-- What a walk that may be abandoned promises.
abbrev pub LeafWalked : Run → Cursor → ℕ → List ℕ → List ℕ → Result (Option Walk) Refusal → Type 0
LeafWalked run c first buffer after (Ok (Some w)) = Walked run c first buffer after (Ok w)
LeafWalked run c first buffer after (Ok None) = Replaced first run buffer after
LeafWalked run c first buffer after (Err r) = Walked run c first buffer after (Err r)

-- What a walk needs: a cursor within the data set, and at least 8 bytes before it for each row before. The size is limited only if there
-- is room for a row, since a row holds 32-bit numbers.
pub record Ready (s : List ℕ) (c : Cursor) (levels first room : ℕ) : Type 0 where
  pub start : c.at ≤ c.end
  pub stop : c.end ≤ length s
  pub small : width ≤ room → length s ≤ largest
  pub deep : levels ≤ depths
  pub count : 8 * first ≤ c.at
