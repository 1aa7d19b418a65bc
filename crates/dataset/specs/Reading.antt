-- The reading of a data set (document 01, "Reading"): a row for each element and item in byte order, or the first
-- refusal, with its offset (the paper's place).
use Rattle.std.specs.Prelude.{ℕ, zero, suc, ◌+◌, ◌-◌, List, [], ◌∷◌, ◌++◌, false, cond, length, eqb, ltb}
use Rattle.std.specs.Prelude.{Result, Ok, Err}
use Rattle.dataset.specs.declared.Cursor.{Cursor}
use Rattle.dataset.specs.declared.Fault.{Fault}
use Rattle.dataset.specs.declared.Fault.TheVariants.{CutShort}
use Rattle.dataset.specs.declared.Head.{Head}
use Rattle.dataset.specs.declared.Head.TheVariants.{Header, End}
use Rattle.dataset.specs.declared.Row.{Row}
use Rattle.basics.specs.Limits.{largest}
use Rattle.basics.specs.Vr.{SQ}
use Rattle.dataset.specs.Header.{cursor, moved, element_at, item_at}

-- The seven numbers of an element or item; `descendants` is the paper's number of rows below it, and `parent` the row number, counted
-- from 1, of the item or sequence that directly holds it, 0 at the root.
abbrev pub row : ℕ → ℕ → ℕ → ℕ → ℕ → ℕ → ℕ → Row
row tag vr depth offset size descendants parent =
    record { tag = tag; vr = vr; depth = depth; offset = offset; size = size; descendants = descendants; parent = parent }

-- The result of a run of headers: where its value stops (before a delimiter), the offset reached (after it), and its rows; or a refusal
-- and its offset; or a level that ran out of turns, which no reading comes to: `RunWithin` says so of each walk.
pub data Run : Type 0 where
  done : ℕ → ℕ → List Row → Run
  refused : Fault → ℕ → Run
  unfinished : Run

abbrev pub on_head : Result Head Fault → (Fault → Run) → (ℕ → Run) → (ℕ → ℕ → Cursor → Run) → Run
on_head (Err fault) refuse stop go = refuse fault
on_head (Ok (End tag vr next)) refuse stop go = stop next.at
on_head (Ok (Header tag vr value)) refuse stop go = go tag vr value

abbrev pub on_run : Run → (ℕ → ℕ → List Row → Run) → Run
on_run (refused fault offset) go = refused fault offset
on_run unfinished go = unfinished
on_run (done stop next rows) go = go stop next rows

-- One level, header by header: `head` says what is at an offset, `inside` the result for a value whose rows are numbered from a given
-- number on. A row's length is where its value stops minus where it starts, and its descendants are the rows of its value. Rows are
-- numbered from 0 in byte order, and `first` is the number of the level's first row. That row comes right after the row that holds the
-- level, so `first` is also the holder's number counted from 1, and 0 at the root. Each turn moves on by a header, so a level has fewer
-- turns than bytes, and none runs out of them: it would be `unfinished` then, and no reading is.
unfoldable pub level : (ℕ → ℕ → Result Head Fault) → (ℕ → ℕ → Cursor → Run) → ℕ → ℕ → ℕ → ℕ → ℕ → List Row → Run
level head inside depth first zero at least rows = unfinished
level head inside depth first (suc turns) at least rows =
    on_head (head at least)
    (λ fault. refused fault at)
    (λ next. done at next rows)
    (λ tag vr value. on_run (inside (first + length rows + 1) vr value) (λ stop next below.
    level head inside depth first turns next (tag + 1)
    (rows ++ (row tag vr depth value.at (stop - value.at) (length below) first ∷ below))))

-- Depths go up to 8: `levels` is how many more are permitted; the depth is 8 minus that.
abbrev pub depths : ℕ
depths = 8

-- The turns that a level is given: one more than there are bytes, which is more than it takes.
abbrev pub turns_for : List ℕ → ℕ
turns_for s = length s + 1

-- An item, element by element.
abbrev pub elements_by : (ℕ → ℕ → Cursor → Run) → ℕ → List ℕ → ℕ → Cursor → Run
elements_by inside levels s first c =
    level (λ at least. element_at s (moved c at) least levels) inside (depths - levels) first (turns_for s) c.at 0 []

-- A sequence, item by item.
abbrev pub items_by : (ℕ → Cursor → Run) → ℕ → List ℕ → ℕ → Cursor → Run
items_by elements levels s first c =
    level (λ at least. item_at s (moved c at)) (λ n vr value. elements n value) (depths - levels) first (turns_for s) c.at 0 []

-- An element's value: the items of a sequence, one level deeper; any other value has no rows, and ends at its end.
unfoldable pub value_run : ℕ → List ℕ → ℕ → ℕ → Cursor → Run
value_run zero s first vr value = done value.end value.end []
value_run (suc levels) s first vr value =
    cond (eqb vr SQ)
    (items_by (λ n c. elements_by (value_run levels s) levels s n c) levels s first value)
    (done value.end value.end [])

abbrev pub elements_at : ℕ → List ℕ → ℕ → Cursor → Run
elements_at levels s first c = elements_by (value_run levels s) levels s first c

-- ---- The whole data set

-- Too large, refused, or read.
pub data Reading : Type 0 where
  too_large : Reading
  refused_at : Fault → ℕ → Reading
  read : List Row → Reading

-- The run of a whole data set is never `unfinished` (`finished` in proofs/Tree.antt), so that any value serves there.
abbrev pub whole : Run → Reading
whole (refused fault offset) = refused_at fault offset
whole unfinished = refused_at CutShort 0
whole (done stop next rows) = read rows

unfoldable pub reading_of : List ℕ → Reading
reading_of s = cond (ltb largest (length s)) too_large (whole (elements_at depths s 0 (cursor 0 (length s) false)))
