-- Reading is the inverse of spelling: what spells a data set reads as its rows, what reads well spells a data set, no two data sets are
-- spelt alike, and bytes within the size limit that spell none are refused. With which fault and at which offset is in Places.antt.
use Rattle.std.specs.Prelude.{◌≡◌, ℕ, ◌≤◌, List, length}
use Rattle.basics.specs.Bytes.{IsBytes}
use Rattle.basics.specs.Limits.{largest}
use Rattle.dataset.specs.declared.Fault.{Fault}
use Rattle.dataset.specs.Tree.{elements}
use Rattle.dataset.specs.declared.Row.{Row}
use Rattle.dataset.specs.Reading.{refused_at, read, reading_of}
use Rattle.grammar.specs.Grammar.{Forest, spell, DataSet, tree_rows}

-- What spells a data set is bytes, and reads as its rows.
abbrev pub Bytes : Type 0
Bytes = (t : Forest elements) → DataSet t → IsBytes (spell t)

abbrev pub Sound : Type 0
Sound = (t : Forest elements) → DataSet t → reading_of (spell t) ≡ read (tree_rows t)

-- A data set that spells the bytes and has the rows.
pub record Spelt (s : List ℕ) (rows : List Row) : Type 0 where
  pub tree : Forest elements
  pub valid : DataSet tree
  pub bytes : spell tree ≡ s
  pub same : tree_rows tree ≡ rows

-- What reads well is the spelling of a data set.
abbrev pub Complete : Type 0
Complete = (s : List ℕ) → IsBytes s → (rows : List Row) → reading_of s ≡ read rows → Spelt s rows

-- No two data sets are spelt alike.
abbrev pub Unique : Type 0
Unique = (t u : Forest elements) → DataSet t → DataSet u → spell t ≡ spell u → t ≡ u

-- No data set spells the bytes.
abbrev pub Unspelt : List ℕ → Type 0
Unspelt s = (t : Forest elements) → DataSet t → spell t ≡ s → ⊥

-- Bytes within the limit are refused exactly if no data set spells them.
pub record Refusals (s : List ℕ) : Type 0 where
  pub refused : IsBytes s → length s ≤ largest → Unspelt s → (fault : Fault) × ((offset : ℕ) × (reading_of s ≡ refused_at fault offset))
  pub only : (fault : Fault) (offset : ℕ) → reading_of s ≡ refused_at fault offset → Unspelt s
