-- One way to write it (document 02, Q-10).
--
-- Take a data set that reads well, and its canonical form: written with defined lengths throughout and no delimiters, as
-- crates/canonical/specs/Written.antt defines it. Reading the canonical form gives equally many rows, with the same tags, VRs, depths,
-- rows below and, SQ aside, element values in the same order, and the same seventh numbers. It is never longer than the data set, and its
-- own canonical form is itself. With the same buffers and frame number, the judge answers the same for both, code 8 included, and reports
-- the same sum of its searches, `show` gives the same answer and picture, `sheet` the same answer and numbers, and `compare` the same
-- answer.
--
-- Two data sets that agree in tags, VRs, depths, rows below and element values have the same canonical form. Conversely, two that read
-- well and have the same canonical form agree in them, and are judged and drawn alike: so duplicates are found by their canonical bytes.
--
-- The call refuses with 7, 1 to 6 and 8 as reading does. Once the rows are read it answers 21 exactly when the target is shorter than the
-- canonical form, otherwise 0; both name that length. A refusal leaves the target as it was; code 0 writes the canonical form and nothing
-- beyond it.
--
-- Proved in proofs/Canonical. The contracts of `write_canonical` and `xa_canonical` say that the code computes these answers.
use Rattle.std.specs.Prelude.{◌≡◌, ℕ, ◌≤◌, ◌<◌, List, ◌++◌, length, take, drop, Ok, Err}
use Rattle.basics.specs.Bytes.{IsBytes}
use Rattle.basics.specs.Vr.{SQ}
use Rattle.dataset.specs.declared.Row.{Row}
use Rattle.dataset.specs.Reading.{read, reading_of}
use Rattle.dataset.specs.Answer as reading
use Rattle.dataset.specs.Tree.{rows_of, row_at}
use Rattle.node.specs.Nodes.{nodes_of}
use Rattle.canonical.specs.Written.{written_of}
use Rattle.canonical.specs.Answer.{written, canonical_of, target_of, fields_of}
use Rattle.canonical.specs.declared.CanonicalError.TheVariants.{NoTargetRoom}
use Rattle.canonical_same.specs.Answers.{AnswersAlike}

-- The canonical form of a data set.
abbrev pub canonical_form : List ℕ → List ℕ
canonical_form s = written_of (nodes_of s)

-- A list of bytes that reads well.
pub record ReadsWell (s : List ℕ) : Type 0 where
  pub bytes : IsBytes s
  pub rows : List Row
  pub reads : reading_of s ≡ read rows

-- Row i, and the bytes of its value.
abbrev pub row_in : List ℕ → ℕ → Row
row_in s i = row_at (rows_of s) i

abbrev pub value_bytes : List ℕ → ℕ → List ℕ
value_bytes s i = take (row_in s i).size (drop (row_in s i).offset s)

-- Row i has the same tag, VR, depth and rows below in both, and the same value if it is an element that is not SQ. An item's VR is 0.
pub record AgreeAt (s t : List ℕ) (i : ℕ) : Type 0 where
  pub tag : (row_in s i).tag ≡ (row_in t i).tag
  pub vr : (row_in s i).vr ≡ (row_in t i).vr
  pub depth : (row_in s i).depth ≡ (row_in t i).depth
  pub below : (row_in s i).descendants ≡ (row_in t i).descendants
  pub value : ((row_in s i).vr ≡ SQ → ⊥) → ((row_in s i).vr ≡ 0 → ⊥) → value_bytes s i ≡ value_bytes t i

-- Equally many rows, which agree one by one.
pub record Agree (s t : List ℕ) : Type 0 where
  pub count : length (rows_of s) ≡ length (rows_of t)
  pub each : (i : ℕ) → i < length (rows_of s) → AgreeAt s t i

-- A data set s, and its canonical form w.
pub record Written (s w : List ℕ) : Type 0 where
  pub reads : ReadsWell w
  pub agrees : Agree s w
  pub parents : (i : ℕ) → i < length (rows_of s) → (row_in s i).parent ≡ (row_in w i).parent
  pub no_longer : length w ≤ length s
  pub again : canonical_form w ≡ w
  pub alike : AnswersAlike s w

-- What the call answers for a data set whose canonical form is w, and the target afterwards.
pub record Answered (s w rows target : List ℕ) : Type 0 where
  pub refused : ((reading.fields_of (reading.answer_of (reading_of s) rows)).code ≡ 0 → ⊥)
      → ((fields_of (canonical_of s rows target)).answer ≡ reading.fields_of (reading.answer_of (reading_of s) rows))
      × (target_of s rows target ≡ target)
  pub short : (n : ℕ) → reading.answer_of (reading_of s) rows ≡ Ok n → length target < length w
      → (canonical_of s rows target ≡ Err (NoTargetRoom (length w))) × (target_of s rows target ≡ target)
  pub done : (n : ℕ) → reading.answer_of (reading_of s) rows ≡ Ok n → length w ≤ length target
      → (canonical_of s rows target ≡ Ok (written n (length w))) × (target_of s rows target ≡ w ++ drop (length w) target)
  pub only-short : (fields_of (canonical_of s rows target)).answer.code ≡ 21 → length target < length w

pub record Canonical : Type 0 where
  pub written : (s : List ℕ) → ReadsWell s → Written s (canonical_form s)
  pub same : (s t : List ℕ) → Agree s t → canonical_form s ≡ canonical_form t
  pub duplicates : (s t : List ℕ) → ReadsWell s → ReadsWell t → canonical_form s ≡ canonical_form t → Agree s t × AnswersAlike s t
  pub answered : (s rows target : List ℕ) → Answered s (canonical_form s) rows target
