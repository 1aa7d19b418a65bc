-- Judging a file reports the sum of the data set inside, where it accepts it.
use Rattle.std.specs.Prelude.{Result, Ok, Err}
use mathlib.Core.Path.{◌≡◌, refl, sym, ap, ◌∙◌, subst}
use Prim.Native.Nat.{ℕ, ◌*◌, ◌≤◌, ◌<◌}
use native.Mathlib.Omega.{arith}
use mathlib.Core.Bool.{Bool, true, false}
use mathlib.Core.List.{List}
use lib.ListN.{length, take}
use lib.Seq.{length-take-le}
use Rattle.dataset.specs.Reading.{reading_of}
use Rattle.dataset.specs.Answer.{width, buffer_of}
use Rattle.dataset.specs.declared.ReadError.{ReadError}
use Rattle.node.specs.Nodes.{nodes_of}
use Rattle.node.specs.Internal.{Table}
use Rattle.conformance.specs.declared.Outcome.{Outcome}
use Rattle.conformance.specs.declared.Outcome.TheVariants as outcome
use Rattle.conformance.specs.Judging.{judge_of}
use Rattle.conformance.proofs.After.{after-judging, after-broken}
use Rattle.searches.specs.Searches.{searches_of}
use Rattle.searches.specs.Internal.{RowsLeft}
use Rattle.searches.proofs.After.{rows_left_lem}
use Rattle.file_read.specs.declared.FileError.{FileError}
use Rattle.file_read.specs.ReadFile.{same_class, in_class}
use Rattle.file_judge.specs.declared.CountedFile.{CountedFile}
use Rattle.file_judge.specs.JudgeFile.{judge_part}
use Rattle.file_judge.specs.Searches.{searches_in}
use Rattle.file_judge.specs.Internal.{counted_part, row_count, LeftIn}

-- ---- The rows in the buffer, where a data set was judged

rows-judged : (s before buffer : List ℕ) (o : Outcome) → Ok o ≡ judge_of s before → buffer ≡ buffer_of (reading_of s) before
    → (width * row_count o ≤ length buffer) × Table s (take (width * row_count o) buffer)
rows-judged s before buffer (outcome.Accepted n) e f = (after-judging s before buffer n e f).0
rows-judged s before buffer (outcome.Broken n rule frame) e f = after-broken s before buffer n rule frame e f

module _ (s before buffer : List ℕ) (o : Outcome) (judged : Ok o ≡ judge_of s before) (left : buffer ≡ buffer_of (reading_of s) before)
    (n : ℕ) (count : n ≡ row_count o) where
  rows-counted : (width * n ≤ length buffer) × Table s (take (width * n) buffer)
  rows-counted = rw count (rows-judged s before buffer o judged left)

  pub rows-there : width * n ≤ length buffer
  rows-there = rows-counted.0

  pub rows-are : Table s (take (width * n) buffer)
  rows-are = rows-counted.1

  pub rows-few : width * n < 18446744073709551616
  rows-few = omega (arith, rows-counted.1.size, rows-counted.1.few, length-take-le (width * n) buffer rows-counted.0)

-- ---- The sum

left-with : (s rows : List ℕ) (same : Bool) (j : Result Outcome ReadError) → RowsLeft s rows j → LeftIn s rows (in_class same j)
left-with s rows true (Ok o) l = l
left-with s rows false (Ok o) l = tt
left-with s rows same (Err e) l = tt

pub left_in : (s class before buffer : List ℕ) (a : Result Outcome (FileError ReadError)) → a ≡ judge_part s class before
    → buffer ≡ buffer_of (reading_of s) before → LeftIn s buffer a
unfolding judge_part
left_in s class before buffer a e f =
    subst (λ (x : Result Outcome (FileError ReadError)). LeftIn s buffer x) (sym e)
    (left-with s buffer (same_class class (nodes_of s)) (judge_of s before) (rows_left_lem s before buffer (judge_of s before) refl f))

pub counted-part : (s class buffer : List ℕ) (a : Result Outcome (FileError ReadError)) (n : ℕ) → a ≡ judge_part s class buffer
    → n ≡ searches_in (searches_of (nodes_of s)) a
    → ◌≡◌ {A = CountedFile} (record { answer = a; searches = n }) (counted_part s class buffer)
counted-part s class buffer a n e f = rw (f, e)
