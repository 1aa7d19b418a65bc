-- What `write_canonical` answers and what its target then holds (document 02, Q-10): as for reading up to code 8, then 21 if the target
-- is shorter than the canonical form, then 0; and the paper's numbers for each case of the answer.
use Rattle.std.specs.Prelude.{ℕ, cond, List, ◌++◌, length, drop, leb, Result, Ok, Err}
use Rattle.dataset.specs.Reading.{reading_of}
use Rattle.basics.specs.Fields.{Fields, code_alone, counted}
use Rattle.dataset.specs.Answer as reading
use Rattle.dataset.specs.declared.ReadError.{ReadError}
use Rattle.node.specs.Nodes.{nodes_of}
use Rattle.canonical.specs.Written.{written_of}
use Rattle.canonical.specs.declared.Written.{Written}
use Rattle.canonical.specs.declared.CanonicalError.{CanonicalError}
use Rattle.canonical.specs.declared.CanonicalError.TheVariants.{Unread, NoTargetRoom}

abbrev pub written : ℕ → ℕ → Written
written rows bytes = record { rows = rows; bytes = bytes }

-- From what is to be written, the target, and what reading answers.
abbrev pub answer_for : List ℕ → List ℕ → Result ℕ ReadError → Result Written CanonicalError
answer_for w target (Ok n) = cond (leb (length w) (length target)) (Ok (written n (length w))) (Err (NoTargetRoom (length w)))
answer_for w target (Err e) = Err (Unread e)

-- The answer for a data set, with the row buffer and the target as they are lent.
unfoldable pub canonical_of : List ℕ → List ℕ → List ℕ → Result Written CanonicalError
canonical_of s rows target = answer_for (written_of (nodes_of s)) target (reading.answer_of (reading_of s) rows)

-- The target afterwards: what is written, and untouched beyond it; untouched by a refusal.
abbrev pub target_by : List ℕ → List ℕ → Result Written CanonicalError → List ℕ
target_by w target (Ok a) = w ++ drop (length w) target
target_by w target (Err e) = target

unfoldable pub target_of : List ℕ → List ℕ → List ℕ → List ℕ
target_of s rows target = target_by (written_of (nodes_of s)) target (canonical_of s rows target)

-- The paper's numbers for each case: those of an answer, and the length of the canonical form.
pub record Rewritten : Type 0 where
  pub answer : Fields
  pub size : ℕ

abbrev pub fields_of : Result Written CanonicalError → Rewritten
fields_of (Ok a) = record { answer = counted a.rows; size = a.bytes }
fields_of (Err (NoTargetRoom size)) = record { answer = code_alone 21; size = size }
fields_of (Err (Unread e)) = record { answer = reading.fields_of (Err e); size = 0 }
