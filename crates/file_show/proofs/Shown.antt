-- A data set that was judged left its rows in the buffer; where its class is another, the answer is 18 whatever the bare call answers.
use Rattle.std.specs.Prelude.{Result, Ok, Err}
use Rattle.std.specs.Result.{MatchResult, is_ok}
use mathlib.Core.Path.{◌≡◌, refl, sym, ap, ◌∙◌}
use mathlib.Core.Bool.{Bool, true, false, cond}
use Prim.Native.Nat.{ℕ, ◌*◌, ◌≤◌, ◌<◌}
use mathlib.Core.List.{List}
use native.Mathlib.Omega.{arith}
use lib.ListN.{length, take}
use lib.Seq.{length-take-le}
use Rattle.dataset.specs.Reading.{reading_of}
use Rattle.dataset.specs.Answer.{width, buffer_of}
use Rattle.dataset.specs.declared.ReadError.{ReadError}
use lib.Dec.{leb}
use Rattle.node.specs.Nodes.{Node, nodes_of}
use Rattle.node.specs.Internal.{Table}
use Rattle.conformance.specs.declared.Outcome.{Outcome}
use Rattle.conformance.specs.declared.Outcome.TheVariants as outcome
use Rattle.conformance.specs.declared.Finding.TheVariants as finding
use Rattle.conformance.specs.Judging.{finding_of, judge_of, accepted_in}
use Rattle.conformance.proofs.After.{after-judging, after-broken}
use Rattle.display.specs.declared.ShowError.{ShowError}
use Rattle.display.specs.declared.ShowError.TheVariants as error
use Rattle.display.specs.Show.{is_frame_of, image_size, picture_of, accepted_answer, answer_for, show_of}
use Rattle.file_read.specs.declared.FileError.{FileError}
use Rattle.file_read.specs.declared.FileError.TheVariants.{OtherClass}
use Rattle.file_read.specs.ReadFile.{same_class}
use Rattle.file_show.specs.ShowFile.{show_in, show_part}
use Rattle.file_show.specs.Internal.{row_count}

rows-judged : (s before buffer : List ℕ) (o : Outcome) → Ok o ≡ judge_of s before → buffer ≡ buffer_of (reading_of s) before
    → (width * row_count o ≤ length buffer) × Table s (take (width * row_count o) buffer)
rows-judged s before buffer (outcome.Accepted n) e f = (after-judging s before buffer n e f).0
rows-judged s before buffer (outcome.Broken n rule frame) e f = after-broken s before buffer n rule frame e f

-- What is no error once the error is changed was none before.
was-ok : (o : Outcome) (r : Result Outcome ReadError) (Q : ReadError → Type 0)
    → MatchResult r (λ (x : Outcome). ◌≡◌ {A = Result Outcome (FileError ShowError)} (Ok o) (Ok x)) Q → true ≡ is_ok r → Ok o ≡ r
was-ok o (Ok x) Q m v =
    let q : o ≡ x = cc in
    ap (λ (y : Outcome). Ok y) q
was-ok o (Err e) Q m v = let z : ◌≡◌ {A = ℕ} 0 1 = cc in absurd (omega arith)

show-other : (ns : List Node) (f : ℕ) (image : List ℕ) (o : Outcome) → Err OtherClass ≡ show_in false (answer_for ns f image (accepted_in (Ok o)))
unfolding accepted_answer
show-other ns f image (outcome.Accepted n) = go (is_frame_of ns f) (leb (image_size ns) (length image))
  where
    go : (t u : Bool) → Err OtherClass
        ≡ show_in false (cond t (cond u (Ok (record { rows = n; masked = (picture_of ns f).masked })) (Err error.NoImageRoom)) (Err error.NoFrame))
    go true true = refl
    go true false = refl
    go false u = refl
show-other ns f image (outcome.Broken n rule frame) = refl

module _ (s before buffer : List ℕ) (o : Outcome) (r : Result Outcome ReadError) (Q : ReadError → Type 0)
    (told : MatchResult r (λ (x : Outcome). ◌≡◌ {A = Result Outcome (FileError ShowError)} (Ok o) (Ok x)) Q) (fine : true ≡ is_ok r)
    (answered : r ≡ judge_of s before) where
  judged : Ok o ≡ judge_of s before
  judged = was-ok o r Q told fine ∙ answered

  module _ (left : buffer ≡ buffer_of (reading_of s) before) (n : ℕ) (count : n ≡ row_count o) where
    rows-counted : (width * n ≤ length buffer) × Table s (take (width * n) buffer)
    rows-counted = rw count (rows-judged s before buffer o judged left)

    pub rows-there : width * n ≤ length buffer
    rows-there = rows-counted.0

    pub rows-are : Table s (take (width * n) buffer)
    rows-are = rows-counted.1

    pub rows-few : width * n < 18446744073709551616
    rows-few = omega (arith, rows-counted.1.size, rows-counted.1.few, length-take-le (width * n) buffer rows-counted.0)

  pub is-sound : buffer ≡ buffer_of (reading_of s) before → (n : ℕ) → o ≡ outcome.Accepted n → finding_of (nodes_of s) ≡ finding.Accepted
  is-sound left n e = (after-judging s before buffer n (ap (λ (x : Outcome). Ok x) (sym e) ∙ judged) left).1

  pub other-shown : (class image : List ℕ) (f : ℕ) → same_class class (nodes_of s) ≡ false → Err OtherClass ≡ show_part s class f before image
  unfolding show_part show_of
  other-shown class image f e = rw (e, ← judged) (show-other (nodes_of s) f image o)
