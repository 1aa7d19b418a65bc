-- A call that judges first goes by what the judge answered, so its own answer and what it leaves are those of that answer.
use Rattle.std.specs.Prelude.{Result, Ok}
use mathlib.Core.Path.{◌≡◌, sym, ap, ◌∙◌}
use mathlib.Core.List.{List}
use Prim.Native.Nat.{ℕ, ◌*◌, ◌≤◌, ◌<◌}
use native.Mathlib.Omega.{arith}
use lib.ListN.{length, take}
use lib.Seq.{length-take-le}
use Rattle.dataset.specs.Reading.{reading_of}
use Rattle.dataset.specs.Answer.{width, buffer_of}
use Rattle.node.specs.Nodes.{nodes_of}
use Rattle.node.specs.Internal.{Table}
use Rattle.conformance.specs.declared.Finding.TheVariants as finding
use Rattle.conformance.specs.declared.NotAccepted.{NotAccepted}
use Rattle.conformance.specs.Judging.{accept_of, finding_of}
pub use Rattle.conformance.proofs.After.{after-accepting}
use Rattle.basics.specs.Fields.{Answers}
use Rattle.basics.proofs.Promised.{promised}
use Rattle.display.specs.Show.{picture_of, answer_for as shown_for, image_by, show_of, image_of, fields_of}

-- A call that judges first answers and leaves what the judge's answer says. The answer `told` is the judge's, taken apart; r is what the
-- call then answered, and `end` what it left.
pub judged-by : {A F : Type 0} (fields_of : A → F) (answer : Result ℕ NotAccepted → A) (left : A → List ℕ) (told : Result ℕ NotAccepted) {r : A}
    {end : List ℕ} → r ≡ answer told → end ≡ left r → {a x : Result ℕ NotAccepted} → a ≡ told → a ≡ x → {rows after : List ℕ} → rows ≡ after
    → Answers fields_of r (answer x) × ((rows ≡ after) × (end ≡ left (answer x)))
judged-by fields_of answer left told e l p q w =
    let same = e ∙ ap answer (sym p ∙ q) in
    (promised same, (w, l ∙ ap left same))

-- What `show` answers and leaves in the image buffer, by what the judge answered.
module _ (s : List ℕ) (f : ℕ) (before image : List ℕ) (a : Result ℕ NotAccepted) (e : a ≡ accept_of s before) where
  pub shown_by : shown_for (nodes_of s) f image a ≡ show_of s f before image
  unfolding show_of
  shown_by = ap (shown_for (nodes_of s) f image) e

  pub image-by : image_by (picture_of (nodes_of s) f) image (shown_for (nodes_of s) f image a) ≡ image_of s f before image
  unfolding image_of
  image-by = ap (image_by (picture_of (nodes_of s) f) image) shown_by

-- What stands in the buffer of rows, where the data set is accepted: no more rows than there can be, all of the data set's.
module _ (s before buffer : List ℕ) (n : ℕ) {a : Result ℕ NotAccepted} (answered : a ≡ accept_of s before) (accepted : a ≡ Ok n)
    (left : buffer ≡ buffer_of (reading_of s) before) where
  after : ((width * n ≤ length buffer) × Table s (take (width * n) buffer)) × (finding_of (nodes_of s) ≡ finding.Accepted)
  after = after-accepting s before buffer n (sym accepted ∙ answered) left

  pub rows-there : width * n ≤ length buffer
  rows-there = after.0.0

  pub rows-are : Table s (take (width * n) buffer)
  rows-are = after.0.1

  pub rows-few : width * n < 18446744073709551616
  rows-few = omega (arith, after.0.1.size, after.0.1.few, length-take-le (width * n) buffer after.0.0)

  pub rows-length : length (take (width * n) buffer) ≡ width * n
  rows-length = length-take-le (width * n) buffer after.0.0

  pub is-sound : finding_of (nodes_of s) ≡ finding.Accepted
  is-sound = after.1

pub ruleset judging = (rows-there, rows-are, rows-few, rows-length, is-sound, promised)
