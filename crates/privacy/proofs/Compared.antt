-- Comparing looks at the picture, its size and the frame numbers, which are the same.
use Rattle.std.specs.Prelude.{Result, Ok, Err}
use mathlib.Core.Path.{◌≡◌, refl}
use Prim.Native.Nat.{ℕ}
use mathlib.Core.List.{List}
use Rattle.node.specs.Nodes.{Node}
use Rattle.conformance.specs.declared.NotAccepted.{NotAccepted}
use Rattle.compare.specs.Answer.{accepted_answer, answer_for}
use Rattle.privacy.specs.Alike.{Alike, SamePixels}
use Rattle.privacy.proofs.Shown.{is-frame-same, size_same, picture-same}

module _ {ns ms : List Node} (a : Alike ns ms) (b : SamePixels ns ms) where
  compare-accepted-same : (f : ℕ) (cells : List ℕ) (t n : ℕ) → accepted_answer ns f cells t n ≡ accepted_answer ms f cells t n
  unfolding accepted_answer
  compare-accepted-same f cells t n = rw (is-frame-same a f, size_same a, picture-same a b f)

  pub compared_same : (f : ℕ) (cells : List ℕ) (t : ℕ) (r : Result ℕ NotAccepted) → answer_for ns f cells t r ≡ answer_for ms f cells t r
  compared_same f cells t (Ok n) = compare-accepted-same f cells t n
  compared_same f cells t (Err e) = refl
