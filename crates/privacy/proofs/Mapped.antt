-- Nodes that are alike and have the same Pixel Data are mapped to the same intensities.
use Rattle.std.specs.Prelude.{Result, Ok, Err}
use mathlib.Core.Path.{◌≡◌, refl}
use Prim.Native.Nat.{ℕ}
use mathlib.Core.List.{List}
use Rattle.node.specs.Nodes.{Node}
use Rattle.conformance.specs.declared.NotAccepted.{NotAccepted}
use Rattle.linear.specs.Answer.{entries_of, accepted_answer, answer_for}
use Rattle.privacy.specs.Alike.{Alike, SamePixels}
use Rattle.privacy.proofs.Steps.{is-mapped-same, mapping-same}
use Rattle.privacy.proofs.Shown.{is-frame-same, size_same}

module _ {ns ms : List Node} (a : Alike ns ms) where
  linear-accepted-same : (f : ℕ) (values : List ℕ) (n : ℕ) → accepted_answer ns f values n ≡ accepted_answer ms f values n
  unfolding accepted_answer
  linear-accepted-same f values n = rw (is-frame-same a f, size_same a, is-mapped-same a f)

  pub linear-same : (f : ℕ) (values : List ℕ) (r : Result ℕ NotAccepted) → answer_for ns f values r ≡ answer_for ms f values r
  linear-same f values (Ok n) = linear-accepted-same f values n
  linear-same f values (Err e) = refl

  pub entries-same : SamePixels ns ms → (f : ℕ) → entries_of ns f ≡ entries_of ms f
  unfolding entries_of
  entries-same b f = rw (mapping-same a b f)
