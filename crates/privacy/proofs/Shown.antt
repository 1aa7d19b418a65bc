-- Nodes that are alike and have the same Pixel Data are drawn the same, since every step reads nodes alone.
use Rattle.std.specs.Prelude.{Result, Ok, Err}
use mathlib.Core.Path.{◌≡◌, refl}
use Prim.Native.Nat.{ℕ}
use mathlib.Core.List.{List}
use Rattle.node.specs.Nodes.{Node}
use Rattle.basics.specs.Tags
use Rattle.conformance.specs.declared.NotAccepted.{NotAccepted}
use Rattle.display.specs.Show.{is_frame_of, image_size, picture_of, accepted_answer, answer_for}
use Rattle.privacy.specs.Read.{is_read}
use Rattle.privacy.specs.Alike.{Alike, SamePixels}
use Rattle.privacy.proofs.Words.{us-root, frames-same}
use Rattle.privacy.proofs.Steps.{steps-same}

module _ {ns ms : List Node} (a : Alike ns ms) where
  pub is-frame-same : (f : ℕ) → is_frame_of ns f ≡ is_frame_of ms f
  is-frame-same f = rw (frames-same a)

  pub size_same : image_size ns ≡ image_size ms
  unfolding is_read
  size_same = rw (us-root a Tags.Rows refl, us-root a Tags.Columns refl)

  module _ (b : SamePixels ns ms) where
    pub picture-same : (f : ℕ) → picture_of ns f ≡ picture_of ms f
    unfolding picture_of
    picture-same f = rw (steps-same a b f)

    show-accepted-same : (f : ℕ) (image : List ℕ) (n : ℕ) → accepted_answer ns f image n ≡ accepted_answer ms f image n
    unfolding accepted_answer
    show-accepted-same f image n = rw (is-frame-same f, size_same, picture-same f)

    pub shown-same : (f : ℕ) (image : List ℕ) (r : Result ℕ NotAccepted) → answer_for ns f image r ≡ answer_for ms f image r
    shown-same f image (Ok n) = show-accepted-same f image n
    shown-same f image (Err e) = refl
