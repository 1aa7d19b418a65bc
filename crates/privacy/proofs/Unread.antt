-- The same values where they are read, and Pixel Data of the same length, make nodes that are alike, and those are judged the same.
use mathlib.Core.Path.{◌≡◌, refl, sym, ap, ◌∙◌}
use Prim.Native.Nat.{ℕ}
use mathlib.Core.Bool.{Bool, true, cond}
use mathlib.Core.List.{List, []}
use lib.ListN.{length}
use borrow.Author.Tests.{eq-eqb}
use Rattle.dataset.specs.Tree.{row_at}
use Rattle.node.specs.Nodes.{value_in}
use Rattle.basics.specs.Tags
use Rattle.privacy.specs.Read.{is_read}
use Rattle.privacy.specs.Unread.{read_value, pixel_length, SameWhereRead, Unread}
use Rattle.privacy.proofs.Nodes.{both_at, tag_at, alike}
use Rattle.privacy.proofs.Answers.{judge-same}

module _ (s t : List ℕ) (p : SameWhereRead s t) where
  read_at : (i : ℕ) → read_value s (row_at p.shape.rows i) ≡ read_value t (row_at p.shape.others i)
  unfolding is_read
  read_at i = both_at [] (read_value s) (read_value t) refl refl p.shape.rows p.shape.others p.values i

  length_at : (i : ℕ) → pixel_length s (row_at p.shape.rows i) ≡ pixel_length t (row_at p.shape.others i)
  length_at i = both_at 0 (pixel_length s) (pixel_length t) refl refl p.shape.rows p.shape.others p.pixels i

  value_same : (i : ℕ) → is_read (row_at p.shape.rows i).tag ≡ true
      → value_in s (row_at p.shape.rows i) ≡ value_in t (row_at p.shape.others i)
  value_same i e =
      sym (ap (λ (b : Bool). cond b (value_in s (row_at p.shape.rows i)) []) e)
      ∙ read_at i
      ∙ ap (λ (b : Bool). cond b (value_in t (row_at p.shape.others i)) []) (ap is_read (sym (tag_at s t p.shape i)) ∙ e)

  length-same : (i : ℕ) → (row_at p.shape.rows i).tag ≡ Tags.PixelData
      → length (value_in s (row_at p.shape.rows i)) ≡ length (value_in t (row_at p.shape.others i))
  length-same i e =
      sym (ap (λ (b : Bool). cond b (length (value_in s (row_at p.shape.rows i))) 0) (eq-eqb _ _ e))
      ∙ length_at i
      ∙ ap (λ (b : Bool). cond b (length (value_in t (row_at p.shape.others i))) 0) (eq-eqb _ _ (sym (tag_at s t p.shape i) ∙ e))

pub unread : Unread
unread s t p buffer = judge-same s t p.shape (alike s t p.shape (value_same s t p) (length-same s t p)) buffer
