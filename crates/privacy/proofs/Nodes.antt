-- Data sets with the same rows but for places and lengths, and the same values where they are read, have nodes that are alike.
use mathlib.Core.Path.{◌≡◌, refl, sym, ap, ◌∙◌}
use Prim.Native.Nat.{ℕ, zero, suc}
use mathlib.Core.Bool.{true}
use mathlib.Core.List.{List, [], ◌∷◌, map}
use lib.ListN.{length, length-map, get_or}
use Rattle.dataset.specs.declared.Row.{Row}
use Rattle.dataset.specs.Tree.{rows_of, row_at, no_row}
use Rattle.node.specs.Nodes.{Node, node_of, nodes_of, node_at, no_node, value_in}
use Rattle.basics.specs.Tags
use Rattle.privacy.specs.Read.{is_read}
use Rattle.privacy.specs.Alike.{Alike, SamePixels}
use Rattle.privacy.specs.Rows.{outline, SameRows}

-- What a list of rows is mapped to, row by row.
module _ {A : Type 0} (d : A) where
  map_at : (f : Row → A) → f no_row ≡ d → (rs : List Row) (i : ℕ) → get_or (map f rs) i d ≡ f (row_at rs i)
  map_at f e [] i = sym e
  map_at f e (r ∷ rs) zero = refl
  map_at f e (r ∷ rs) (suc i) = map_at f e rs i

  pub both_at : (f g : Row → A) → f no_row ≡ d → g no_row ≡ d → (rs qs : List Row) → map f rs ≡ map g qs → (i : ℕ)
      → f (row_at rs i) ≡ g (row_at qs i)
  both_at f g x y rs qs e i = sym (map_at f x rs i) ∙ ap (λ (l : List A). get_or l i d) e ∙ map_at g y qs i

node-at : (s : List ℕ) (rs : List Row) (i : ℕ) → node_at (map (node_of s) rs) i ≡ node_of s (row_at rs i)
node-at s rs i = map_at no_node (node_of s) refl rs i

module _ (s t : List ℕ) (w : SameRows s t) where
  pub outline-at : (i : ℕ) → outline (row_at w.rows i) ≡ outline (row_at w.others i)
  outline-at i = both_at no_row outline outline refl refl w.rows w.others w.same i

  pub tag_at : (i : ℕ) → (row_at w.rows i).tag ≡ (row_at w.others i).tag
  tag_at i = ap (λ (r : Row). r.tag) (outline-at i)

  pub count_same : length w.rows ≡ length w.others
  count_same = sym (length-map w.rows outline) ∙ ap length w.same ∙ length-map w.others outline

  nodes-are : nodes_of s ≡ map (node_of s) w.rows
  unfolding nodes_of rows_of
  nodes-are = rw w.reads

  others-are : nodes_of t ≡ map (node_of t) w.others
  unfolding nodes_of rows_of
  others-are = rw w.reads_other

  node-is : (i : ℕ) → node_at (nodes_of s) i ≡ node_of s (row_at w.rows i)
  node-is i = ap (λ (ns : List Node). node_at ns i) nodes-are ∙ node-at s w.rows i

  other-is : (i : ℕ) → node_at (nodes_of t) i ≡ node_of t (row_at w.others i)
  other-is i = ap (λ (ns : List Node). node_at ns i) others-are ∙ node-at t w.others i

  -- A part of a node that its row has too.
  part_same : {A : Type 0} (part : Node → A) (i : ℕ) → part (node_of s (row_at w.rows i)) ≡ part (node_of t (row_at w.others i))
      → part (node_at (nodes_of s) i) ≡ part (node_at (nodes_of t) i)
  part_same part i e = ap part (node-is i) ∙ e ∙ sym (ap part (other-is i))

  tag_is : (i : ℕ) → (row_at w.rows i).tag ≡ (node_at (nodes_of s) i).tag
  tag_is i = sym (ap (λ (n : Node). n.tag) (node-is i))

  pub alike : ((i : ℕ) → is_read (row_at w.rows i).tag ≡ true → value_in s (row_at w.rows i) ≡ value_in t (row_at w.others i))
      → ((i : ℕ) → (row_at w.rows i).tag ≡ Tags.PixelData
      → length (value_in s (row_at w.rows i)) ≡ length (value_in t (row_at w.others i)))
      → Alike (nodes_of s) (nodes_of t)
  alike value long =
      record {
        size = ap length nodes-are ∙ length-map w.rows (node_of s) ∙ count_same ∙ sym (length-map w.others (node_of t))
            ∙ sym (ap length others-are);
        tag = λ i. part_same (λ n. n.tag) i (tag_at i);
        vr = λ i. part_same (λ n. n.vr) i (ap (λ (r : Row). r.vr) (outline-at i));
        descendants = λ i. part_same (λ n. n.descendants) i (ap (λ (r : Row). r.descendants) (outline-at i));
        value = λ i q. part_same (λ n. n.value) i (value i (ap is_read (tag_is i) ∙ q));
        long = λ i q. part_same (λ n. length n.value) i (long i (tag_is i ∙ q));
      }

  pub same-pixels : ((i : ℕ) → (row_at w.rows i).tag ≡ Tags.PixelData → value_in s (row_at w.rows i) ≡ value_in t (row_at w.others i))
      → SamePixels (nodes_of s) (nodes_of t)
  same-pixels h = record { pixels = λ i q. part_same (λ n. n.value) i (h i (tag_is i ∙ q)) }
