-- What an answer says once it is taken apart, and the steps' walks one member or one pair at a time.
use Rattle.std.specs.Prelude.{Option, Some, None}
use mathlib.Core.Path.{◌≡◌, refl, sym, ap, ◌∙◌, subst}
use Prim.Native.Nat.{ℕ, ◌+◌, ◌*◌, ◌/◌, ◌≤◌, ◌<◌}
use native.Mathlib.Omega.{arith}
use mathlib.Core.List.{List, [], ◌∷◌}
use mathlib.Core.Bool.{Bool, true, false, cond, ◌&&◌}
use lib.ListN.{length, get_or, drop}
use lib.Dec.{eqb, leb}
use borrow.Author.Tests.{eq-eqb, ne_eqb, le-leb, lt-leb}
use Rattle.value.specs.Number.{us_values}
use Rattle.value.proofs.Laws.{us_values-length, values-end, pair-at}
use Rattle.basics.specs.Vr.{SQ}
use Rattle.node.specs.Nodes.{Node, node_at, root, inside}
use Rattle.node.specs.Find.{find, of_vr, and_then}
use Rattle.window.specs.declared.Window.{Window}
use Rattle.pixel.specs.declared.Geometry.{Geometry}
use Rattle.pixel.specs.Pixel.{is_frame}
use Rattle.basics.specs.Tags
use Rattle.element.specs.Elements.{inside_of, items_in}
use Rattle.element.specs.Frames.{id_in, mask_items}
use Rattle.steps.specs.Given.{check, then}
use Rattle.steps.specs.Steps.{is_in_pairs, range_holds, first_holding, on_mask, applying_to, naming}
use Rattle.steps.specs.Steps.{Mask, geometry_of, pixels_of, window_for, inverse_of, mask_for, picture_by, steps_of}
use Rattle.steps.specs.Internal.{if_read, FoundBelow, GivesItem}

-- ---- Answers

-- What is said of an answer that is v.
pub said : {A B : Type 0} (f : A → B) {r v : A} {o : B} → r ≡ v → f r ≡ o → o ≡ f v
said f e h = sym h ∙ ap f e

-- The same of the answer itself.
pub told : {A : Type 0} {r v o : A} → r ≡ v → r ≡ o → o ≡ v
told e h = sym h ∙ e

pub found_within : (n : ℕ) {r : Option (Option ℕ)} {k : ℕ} → r ≡ Some (Some k) → FoundBelow n r → k < n
found_within n e w = subst (λ (x : Option (Option ℕ)). FoundBelow n x) e w

-- ---- Values of a US, in pairs

module _ (f : ℕ) (v : List ℕ) (k : ℕ) where
  pub pairs_end : 2 * k ≡ length v / 2 → is_in_pairs f (drop (2 * k) (us_values v)) ≡ false
  unfolding is_in_pairs
  pairs_end e = rw (values-end v (2 * k) e)

  module _ (a b : ℕ) (ea : a ≡ get_or (us_values v) (2 * k) 0) (eb : b ≡ get_or (us_values v) (2 * k + 1) 0) (h : 2 * k + 1 < length v / 2) where
    pub pairs-here : (leb a f && leb f b) ≡ true → is_in_pairs f (drop (2 * k) (us_values v)) ≡ true
    unfolding is_in_pairs
    pairs-here q = rw (pair-at v k a b ea eb h, q)

    pub pairs_next : (leb a f && leb f b) ≡ false → is_in_pairs f (drop (2 * k) (us_values v)) ≡ is_in_pairs f (drop (2 * (k + 1)) (us_values v))
    unfolding is_in_pairs
    pairs_next q = rw (pair-at v k a b ea eb h, q)

pub values-some : (v : List ℕ) → 2 ≤ length v → leb 1 (length (us_values v)) ≡ true
values-some v h = le-leb 1 (length (us_values v)) (omega (arith, us_values-length v))

pub values-none : (v : List ℕ) → length v < 2 → leb 1 (length (us_values v)) ≡ false
values-none v h = lt-leb 1 (length (us_values v)) (omega (arith, us_values-length v))

-- ---- Walks

module _ (ns : List Node) (f : ℕ) (is : List ℕ) where
  pub holding-end : is ≡ [] → first_holding ns f is ≡ Some None
  unfolding first_holding
  holding-end h = rw h

  module _ (item : ℕ) (rest : List ℕ) (h : is ≡ item ∷ rest) where
    pub holding-lacks : range_holds ns f item ≡ None → first_holding ns f is ≡ None
    unfolding first_holding
    holding-lacks q = rw (h, q)

    pub holding-here : range_holds ns f item ≡ Some true → first_holding ns f is ≡ Some (Some item)
    unfolding first_holding
    holding-here q = rw (h, q)

    pub holding-next : range_holds ns f item ≡ Some false → first_holding ns f is ≡ first_holding ns f rest
    unfolding first_holding
    holding-next q = rw (h, q)

-- Where step 2 lacks nothing, it is the search among the mask items.
module _ (ns : List Node) (f : ℕ) where
  by-vr : (m : ℕ) (t : Bool) → (check t (first_holding ns f (inside ns m)) ≡ None → ⊥)
      → check t (first_holding ns f (inside ns m)) ≡ first_holding ns f (inside_of ns (cond t (Some m) None))
  by-vr m true h = refl
  by-vr m false h = absurd (h refl)

  on-items : (o : Option ℕ) → (on_mask ns f o ≡ None → ⊥) → on_mask ns f o ≡ first_holding ns f (inside_of ns (and_then o (of_vr ns SQ)))
  unfolding first_holding of_vr
  on-items None h = refl
  on-items (Some m) h = by-vr m (eqb (node_at ns m).vr SQ) h

  pub among-items : GivesItem ns f → applying_to ns f ≡ first_holding ns f (mask_items ns)
  unfolding applying_to mask_items items_in
  among-items g = on-items (find ns Tags.MaskSubtractionSequence (root ns)) g

-- So what the search found is the item that applies.
pub found-given : (ns : List Node) (f : ℕ) → GivesItem ns f → (r : Option ℕ) → if_read ns f r ≡ first_holding ns f (mask_items ns)
    → applying_to ns f ≡ Some r
found-given ns f g None e = among-items ns f g ∙ sym e
found-given ns f g (Some j) e = go (range_holds ns f j) (among-items ns f g ∙ sym e)
  where
    go : (h : Option Bool) → applying_to ns f ≡ then h (λ _. Some (Some j)) → applying_to ns f ≡ Some (Some j)
    go (Some b) q = q
    go None q = absurd (g q)

module _ (ns : List Node) (id : ℕ) (is : List ℕ) where
  pub naming-end : is ≡ [] → naming ns id is ≡ Some None
  unfolding naming
  naming-end h = rw h

  module _ (item : ℕ) (rest : List ℕ) (h : is ≡ item ∷ rest) where
    pub naming-lacks : id_in ns item ≡ None → naming ns id is ≡ None
    unfolding naming
    naming-lacks q = rw (h, q)

    module _ (x : ℕ) (q : id_in ns item ≡ Some x) where
      pub naming-here : x ≡ id → naming ns id is ≡ Some (Some item)
      unfolding naming
      naming-here s = rw (h, q, eq-eqb x id s)

      pub naming-next : (x ≡ id → ⊥) → naming ns id is ≡ naming ns id rest
      unfolding naming
      naming-next s = rw (h, q, ne_eqb x id s)

-- The picture, once each step gave its part.
pub to-picture : (ns : List Node) (f : ℕ) (g : Geometry) (v : List ℕ) (w : Window) (inverse : Bool) → geometry_of ns ≡ Some g
    → pixels_of ns ≡ Some v → is_frame g v f ≡ true → window_for ns f g.stored ≡ Some w → inverse_of ns ≡ Some inverse
    → (m : Mask) → mask_for ns f ≡ Some m → steps_of ns f ≡ picture_by g v f w inverse m
unfolding steps_of
to-picture ns f g v w inverse is-g is-v frame is-w is-i m e = rw (is-g, is-v, frame, e, is-w, is-i)
