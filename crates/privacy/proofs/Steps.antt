-- The drawing steps and the mapping give the same of lists of nodes that are alike and have the same Pixel Data.
use Rattle.std.specs.Prelude.{Option, Some, None}
use mathlib.Core.Path.{◌≡◌, refl, ap}
use Prim.Native.Nat.{ℕ}
use mathlib.Core.Bool.{cond, ◌&&◌}
use mathlib.Core.List.{List, [], ◌∷◌}
use lib.ListN.{length}
use lib.Dec.{eqb, leb}
use Rattle.basics.specs.Vr.{SQ, CS, DS, FL, OW, US}
use Rattle.value.specs.Text.{ascii}
use Rattle.node.specs.Nodes.{Node, node_at, root, inside}
use Rattle.node.specs.Find.{find, find_vr}
use Rattle.basics.specs.Tags
use Rattle.element.specs.Elements.{the_item}
use Rattle.element.specs.Frames.{shared_item, frame_item, id_in, operation_is}
use Rattle.pixel.specs.Pixel.{is_frame}
use Rattle.steps.specs.Given.{need, check, then}
use Rattle.steps.specs.Steps.{Mask, native, masked, geometry_of, pixels_of, or_shared, group_for, range_has, range_holds, first_holding, on_mask}
use Rattle.steps.specs.Steps.{applying_to, average_frames, offset_at, offset_of, tid_frame, naming, own_in, item_shift_at, shift_from, shift_for}
use Rattle.steps.specs.Steps.{moves_for, on_tid, mask_by, mask_on, mask_for, window_in, window_on, window_for, inverse_of, steps_of}
use Rattle.linear.specs.Mapping.{linear_on, linear_for, mapping_by, mapping_of, has_linear_item}
use Rattle.privacy.specs.Read.{is_read}
use Rattle.privacy.specs.Alike.{Alike, SamePixels}
use Rattle.privacy.proofs.Words.{inside-same, find-same, find-root, find-tag, vr-same, vr-root, value_same, value-vr-same, us-root}
use Rattle.privacy.proofs.Words.{the_same, frames-same, shared_same, item-same, operation-same, id_same, function-same}
use Rattle.privacy.proofs.Frames.{among_same}

module _ {A : Type 0} where
  need-same : (o : Option ℕ) (p q : ℕ → Option A) → ((i : ℕ) → o ≡ Some i → p i ≡ q i) → need o p ≡ need o q
  need-same None p q h = refl
  need-same (Some i) p q h = h i refl

  module _ {B : Type 0} where
    then_same : (o : Option B) (p q : B → Option A) → ((b : B) → p b ≡ q b) → then o p ≡ then o q
    then_same None p q h = refl
    then_same (Some b) p q h = h b

module _ {ns ms : List Node} (a : Alike ns ms) where
  -- ---- What the steps read

  geometry-same : geometry_of ns ≡ geometry_of ms
  unfolding geometry_of is_read
  geometry-same = rw (
    us-root a Tags.Rows refl,
    us-root a Tags.Columns refl,
    us-root a Tags.BitsAllocated refl,
    us-root a Tags.BitsStored refl,
  )

  pixels-same : SamePixels ns ms → pixels_of ns ≡ pixels_of ms
  unfolding pixels_of
  pixels-same b =
      rw (← find-root a Tags.PixelData)
      (need-same (find ns Tags.PixelData (root ns)) _ _ (λ p e. rw (a.vr p, b.pixels p (find-tag a Tags.PixelData (root ns) p e))))

  group-for-same : (f tag : ℕ) → group_for ns f tag ≡ group_for ms f tag
  unfolding group_for
  group-for-same f tag =
      rw (item-same a f)
      (need-same (frame_item ms f) _ _ (λ i _. rw (inside-same a i, find-same a tag (inside ms i)) (go (find ms tag (inside ms i)))))
    where
      go : (o : Option ℕ) → or_shared ns tag o ≡ or_shared ms tag o
      go None = rw (shared_same a) (need-same (shared_item ms) _ _ (λ s _. rw (inside-same a s, find-same a tag (inside ms s))))
      go (Some g) = refl

  -- ---- Step 2

  step-range-same : (f j : ℕ) → range_holds ns f j ≡ range_holds ms f j
  unfolding range_holds is_read
  step-range-same f j = rw (inside-same a j, ← find-same a Tags.ApplicableFrameRange (inside ms j))
      (go (find ns Tags.ApplicableFrameRange (inside ms j)) refl)
    where
      go : (o : Option ℕ) → find ns Tags.ApplicableFrameRange (inside ms j) ≡ o → range_has ns f o ≡ range_has ms f o
      go None e = refl
      go (Some r) e = rw (a.vr r, value_same a Tags.ApplicableFrameRange refl (inside ms j) r e)

  holding-same : (f : ℕ) (js : List ℕ) → first_holding ns f js ≡ first_holding ms f js
  unfolding first_holding
  holding-same f [] = refl
  holding-same f (j ∷ js) = rw (step-range-same f j, holding-same f js)

  applying-same : (f : ℕ) → applying_to ns f ≡ applying_to ms f
  unfolding applying_to
  applying-same f = rw (find-root a Tags.MaskSubtractionSequence) (go (find ms Tags.MaskSubtractionSequence (root ms)))
    where
      go : (o : Option ℕ) → on_mask ns f o ≡ on_mask ms f o
      go None = refl
      go (Some m) = rw (a.vr m, inside-same a m, holding-same f (inside ms m))

  -- ---- Step 3

  step-average-same : (j : ℕ) → average_frames ns j ≡ average_frames ms j
  unfolding average_frames is_read
  step-average-same j =
      rw (inside-same a j, ← vr-same a US Tags.MaskFrameNumbers (inside ms j))
      (need-same (find_vr ns Tags.MaskFrameNumbers US (inside ms j)) _ _
      (λ k e. rw (value-vr-same a Tags.MaskFrameNumbers refl (inside ms j) US k e)))

  step-offset-same : (j : ℕ) → offset_of ns j ≡ offset_of ms j
  unfolding offset_of is_read
  step-offset-same j = rw (inside-same a j, ← find-same a Tags.TIDOffset (inside ms j)) (go (find ns Tags.TIDOffset (inside ms j)) refl)
    where
      go : (o : Option ℕ) → find ns Tags.TIDOffset (inside ms j) ≡ o → offset_at ns o ≡ offset_at ms o
      go None e = refl
      go (Some r) e = rw (a.vr r, value_same a Tags.TIDOffset refl (inside ms j) r e)

  tid-same : (f j : ℕ) → tid_frame ns f j ≡ tid_frame ms f j
  unfolding tid_frame
  tid-same f j = rw (step-offset-same j, frames-same a)

  -- ---- Step 4

  naming-same : (id : ℕ) (ks : List ℕ) → naming ns id ks ≡ naming ms id ks
  unfolding naming
  naming-same id [] = refl
  naming-same id (k ∷ ks) = rw (id_same a k, naming-same id ks)

  own_same : (j : ℕ) (o : Option ℕ) → own_in ns j o ≡ own_in ms j o
  own_same j None = refl
  own_same j (Some g) =
      rw (a.vr g, inside-same a g, id_same a j)
      (ap (λ (x : Option (Option ℕ)). check (eqb (node_at ms g).vr SQ && leb 1 (length (inside ms g))) x)
      (need-same (id_in ms j) _ _ (λ id _. naming-same id (inside ms g))))

  shift-from-same : (j : ℕ) (o : Option ℕ) → shift_from ns j o ≡ shift_from ms j o
  unfolding is_read
  shift-from-same j None = rw (inside-same a j, ← find-same a Tags.MaskSubPixelShift (inside ms j))
      (go (find ns Tags.MaskSubPixelShift (inside ms j)) refl)
    where
      go : (o : Option ℕ) → find ns Tags.MaskSubPixelShift (inside ms j) ≡ o → item_shift_at ns o ≡ item_shift_at ms o
      go None e = refl
      go (Some r) e = rw (a.vr r, value_same a Tags.MaskSubPixelShift refl (inside ms j) r e)
  shift-from-same j (Some k) =
      rw (inside-same a k, ← vr-same a FL Tags.MaskSubPixelShift (inside ms k))
      (need-same (find_vr ns Tags.MaskSubPixelShift FL (inside ms k)) _ _
      (λ x e. rw (value-vr-same a Tags.MaskSubPixelShift refl (inside ms k) FL x e)))

  step-shift-same : (f j : ℕ) → shift_for ns f j ≡ shift_for ms f j
  unfolding shift_for
  step-shift-same f j =
      rw (group-for-same f Tags.FramePixelShiftSequence)
      (then_same (group_for ms f Tags.FramePixelShiftSequence) _ _
      (λ g. rw (own_same j g) (then_same (own_in ms j g) _ _ (shift-from-same j))))

  moves-same : (f j : ℕ) → moves_for ns f j ≡ moves_for ms f j
  unfolding moves_for
  moves-same f j = rw (step-shift-same f j)

  mask-by-same : (f j : ℕ) → mask_by ns f j ≡ mask_by ms f j
  unfolding mask_by
  mask-by-same f j =
      rw (
        operation-same a (ascii "NONE") j,
        operation-same a (ascii "AVG_SUB") j,
        operation-same a (ascii "TID") j,
        step-average-same j,
        moves-same f j,
        tid-same f j,
      )
      (ap (λ (x : Option Mask). cond (operation_is ms (ascii "NONE") j) (Some native) (cond (operation_is ms (ascii "AVG_SUB") j)
      (then (average_frames ms j) (λ ks. then (moves_for ms f j) (λ m. Some (masked ks m))))
      (cond (operation_is ms (ascii "TID") j) x None)))
      (then_same (tid_frame ms f j) (on_tid ns f j) (on_tid ms f j) go))
    where
      go : (o : Option ℕ) → on_tid ns f j o ≡ on_tid ms f j o
      go None = refl
      go (Some k) = rw (moves-same f j)

  step-mask-same : (f : ℕ) → mask_for ns f ≡ mask_for ms f
  unfolding mask_for
  step-mask-same f = rw (applying-same f) (then_same (applying_to ms f) (mask_on ns f) (mask_on ms f) go)
    where
      go : (o : Option ℕ) → mask_on ns f o ≡ mask_on ms f o
      go None = refl
      go (Some j) = mask-by-same f j

  -- ---- Steps 6 and 7

  window-in-same : (is : List ℕ) → window_in ns is ≡ window_in ms is
  unfolding window_in is_read
  window-in-same is =
      rw (← vr-same a DS Tags.WindowCenter is, ← vr-same a DS Tags.WindowWidth is, function-same a is)
      (need-same (find_vr ns Tags.WindowCenter DS is) _ _ (λ c e.
      need-same (find_vr ns Tags.WindowWidth DS is) _ _ (λ w d.
      rw (value-vr-same a Tags.WindowCenter refl is DS c e, value-vr-same a Tags.WindowWidth refl is DS w d))))

  step-window-same : (f stored : ℕ) → window_for ns f stored ≡ window_for ms f stored
  unfolding window_for
  step-window-same f stored = rw (group-for-same f Tags.FrameVOILUTSequence)
      (then_same (group_for ms f Tags.FrameVOILUTSequence) (window_on ns stored) (window_on ms stored) go)
    where
      go : (o : Option ℕ) → window_on ns stored o ≡ window_on ms stored o
      go None = refl
      go (Some g) = rw (the_same a g) (need-same (the_item ms g) _ _ (λ j _. rw (inside-same a j) (window-in-same (inside ms j))))

  inverse-same : inverse_of ns ≡ inverse_of ms
  unfolding inverse_of is_read
  inverse-same =
      rw (← vr-root a CS Tags.PhotometricInterpretation)
      (need-same (find_vr ns Tags.PhotometricInterpretation CS (root ns)) _ _
      (λ i e. rw (value-vr-same a Tags.PhotometricInterpretation refl (root ns) CS i e)))

  pub steps-same : SamePixels ns ms → (f : ℕ) → steps_of ns f ≡ steps_of ms f
  unfolding steps_of
  steps-same b f =
      rw (geometry-same, pixels-same b, step-mask-same f, inverse-same)
      (then_same (geometry_of ms) _ _ (λ g. rw (step-window-same f g.stored)))

  -- ---- Back to beam intensity

  linear-for-same : (f : ℕ) → linear_for ns f ≡ linear_for ms f
  unfolding linear_for
  linear-for-same f =
      rw (group-for-same f Tags.PixelIntensityRelationshipLUTSequence)
      (then_same (group_for ms f Tags.PixelIntensityRelationshipLUTSequence) (linear_on ns) (linear_on ms) go)
    where
      go : (o : Option ℕ) → linear_on ns o ≡ linear_on ms o
      go None = refl
      go (Some g) = rw (a.vr g, inside-same a g, among_same a (inside ms g))

  pub is-mapped-same : (f : ℕ) → has_linear_item ns f ≡ has_linear_item ms f
  unfolding has_linear_item
  is-mapped-same f = rw (linear-for-same f)

  mapping-by-same : SamePixels ns ms → (f j : ℕ) → mapping_by ns f j ≡ mapping_by ms f j
  unfolding mapping_by is_read
  mapping-by-same b f j =
      rw (
        geometry-same,
        pixels-same b,
        inside-same a j,
        ← vr-same a US Tags.LUTDescriptor (inside ms j),
        ← vr-same a OW Tags.LUTData (inside ms j),
      )
      (then_same (geometry_of ms) _ _ (λ g.
      then_same (pixels_of ms) _ _ (λ v.
      ap (check (is_frame g v f))
      (need-same (find_vr ns Tags.LUTDescriptor US (inside ms j)) _ _ (λ d e.
      need-same (find_vr ns Tags.LUTData OW (inside ms j)) _ _ (λ t h.
      rw (value-vr-same a Tags.LUTDescriptor refl (inside ms j) US d e, value-vr-same a Tags.LUTData refl (inside ms j) OW t h)))))))

  pub mapping-same : SamePixels ns ms → (f : ℕ) → mapping_of ns f ≡ mapping_of ms f
  unfolding mapping_of
  mapping-same b f =
      rw (linear-for-same f) (then_same (linear_for ms f) _ _ (λ o. need-same o _ _ (λ j _. mapping-by-same b f j)))
