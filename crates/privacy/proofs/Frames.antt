-- Rules 27 to 37 and 39 say the same of lists of nodes that are alike.
use Rattle.std.specs.Prelude.{Option, Some, None}
use mathlib.Core.Path.{◌≡◌, refl, ap}
use Prim.Native.Nat.{ℕ}
use mathlib.Core.Bool.{Bool, true, false, cond, ◌&&◌}
use mathlib.Core.List.{List, [], ◌∷◌}
use lib.Dec.{eqb}
use Rattle.basics.specs.Vr.{SQ, DS, US, FL, OW}
use Rattle.value.specs.Text.{ascii}
use Rattle.value.specs.Number.{us_of, number_or0}
use Rattle.shift.specs.Shift.{is_frame_shift}
use Rattle.node.specs.Nodes.{Node, node_at, root, inside}
use Rattle.node.specs.Find.{holds, if_present, absent, and_then, find, find_vr, of_vr, filled}
use Rattle.basics.specs.Tags
use Rattle.element.specs.Elements.{value_at, one_item, the_item, every}
use Rattle.element.specs.Frames.{frames_of, shared_item, frame_items, frame_item, group_of, mask_items, operation_is}
use Rattle.rules.specs.Frame.{at_frame, is_shared, repeats_shared, item27, rule27, item28, rule28, item29, rule29, has_window, is_voi, item30}
use Rattle.rules.specs.Frame.{rule30, unique, unique_ids, has_id, is_shift_item, is_shift_group, item37, rule37}
use Rattle.rules.specs.Mask.{is_operation, is_mask, rule31, is_range, range_fits, rule32, are_mask_frames, is_one, average_fits, averages_fit}
use Rattle.rules.specs.Mask.{rule33, is_offset, offset_fits, rule34, is_shift_at, shift_fits, rule35, has_shift_group, any_shift, masks_have_ids}
use Rattle.rules.specs.Mask.{rule36}
use Rattle.rules.specs.Intensity.{is_linear, linear_among, has_lut, are_luts, is_lut_group, has_linear, is_log, item39, rule39}
use Rattle.privacy.specs.Read.{is_read}
use Rattle.privacy.specs.Alike.{Alike}
use Rattle.privacy.proofs.Words.{holds_same, if-same, every-same, some_same, map_same, inside-same, find-same, find-root, vr-same}
use Rattle.privacy.proofs.Words.{value_same, value-vr-same, test-same, cs-same, one_same, the_same, frames-same, shared_same}
use Rattle.privacy.proofs.Words.{frame-items-same, mask-items-same, group-same, operation-same, id_same, function-same}

module _ {ns ms : List Node} (a : Alike ns ms) where
  at_same : (f : ℕ) (p q : ℕ → ℕ → Bool) → ((s i : ℕ) → p s i ≡ q s i) → at_frame ns f p ≡ at_frame ms f q
  at_same f p q h =
      rw (shared_same a, frame-items-same a) (holds_same (shared_item ms) _ _ (λ s _. holds_same (frame_item ms f) _ _ (λ i _. h s i)))

  -- A test of a frame's group, if that is present.
  if-group : (tag : ℕ) (p q : ℕ → Bool) → ((g : ℕ) → p g ≡ q g) → (s i : ℕ)
      → if_present (group_of ns tag s i) p ≡ if_present (group_of ms tag s i) q
  if-group tag p q h s i = rw (group-same a tag s i) (if-same (group_of ms tag s i) p q (λ g _. h g))

  holds-group : (tag : ℕ) (p q : ℕ → Bool) → ((g : ℕ) → p g ≡ q g) → (s i : ℕ) → holds (group_of ns tag s i) p ≡ holds (group_of ms tag s i) q
  holds-group tag p q h s i = rw (group-same a tag s i) (holds_same (group_of ms tag s i) p q (λ g _. h g))

  -- A test of every mask item.
  every-mask : (p q : ℕ → Bool) → ((j : ℕ) → p j ≡ q j) → every p (mask_items ns) ≡ every q (mask_items ms)
  every-mask p q h = rw (mask-items-same a) (every-same p q h (mask_items ms))

  -- ---- Rules 27 to 30

  shared-is : (s j : ℕ) → is_shared ns s j ≡ is_shared ms s j
  unfolding is_shared
  shared-is s j = rw (a.vr j, a.tag j, inside-same a s, vr-same a SQ (node_at ms j).tag (inside ms s))

  pub rule27-same : (f : ℕ) → rule27 ns f ≡ rule27 ms f
  unfolding rule27 item27 repeats_shared
  rule27-same f = at_same f (item27 ns) (item27 ms)
      (λ s i. rw (inside-same a i, some_same (is_shared ns s) (is_shared ms s) (shared-is s) (inside ms i)))

  pub rule28-same : (f : ℕ) → rule28 ns f ≡ rule28 ms f
  unfolding rule28 item28
  rule28-same f =
      at_same f (item28 ns) (item28 ms) (λ s i.
      rw (
        inside-same a i,
        inside-same a s,
        find-same a Tags.FrameContentSequence (inside ms i),
        find-same a Tags.FrameContentSequence (inside ms s),
      )
      (ap (λ (b : Bool). absent (find ms Tags.FrameContentSequence (inside ms s)) && b)
      (holds_same (find ms Tags.FrameContentSequence (inside ms i)) _ _ (λ g _. one_same a g))))

  pub rule29-same : (f : ℕ) → rule29 ns f ≡ rule29 ms f
  unfolding rule29 item29
  rule29-same f = at_same f (item29 ns) (item29 ms) (if-group Tags.XAXRFFrameCharacteristicsSequence (one_item ns) (one_item ms) (one_same a))

  rule-window-same : (is : List ℕ) → has_window ns is ≡ has_window ms is
  unfolding has_window is_read
  rule-window-same is =
      rw (← vr-same a DS Tags.WindowCenter is, ← vr-same a DS Tags.WindowWidth is, function-same a is)
      (holds_same (find_vr ns Tags.WindowCenter DS is) _ _ (λ c e.
      holds_same (find_vr ns Tags.WindowWidth DS is) _ _ (λ w d.
      rw (value-vr-same a Tags.WindowCenter refl is DS c e, value-vr-same a Tags.WindowWidth refl is DS w d))))

  voi-same : (g : ℕ) → is_voi ns g ≡ is_voi ms g
  unfolding is_voi
  voi-same g = rw (the_same a g) (holds_same (the_item ms g) _ _ (λ j _. rw (inside-same a j) (rule-window-same (inside ms j))))

  pub rule30-same : (f : ℕ) → rule30 ns f ≡ rule30 ms f
  unfolding rule30 item30
  rule30-same f = at_same f (item30 ns) (item30 ms) (if-group Tags.FrameVOILUTSequence (is_voi ns) (is_voi ms) voi-same)

  -- ---- Rule 37

  has-id-same : (j : ℕ) → has_id ns j ≡ has_id ms j
  unfolding has_id
  has-id-same j = rw (id_same a j)

  unique-same : (l : List ℕ) → unique_ids ns l ≡ unique_ids ms l
  unfolding unique_ids
  unique-same l = ap unique (map_same _ _ (λ j. ap number_or0 (id_same a j)) l)

  shift-item-same : (j : ℕ) → is_shift_item ns j ≡ is_shift_item ms j
  unfolding is_shift_item is_read
  shift-item-same j = rw (has-id-same j, inside-same a j, test-same a Tags.MaskSubPixelShift refl (inside ms j) FL is_frame_shift)

  shift-group-same : (g : ℕ) → is_shift_group ns g ≡ is_shift_group ms g
  unfolding is_shift_group
  shift-group-same g = rw (
    a.vr g,
    inside-same a g,
    every-same (is_shift_item ns) (is_shift_item ms) shift-item-same (inside ms g),
    unique-same (inside ms g),
  )

  pub rule37-same : (f : ℕ) → rule37 ns f ≡ rule37 ms f
  unfolding rule37 item37
  rule37-same f = at_same f (item37 ns) (item37 ms)
      (if-group Tags.FramePixelShiftSequence (is_shift_group ns) (is_shift_group ms) shift-group-same)

  -- ---- Rules 31 to 36

  is-operation-same : (j : ℕ) → is_operation ns j ≡ is_operation ms j
  unfolding is_operation
  is-operation-same j = rw (operation-same a (ascii "NONE") j, operation-same a (ascii "AVG_SUB") j, operation-same a (ascii "TID") j)

  rule-mask-same : (m : ℕ) → is_mask ns m ≡ is_mask ms m
  unfolding is_mask
  rule-mask-same m = rw (a.vr m, inside-same a m, every-same (is_operation ns) (is_operation ms) is-operation-same (inside ms m))

  pub rule31-same : rule31 ns ≡ rule31 ms
  unfolding rule31
  rule31-same =
      rw (find-root a Tags.MaskSubtractionSequence) (if-same (find ms Tags.MaskSubtractionSequence (root ms)) _ _ (λ m _. rule-mask-same m))

  rule-range-same : (n j : ℕ) → range_fits ns n j ≡ range_fits ms n j
  unfolding range_fits is_range is_read
  rule-range-same n j =
      rw (inside-same a j, ← find-same a Tags.ApplicableFrameRange (inside ms j))
      (if-same (find ns Tags.ApplicableFrameRange (inside ms j)) _ _
      (λ r e. rw (value_same a Tags.ApplicableFrameRange refl (inside ms j) r e, a.vr r)))

  pub rule32-same : rule32 ns ≡ rule32 ms
  unfolding rule32
  rule32-same = rw (frames-same a) (holds_same (frames_of ms) _ _ (λ n _. every-mask (range_fits ns n) (range_fits ms n) (rule-range-same n)))

  one-value-same : (j k : ℕ) → find ns Tags.ContrastFrameAveraging (inside ms j) ≡ Some k → is_one ns k ≡ is_one ms k
  unfolding is_one of_vr is_read
  one-value-same j k e = rw (a.vr k) (go (eqb (node_at ms k).vr US))
    where
      go : (b : Bool) → holds (and_then (cond b (Some k) None) (λ i. us_of (value_at ns i))) (λ x. eqb x 1)
          ≡ holds (and_then (cond b (Some k) None) (λ i. us_of (value_at ms i))) (λ x. eqb x 1)
      go true = rw (value_same a Tags.ContrastFrameAveraging refl (inside ms j) k e)
      go false = refl

  rule-average-same : (n j : ℕ) → average_fits ns n j ≡ average_fits ms n j
  unfolding average_fits is_read
  rule-average-same n j =
      rw (
        inside-same a j,
        test-same a Tags.MaskFrameNumbers refl (inside ms j) US (are_mask_frames n),
        ← find-same a Tags.ContrastFrameAveraging (inside ms j),
      )
      (ap (λ (b : Bool). holds (find_vr ms Tags.MaskFrameNumbers US (inside ms j)) (λ k. are_mask_frames n (value_at ms k)) && b)
      (if-same (find ns Tags.ContrastFrameAveraging (inside ms j)) _ _ (one-value-same j)))

  averages-same : (n j : ℕ) → averages_fit ns n j ≡ averages_fit ms n j
  unfolding averages_fit
  averages-same n j = rw (operation-same a (ascii "AVG_SUB") j, rule-average-same n j)

  pub rule33-same : rule33 ns ≡ rule33 ms
  unfolding rule33
  rule33-same = rw (frames-same a)
      (holds_same (frames_of ms) _ _ (λ n _. every-mask (averages_fit ns n) (averages_fit ms n) (averages-same n)))

  rule-offset-same : (j : ℕ) → offset_fits ns j ≡ offset_fits ms j
  unfolding offset_fits is_offset is_read
  rule-offset-same j =
      rw (operation-same a (ascii "TID") j, inside-same a j, ← find-same a Tags.TIDOffset (inside ms j))
      (ap (λ (b : Bool). cond (operation_is ms (ascii "TID") j) b true)
      (if-same (find ns Tags.TIDOffset (inside ms j)) _ _ (λ k e. rw (a.vr k, value_same a Tags.TIDOffset refl (inside ms j) k e))))

  pub rule34-same : rule34 ns ≡ rule34 ms
  unfolding rule34
  rule34-same = every-mask (offset_fits ns) (offset_fits ms) rule-offset-same

  rule-shift-same : (j : ℕ) → shift_fits ns j ≡ shift_fits ms j
  unfolding shift_fits is_shift_at is_read
  rule-shift-same j =
      rw (inside-same a j, ← find-same a Tags.MaskSubPixelShift (inside ms j))
      (if-same (find ns Tags.MaskSubPixelShift (inside ms j)) _ _
      (λ k e. rw (a.vr k, value_same a Tags.MaskSubPixelShift refl (inside ms j) k e)))

  pub rule35-same : rule35 ns ≡ rule35 ms
  unfolding rule35
  rule35-same = every-mask (shift_fits ns) (shift_fits ms) rule-shift-same

  shift-had : (s i : ℕ) → has_shift_group ns s i ≡ has_shift_group ms s i
  unfolding has_shift_group filled of_vr
  shift-had s i = rw (group-same a Tags.FramePixelShiftSequence s i) (go (group_of ms Tags.FramePixelShiftSequence s i))
    where
      on : (g : ℕ) (b : Bool) → eqb (node_at ms g).vr SQ ≡ b
          → holds (cond b (Some g) None) (filled ns) ≡ holds (cond b (Some g) None) (filled ms)
      on g true e = rw (a.vr g, a.descendants g, e)
      on g false e = refl

      go : (o : Option ℕ) → holds (and_then o (of_vr ns SQ)) (filled ns) ≡ holds (and_then o (of_vr ms SQ)) (filled ms)
      go None = refl
      go (Some g) = rw (a.vr g) (on g (eqb (node_at ms g).vr SQ) refl)

  pub rule36-same : rule36 ns ≡ rule36 ms
  unfolding rule36 any_shift masks_have_ids
  rule36-same =
      rw (shared_same a, mask-items-same a, frame-items-same a)
      (holds_same (shared_item ms) _ _ (λ s _.
      rw (
        some_same (has_shift_group ns s) (has_shift_group ms s) (shift-had s) (frame_items ms),
        every-same (has_id ns) (has_id ms) has-id-same (mask_items ms),
        unique-same (mask_items ms),
      )))

  -- ---- Rule 39

  rule-linear-same : (j : ℕ) → is_linear ns j ≡ is_linear ms j
  unfolding is_linear is_read
  rule-linear-same j = rw (inside-same a j) (cs-same a Tags.LUTFunction refl (inside ms j) (ascii "TO_LINEAR"))

  pub among_same : (js : List ℕ) → linear_among ns js ≡ linear_among ms js
  unfolding linear_among
  among_same [] = refl
  among_same (j ∷ js) = rw (rule-linear-same j, among_same js)

  lut-same : (j : ℕ) → has_lut ns j ≡ has_lut ms j
  unfolding has_lut is_read
  lut-same j =
      rw (inside-same a j, ← vr-same a US Tags.LUTDescriptor (inside ms j), ← vr-same a OW Tags.LUTData (inside ms j))
      (holds_same (find_vr ns Tags.LUTDescriptor US (inside ms j)) _ _ (λ d e.
      holds_same (find_vr ns Tags.LUTData OW (inside ms j)) _ _ (λ t g.
      rw (value-vr-same a Tags.LUTDescriptor refl (inside ms j) US d e, value-vr-same a Tags.LUTData refl (inside ms j) OW t g))))

  lut-group-same : (g : ℕ) → is_lut_group ns g ≡ is_lut_group ms g
  unfolding is_lut_group are_luts
  lut-group-same g =
      rw (a.vr g, inside-same a g, among_same (inside ms g), every-same (has_lut ns) (has_lut ms) lut-same (linear_among ms (inside ms g)))

  has-linear-same : (g : ℕ) → has_linear ns g ≡ has_linear ms g
  unfolding has_linear
  has-linear-same g = rw (inside-same a g, among_same (inside ms g))

  log-same : (p : ℕ) → is_log ns p ≡ is_log ms p
  unfolding is_log is_read
  log-same p =
      rw (the_same a p)
      (holds_same (the_item ms p) _ _
      (λ j _. rw (inside-same a j) (cs-same a Tags.PixelIntensityRelationship refl (inside ms j) (ascii "LOG"))))

  pub rule39-same : (f : ℕ) → rule39 ns f ≡ rule39 ms f
  unfolding rule39 item39
  rule39-same f =
      at_same f (item39 ns) (item39 ms) (λ s i.
      rw (
        if-group Tags.FramePixelDataPropertiesSequence (one_item ns) (one_item ms) (one_same a) s i,
        if-group Tags.PixelIntensityRelationshipLUTSequence (is_lut_group ns) (is_lut_group ms) lut-group-same s i,
        holds-group Tags.FramePixelDataPropertiesSequence (is_log ns) (is_log ms) log-same s i,
        holds-group Tags.PixelIntensityRelationshipLUTSequence (has_linear ns) (has_linear ms) has-linear-same s i,
      ))
