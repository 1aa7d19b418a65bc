-- Rules 31 to 36: the mask items, which are those of the root's Mask Subtraction Sequence.
use Rattle.std.specs.Prelude.{ℕ, ◌%◌, List, [], ◌∷◌, Bool, true, false, cond, ◌&&◌, ◌||◌, length, eqb, leb}
use Rattle.basics.specs.Limits.{most_masks, most_mask_frames}
use Rattle.basics.specs.Vr.{SQ, US, SS, FL}
use Rattle.value.specs.Text.{ascii}
use Rattle.value.specs.Number.{us_of, us_values, ss_of, is_number}
use Rattle.shift.specs.Shift.{is_shift}
use Rattle.node.specs.Nodes.{Node, node_at, root, inside}
use Rattle.node.specs.Find.{holds, if_present, and_then, find, find_vr, of_vr, filled}
use Rattle.basics.specs.Tags
use Rattle.element.specs.Elements.{value_at, has_pairs, every, some}
use Rattle.element.specs.Frames.{frames_of, frame_items, shared_item, group_of, mask_items, operation_is}
use Rattle.rules.specs.Frame.{has_id, unique_ids}

-- Rule 31. Mask Subtraction Sequence (0028,6100), if present, 1 to 16 (local rule) items; each Mask Operation (0028,6101) CS
-- NONE, AVG_SUB or TID (local rule).
unfoldable pub is_operation : List Node → ℕ → Bool
is_operation ns j = operation_is ns (ascii "NONE") j || (operation_is ns (ascii "AVG_SUB") j || operation_is ns (ascii "TID") j)

unfoldable pub is_mask : List Node → ℕ → Bool
is_mask ns m =
    eqb (node_at ns m).vr SQ
    && ((leb 1 (length (inside ns m)) && leb (length (inside ns m)) most_masks) && every (is_operation ns) (inside ns m))

unfoldable pub rule31 : List Node → Bool
rule31 ns = if_present (find ns Tags.MaskSubtractionSequence (root ns)) (is_mask ns)

-- Rule 32. Applicable Frame Range (0028,6102) in a mask item, if present, US pairs, at least one, 1 ≤ first ≤ last ≤ N.
unfoldable pub pairs_fit : ℕ → List ℕ → Bool
pairs_fit n [] = true
pairs_fit n (a ∷ []) = false
pairs_fit n (a ∷ b ∷ l) = (leb 1 a && (leb a b && leb b n)) && pairs_fit n l

unfoldable pub is_range : List Node → ℕ → ℕ → Bool
is_range ns n r = has_pairs ns r && pairs_fit n (us_values (value_at ns r))

unfoldable pub range_fits : List Node → ℕ → ℕ → Bool
range_fits ns n j = if_present (find ns Tags.ApplicableFrameRange (inside ns j)) (is_range ns n)

unfoldable pub rule32 : List Node → Bool
rule32 ns = holds (frames_of ns) (λ n. every (range_fits ns n) (mask_items ns))

-- Rule 33. AVG_SUB: in that item 1 to 64 (local rule) Mask Frame Numbers (0028,6110) US in 1..N; Contrast Frame Averaging
-- (0028,6112) US absent or 1 (local rule).
unfoldable pub all_frames : ℕ → List ℕ → Bool
all_frames n [] = true
all_frames n (x ∷ xs) = (leb 1 x && leb x n) && all_frames n xs

unfoldable pub are_mask_frames : ℕ → List ℕ → Bool
are_mask_frames n v =
    eqb (length v % 2) 0 && ((leb 1 (length (us_values v)) && leb (length (us_values v)) most_mask_frames) && all_frames n (us_values v))

unfoldable pub is_one : List Node → ℕ → Bool
is_one ns k = holds (and_then (of_vr ns US k) (λ i. us_of (value_at ns i))) (λ x. eqb x 1)

unfoldable pub average_fits : List Node → ℕ → ℕ → Bool
average_fits ns n j =
    holds (find_vr ns Tags.MaskFrameNumbers US (inside ns j)) (λ k. are_mask_frames n (value_at ns k))
    && if_present (find ns Tags.ContrastFrameAveraging (inside ns j)) (is_one ns)

unfoldable pub averages_fit : List Node → ℕ → ℕ → Bool
averages_fit ns n j = cond (operation_is ns (ascii "AVG_SUB") j) (average_fits ns n j) true

unfoldable pub rule33 : List Node → Bool
rule33 ns = holds (frames_of ns) (λ n. every (averages_fit ns n) (mask_items ns))

-- Rule 34. TID: in that item TID Offset (0028,6120) SS absent (then 1) or one value.
unfoldable pub is_offset : List Node → ℕ → Bool
is_offset ns k = eqb (node_at ns k).vr SS && is_number (ss_of (value_at ns k))

unfoldable pub offset_fits : List Node → ℕ → Bool
offset_fits ns j = cond (operation_is ns (ascii "TID") j) (if_present (find ns Tags.TIDOffset (inside ns j)) (is_offset ns)) true

unfoldable pub rule34 : List Node → Bool
rule34 ns = every (offset_fits ns) (mask_items ns)

-- Rule 35. Mask Sub-pixel Shift (0028,6114) FL in a mask item, if present, two numbers in -64..64, whole multiples of 1/4 (local rule).
unfoldable pub is_shift_at : List Node → ℕ → Bool
is_shift_at ns k = eqb (node_at ns k).vr FL && is_shift (value_at ns k)

unfoldable pub shift_fits : List Node → ℕ → Bool
shift_fits ns j = if_present (find ns Tags.MaskSubPixelShift (inside ns j)) (is_shift_at ns)

unfoldable pub rule35 : List Node → Bool
rule35 ns = every (shift_fits ns) (mask_items ns)

-- Rule 36. If any frame has Frame Pixel Shift (0028,9415): every mask item has Subtraction Item ID (0028,9416) US, all different.
unfoldable pub has_shift_group : List Node → ℕ → ℕ → Bool
has_shift_group ns s i = holds (and_then (group_of ns Tags.FramePixelShiftSequence s i) (of_vr ns SQ)) (filled ns)

unfoldable pub any_shift : List Node → ℕ → Bool
any_shift ns s = some (has_shift_group ns s) (frame_items ns)

unfoldable pub masks_have_ids : List Node → Bool
masks_have_ids ns = every (has_id ns) (mask_items ns) && unique_ids ns (mask_items ns)

unfoldable pub rule36 : List Node → Bool
rule36 ns = holds (shared_item ns) (λ s. cond (any_shift ns s) (masks_have_ids ns) true)
