-- Objects accepted before quarters keep their verdict and their pictures, as one statement (`KeepsPictures`, at the end). Take rules 35
-- and 37 and drawing step 4 as they were, with shifts of whole pixels, and everything else as it is now. Take any data set in which every
-- rule then held at every frame at which it is asked. It is accepted now; and for every frame of it the old steps give a picture, and the
-- present steps give the same picture, masked or native, cell for cell. The second statement (`SamePictures`) does not ask for
-- acceptance: wherever the old steps give a picture, for any data set and any frame number, the present steps give it too. The old rules
-- and the old step are here for these statements alone; no code follows them. Proved in proofs/Before.
use Rattle.std.specs.Prelude.{ℕ, ◌+◌, ◌-◌, ◌^◌, ◌≤◌, ◌<◌, ◌≡◌, Bool, true, false, cond, ◌&&◌, List, [], ◌∷◌, length, eqb, leb, ltb, pos, ◌+ℤ◌, ◌-ℤ◌, Option, Some, None}
use Rattle.basics.specs.Bytes.{IsBytes}
use Rattle.basics.specs.Vr.{SQ, FL}
use Rattle.value.specs.Text.{ascii}
use Rattle.value.specs.Number.{is_number, number_or0}
use Rattle.shift.specs.declared.Moves.{Moves}
use Rattle.shift.specs.Whole.{whole_moves_of, is_whole_shift}
use Rattle.verdict.specs.Verdict.{last_rule}
use Rattle.node.specs.Nodes.{Node, nodes_of, node_at, inside}
use Rattle.node.specs.Find.{holds, if_present, find, find_vr}
use Rattle.basics.specs.Tags
use Rattle.element.specs.Elements.{value_at, every}
use Rattle.element.specs.Frames.{frames_of, group_of, mask_items, operation_is}
use Rattle.rules.specs.Frame.{at_frame, has_id, unique_ids}
use Rattle.rules.specs.All.{rule_at}
use Rattle.conformance.specs.declared.Finding.TheVariants.{Accepted}
use Rattle.conformance.specs.Judging.{first_frame, frame_count, finding_of}
use Rattle.pixel.specs.declared.Geometry.{Geometry}
use Rattle.pixel.specs.Pixel.{samples_of, is_frame, sample_at, mask_at}
use Rattle.pixel.specs.Whole.{source_of}
use Rattle.window.specs.declared.Window.{Window}
use Rattle.window.specs.Window.{level_of, level_half, shaded}
use Rattle.steps.specs.Given.{check, then, collect}
use Rattle.steps.specs.Steps.{Picture, Mask, native, masked, geometry_of, pixels_of, applying_to, average_frames, tid_frame, shift_for, window_for}
use Rattle.steps.specs.Steps.{inverse_of, native_cell, are_frames, steps_of}

-- ---- Rule 35: two whole numbers in -64..64

unfoldable pub was_shift_at : List Node → ℕ → Bool
was_shift_at ns k = eqb (node_at ns k).vr FL && is_whole_shift (value_at ns k)

unfoldable pub shift_fitted : List Node → ℕ → Bool
shift_fitted ns j = if_present (find ns Tags.MaskSubPixelShift (inside ns j)) (was_shift_at ns)

unfoldable pub rule35_before : List Node → Bool
rule35_before ns = every (shift_fitted ns) (mask_items ns)

-- ---- Rule 37: a shift as in rule 35

unfoldable pub was_shift_item : List Node → ℕ → Bool
was_shift_item ns j = has_id ns j && holds (find_vr ns Tags.MaskSubPixelShift FL (inside ns j)) (λ k. is_whole_shift (value_at ns k))

unfoldable pub was_shift_group : List Node → ℕ → Bool
was_shift_group ns g =
    eqb (node_at ns g).vr SQ && (leb 1 (length (inside ns g)) && (every (was_shift_item ns) (inside ns g) && unique_ids ns (inside ns g)))

unfoldable pub item37_before : List Node → ℕ → ℕ → Bool
item37_before ns s i = if_present (group_of ns Tags.FramePixelShiftSequence s i) (was_shift_group ns)

unfoldable pub rule37_before : List Node → ℕ → Bool
rule37_before ns f = at_frame ns f (item37_before ns)

unfoldable pub rule_before : List Node → ℕ → ℕ → Bool
rule_before ns rule f = cond (eqb rule 35) (rule35_before ns) (cond (eqb rule 37) (rule37_before ns f) (rule_at ns rule f))

-- Every rule held at every frame at which it is asked.
abbrev pub AcceptedBefore : List Node → Type 0
AcceptedBefore ns = (rule : ℕ) → 1 ≤ rule → rule ≤ last_rule → (f : ℕ) → first_frame rule ≤ f → f < first_frame rule + frame_count ns rule
    → rule_before ns rule f ≡ true

-- ---- Step 4: cell (r, c) takes mask cell (r - v, c - h)

unfoldable pub moves_before : List Node → ℕ → ℕ → Option Moves
moves_before ns f j =
    then (shift_for ns f j) (λ s.
    check (is_number (whole_moves_of s).vertical && is_number (whole_moves_of s).horizontal) (Some (whole_moves_of s)))

abbrev pub on_tid_before : List Node → ℕ → ℕ → Option ℕ → Option Mask
on_tid_before ns f j None = Some native
on_tid_before ns f j (Some k) = then (moves_before ns f j) (λ m. Some (masked (k ∷ []) m))

unfoldable pub mask_by_before : List Node → ℕ → ℕ → Option Mask
mask_by_before ns f j =
    cond (operation_is ns (ascii "NONE") j) (Some native)
    (cond (operation_is ns (ascii "AVG_SUB") j) (then (average_frames ns j) (λ ks. then (moves_before ns f j) (λ m. Some (masked ks m))))
    (cond (operation_is ns (ascii "TID") j) (then (tid_frame ns f j) (on_tid_before ns f j))
    None))

abbrev pub mask_on_before : List Node → ℕ → Option ℕ → Option Mask
mask_on_before ns f None = Some native
mask_on_before ns f (Some j) = mask_by_before ns f j

unfoldable pub mask_for_before : List Node → ℕ → Option Mask
mask_for_before ns f = then (applying_to ns f) (mask_on_before ns f)

unfoldable pub masked_cell_before : Geometry → List ℕ → ℕ → List ℕ → Moves → Window → Bool → ℕ → Option ℕ
masked_cell_before g v f ks m w inverse i =
    cond (leb 1 (length ks) && ltb (source_of g m i) (samples_of g))
    (shaded inverse
    (cond (eqb g.stored 0)
    (level_half w (pos (sample_at g v f i) -ℤ pos (mask_at g v ks (source_of g m i))))
    (level_of w (pos (sample_at g v f i) -ℤ pos (mask_at g v ks (source_of g m i)) +ℤ pos (2 ^ (g.stored - 1))))))
    None

unfoldable pub picture_before : Geometry → List ℕ → ℕ → Window → Bool → Mask → Option Picture
picture_before g v f w inverse native =
    then (collect (native_cell g v f w inverse) (samples_of g)) (λ l. Some (record { masked = false; samples = l }))
picture_before g v f w inverse (masked ks m) =
    check (are_frames g v ks)
    (then (collect (masked_cell_before g v f ks m w inverse) (samples_of g)) (λ l. Some (record { masked = true; samples = l })))

-- Drawing frame f.
unfoldable pub steps_before : List Node → ℕ → Option Picture
steps_before ns f =
    then (geometry_of ns) (λ g.
    then (pixels_of ns) (λ v.
    check (is_frame g v f)
    (then (mask_for_before ns f) (λ m.
    then (window_for ns f g.stored) (λ w.
    then (inverse_of ns) (λ inverse.
    picture_before g v f w inverse m))))))

-- ---- The statements

-- The old and the present steps give the same picture.
pub record DrawnAlike (ns : List Node) (f : ℕ) : Type 0 where
  pub p : Picture
  pub before : steps_before ns f ≡ Some p
  pub after : steps_of ns f ≡ Some p

pub record PicturesKept (s : List ℕ) : Type 0 where
  pub accepted : finding_of (nodes_of s) ≡ Accepted
  pub pictures : (f : ℕ) → 1 ≤ f → f ≤ number_or0 (frames_of (nodes_of s)) → DrawnAlike (nodes_of s) f

abbrev pub KeepsPictures : Type 0
KeepsPictures = (s : List ℕ) → IsBytes s → AcceptedBefore (nodes_of s) → PicturesKept s

abbrev pub SamePictures : Type 0
SamePictures = (ns : List Node) (f : ℕ) (p : Picture) → steps_before ns f ≡ Some p → steps_of ns f ≡ Some p
