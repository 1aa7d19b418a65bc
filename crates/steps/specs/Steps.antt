-- Drawing frame f (document 01, steps 1 to 7 and "What a step needs"), over the nodes of a data set that reads well, accepted or not. No
-- rule is built in: a step that lacks what it needs gives `None`, and a step that is not taken needs nothing. The arithmetic of samples
-- is in `Rattle.pixel`, that of windows in `Rattle.window`.
--
-- step                                              definition
-- 1  cells of whole bytes, high bits cut off        geometry_of, pixels_of; sample_at of Rattle.pixel
-- 2  the mask item that applies                     applying_to
-- 3  its mask frames                                average_frames, tid_frame
-- 4  how far they are moved                         shift_for, moves_for; blended_at of Rattle.pixel
-- 5  x                                              native_cell, masked_cell
-- 6  the window, and its level                      window_for; level_of of Rattle.window
-- 7  MONOCHROME1                                    inverse_of; shaded of Rattle.window
--
-- what a step needs ("What a step needs")           where it can lack
-- whole frames of cells inside the pixel bytes      is_frame in steps_of, are_frames in picture_by
-- the shared item or item f where it opens one      group_for, or_shared
-- the one item of a VOI group                       window_on
-- at least one item of a Frame Pixel Shift          own_in
-- values of the VR, count and form that it reads    geometry_of, pixels_of, range_has, on_mask, average_frames, offset_at, tid_frame,
--                                                   naming, item_shift_at, shift_from, moves_for, mask_by, window_in, inverse_of
-- mask cells inside the picture                     are_inside in masked_cell
-- a divisor above 0 where it divides                average_frames, and length ks in masked_cell; level_of of Rattle.window
use Rattle.std.specs.Prelude.{ℕ, ◌+◌, ◌-◌, ◌/◌, ◌%◌, ◌^◌, Bool, true, false, cond, ◌&&◌, ◌||◌, List, [], ◌∷◌, length, eqb, leb, pos, ◌+ℤ◌, ◌-ℤ◌, Option, Some, None}
use Rattle.basics.specs.Vr.{SQ, CS, DS, FL, OB, OW, SS, US}
use Rattle.value.specs.declared.Signed.{Signed}
use Rattle.value.specs.declared.Signed.TheVariants as signed
use Rattle.value.specs.Text.{ascii, value_of, is_single}
use Rattle.value.specs.Words.{is_word, is_function}
use Rattle.value.specs.Number.{us_values, ss_of, is_number, decimal_of}
use Rattle.shift.specs.declared.Shift.{Shift}
use Rattle.shift.specs.declared.Shift.TheVariants as shift
use Rattle.shift.specs.declared.Moves.{Moves}
use Rattle.shift.specs.Shift.{item_shift, frame_shift, moves_of}
use Rattle.node.specs.Nodes.{Node, node_at, root, inside}
use Rattle.node.specs.Find.{find, find_vr}
use Rattle.basics.specs.Tags
use Rattle.element.specs.Elements.{value_at, us_in, the_item, has_pairs, function_in}
use Rattle.element.specs.Frames.{frames_of, shared_item, frame_item, id_in, operation_is}
use Rattle.pixel.specs.declared.Geometry.{Geometry}
use Rattle.pixel.specs.Pixel.{samples_of, is_frame, sample_at, are_inside, blended_at}
use Rattle.window.specs.declared.Window.{Window}
use Rattle.window.specs.Window.{full_window, level_of, level_half, shaded}
use Rattle.steps.specs.Given.{need, check, then, collect}

-- A picture: whether it is masked, and its samples row by row.
pub record Picture : Type 0 where
  pub masked : Bool
  pub samples : List ℕ

-- ---- What the steps read

-- The size of a frame and of its cells, of whole bytes. Bits Stored may be any number: with 0 bits each cell is 0.
unfoldable pub geometry_of : List Node → Option Geometry
geometry_of ns =
    need (us_in ns Tags.Rows (root ns)) (λ r.
    need (us_in ns Tags.Columns (root ns)) (λ c.
    need (us_in ns Tags.BitsAllocated (root ns)) (λ a.
    need (us_in ns Tags.BitsStored (root ns)) (λ b.
    check (leb 8 a && eqb (a % 8) 0)
    (Some (record { rows = r; columns = c; width = a / 8; stored = b }))))))

-- The pixel bytes.
unfoldable pub pixels_of : List Node → Option (List ℕ)
pixels_of ns =
    need (find ns Tags.PixelData (root ns)) (λ p.
    check (eqb (node_at ns p).vr OW || eqb (node_at ns p).vr OB) (Some (value_at ns p)))

-- A frame's functional group of the tag, or that it has none: item f is opened, and the shared item if item f has none.
abbrev pub or_shared : List Node → ℕ → Option ℕ → Option (Option ℕ)
or_shared ns tag (Some g) = Some (Some g)
or_shared ns tag None = need (shared_item ns) (λ s. Some (find ns tag (inside ns s)))

unfoldable pub group_for : List Node → ℕ → ℕ → Option (Option ℕ)
group_for ns f tag = need (frame_item ns f) (λ i. or_shared ns tag (find ns tag (inside ns i)))

-- ---- Step 2. The first mask item whose range holds f (no range: all) applies, or none does.

unfoldable pub is_in_pairs : ℕ → List ℕ → Bool
is_in_pairs f [] = false
is_in_pairs f (a ∷ []) = false
is_in_pairs f (a ∷ b ∷ l) = (leb a f && leb f b) || is_in_pairs f l

abbrev pub range_has : List Node → ℕ → Option ℕ → Option Bool
range_has ns f None = Some true
range_has ns f (Some r) = check (has_pairs ns r) (Some (is_in_pairs f (us_values (value_at ns r))))

unfoldable pub range_holds : List Node → ℕ → ℕ → Option Bool
range_holds ns f j = range_has ns f (find ns Tags.ApplicableFrameRange (inside ns j))

unfoldable pub first_holding : List Node → ℕ → List ℕ → Option (Option ℕ)
first_holding ns f [] = Some None
first_holding ns f (j ∷ js) = then (range_holds ns f j) (λ h. cond h (Some (Some j)) (first_holding ns f js))

abbrev pub on_mask : List Node → ℕ → Option ℕ → Option (Option ℕ)
on_mask ns f None = Some None
on_mask ns f (Some m) = check (eqb (node_at ns m).vr SQ) (first_holding ns f (inside ns m))

unfoldable pub applying_to : List Node → ℕ → Option (Option ℕ)
applying_to ns f = on_mask ns f (find ns Tags.MaskSubtractionSequence (root ns))

-- ---- Step 3. AVG_SUB: the mask frames, at least one. TID: frame f - offset (absent: 1), or none outside 1..N.

unfoldable pub average_frames : List Node → ℕ → Option (List ℕ)
average_frames ns j =
    need (find_vr ns Tags.MaskFrameNumbers US (inside ns j)) (λ k.
    check (eqb (length (value_at ns k) % 2) 0 && leb 1 (length (us_values (value_at ns k)))) (Some (us_values (value_at ns k))))

abbrev pub offset_at : List Node → Option ℕ → Option Signed
offset_at ns None = Some (signed.Plus 1)
offset_at ns (Some k) = check (eqb (node_at ns k).vr SS) (ss_of (value_at ns k))

unfoldable pub offset_of : List Node → ℕ → Option Signed
offset_of ns j = offset_at ns (find ns Tags.TIDOffset (inside ns j))

-- f minus a signed offset; 0 stands for anything below 1.
abbrev pub less : ℕ → Signed → ℕ
less f (signed.Plus d) = f - d
less f (signed.Minus d) = f + d

unfoldable pub tid_frame : List Node → ℕ → ℕ → Option (Option ℕ)
tid_frame ns f j =
    then (offset_of ns j) (λ d.
    need (frames_of ns) (λ n. Some (cond (leb 1 (less f d) && leb (less f d) n) (Some (less f d)) None)))

-- ---- Step 4. The shift: none, the item's two numbers, or the frame's own two where its group names the item's ID.

-- The first item that names the ID, or that none does.
unfoldable pub naming : List Node → ℕ → List ℕ → Option (Option ℕ)
naming ns id [] = Some None
naming ns id (k ∷ ks) = need (id_in ns k) (λ x. cond (eqb x id) (Some (Some k)) (naming ns id ks))

abbrev pub own_in : List Node → ℕ → Option ℕ → Option (Option ℕ)
own_in ns j None = Some None
own_in ns j (Some g) =
    check (eqb (node_at ns g).vr SQ && leb 1 (length (inside ns g))) (need (id_in ns j) (λ id. naming ns id (inside ns g)))

-- The item's own two numbers.
abbrev pub item_shift_at : List Node → Option ℕ → Option Shift
item_shift_at ns None = Some shift.None
item_shift_at ns (Some k) = check (eqb (node_at ns k).vr FL && eqb (length (value_at ns k)) 8) (Some (item_shift (value_at ns k)))

-- The frame's own numbers win.
abbrev pub shift_from : List Node → ℕ → Option ℕ → Option Shift
shift_from ns j None = item_shift_at ns (find ns Tags.MaskSubPixelShift (inside ns j))
shift_from ns j (Some k) =
    need (find_vr ns Tags.MaskSubPixelShift FL (inside ns k)) (λ x.
    check (eqb (length (value_at ns x)) 8) (Some (frame_shift (value_at ns x))))

unfoldable pub shift_for : List Node → ℕ → ℕ → Option Shift
shift_for ns f j = then (group_for ns f Tags.FramePixelShiftSequence) (λ g. then (own_in ns j g) (shift_from ns j))

-- Both numbers are whole quarters.
unfoldable pub moves_for : List Node → ℕ → ℕ → Option Moves
moves_for ns f j =
    then (shift_for ns f j) (λ s.
    check (is_number (moves_of s).vertical && is_number (moves_of s).horizontal) (Some (moves_of s)))

-- ---- Steps 2 to 4 together: native, or masked by frames and moves

pub data Mask : Type 0 where
  native : Mask
  masked : List ℕ → Moves → Mask

abbrev pub on_tid : List Node → ℕ → ℕ → Option ℕ → Option Mask
on_tid ns f j None = Some native
on_tid ns f j (Some k) = then (moves_for ns f j) (λ m. Some (masked (k ∷ []) m))

unfoldable pub mask_by : List Node → ℕ → ℕ → Option Mask
mask_by ns f j =
    cond (operation_is ns (ascii "NONE") j) (Some native)
    (cond (operation_is ns (ascii "AVG_SUB") j) (then (average_frames ns j) (λ ks. then (moves_for ns f j) (λ m. Some (masked ks m))))
    (cond (operation_is ns (ascii "TID") j) (then (tid_frame ns f j) (on_tid ns f j))
    None))

abbrev pub mask_on : List Node → ℕ → Option ℕ → Option Mask
mask_on ns f None = Some native
mask_on ns f (Some j) = mask_by ns f j

unfoldable pub mask_for : List Node → ℕ → Option Mask
mask_for ns f = then (applying_to ns f) (mask_on ns f)

-- ---- Step 6. The first centre and width, and the function; without a VOI group the full window.

unfoldable pub window_in : List Node → List ℕ → Option Window
window_in ns is =
    need (find_vr ns Tags.WindowCenter DS is) (λ c.
    need (find_vr ns Tags.WindowWidth DS is) (λ w.
    check (is_number (decimal_of (value_of (value_at ns c) 0))
    && (is_number (decimal_of (value_of (value_at ns w) 0)) && is_function (function_in ns is)))
    (Some (record {
      center = decimal_of (value_of (value_at ns c) 0);
      width = decimal_of (value_of (value_at ns w) 0);
      function = function_in ns is;
    }))))

abbrev pub window_on : List Node → ℕ → Option ℕ → Option Window
window_on ns stored None = Some (full_window stored)
window_on ns stored (Some g) = need (the_item ns g) (λ j. window_in ns (inside ns j))

unfoldable pub window_for : List Node → ℕ → ℕ → Option Window
window_for ns f stored = then (group_for ns f Tags.FrameVOILUTSequence) (window_on ns stored)

-- ---- Step 7. MONOCHROME1 inverts; the word is single, and there is one.

unfoldable pub inverse_of : List Node → Option Bool
inverse_of ns =
    need (find_vr ns Tags.PhotometricInterpretation CS (root ns)) (λ i.
    check (leb 1 (length (value_at ns i)) && is_single (value_at ns i)) (Some (is_word (value_at ns i) (ascii "MONOCHROME1"))))

-- ---- The cells

-- Step 5: x = cell, or cell - mask + 2^(stored - 1) if masked, signed; then steps 6 and 7.
unfoldable pub native_cell : Geometry → List ℕ → ℕ → Window → Bool → ℕ → Option ℕ
native_cell g v f w inverse i = shaded inverse (level_of w (pos (sample_at g v f i)))

-- The mask cells' average divides by the number of mask frames, which is above 0; and the four mask cells lie inside the picture.
-- 2^(stored - 1) is 1/2 for 0 bits stored.
unfoldable pub masked_cell : Geometry → List ℕ → ℕ → List ℕ → Moves → Window → Bool → ℕ → Option ℕ
masked_cell g v f ks m w inverse i =
    cond (leb 1 (length ks) && are_inside g m i)
    (shaded inverse
    (cond (eqb g.stored 0)
    (level_half w (pos (sample_at g v f i) -ℤ pos (blended_at g v ks m i)))
    (level_of w (pos (sample_at g v f i) -ℤ pos (blended_at g v ks m i) +ℤ pos (2 ^ (g.stored - 1))))))
    None

-- Every one is a whole frame inside the pixel bytes.
unfoldable pub are_frames : Geometry → List ℕ → List ℕ → Bool
are_frames g v [] = true
are_frames g v (k ∷ ks) = is_frame g v k && are_frames g v ks

unfoldable pub picture_by : Geometry → List ℕ → ℕ → Window → Bool → Mask → Option Picture
picture_by g v f w inverse native =
    then (collect (native_cell g v f w inverse) (samples_of g)) (λ l. Some (record { masked = false; samples = l }))
picture_by g v f w inverse (masked ks m) =
    check (are_frames g v ks)
    (then (collect (masked_cell g v f ks m w inverse) (samples_of g)) (λ l. Some (record { masked = true; samples = l })))

-- Drawing frame f.
unfoldable pub steps_of : List Node → ℕ → Option Picture
steps_of ns f =
    then (geometry_of ns) (λ g.
    then (pixels_of ns) (λ v.
    check (is_frame g v f)
    (then (mask_for ns f) (λ m.
    then (window_for ns f g.stored) (λ w.
    then (inverse_of ns) (λ inverse.
    picture_by g v f w inverse m))))))
