-- The steps can lack something (document 01, "What a step needs"): one list of small data sets that read well and are not accepted, each
-- of which lacks one thing that a step needs. They have what the steps read and nothing else, so they break rule 1. The first two lines
-- lack nothing: they are drawn though they are not accepted, because no rule is built into the steps. The need "mask cells inside the
-- picture" is not among them, since a neighbour is limited to the edge and cannot lie outside. The claim is `steps-lack`, in
-- proofs/Lacking.antt; the prover computes every line.
use Rattle.std.specs.Prelude.{ℕ, Bool, true, false, List, [], ◌∷◌, ◌++◌, Option, Some, None}
use Prim.Native.String.{String}
use Rattle.basics.specs.Tags
use Rattle.node.specs.Nodes.{nodes_of}
use Rattle.conformance.specs.Judging.{judge_of, fields_of}
use Rattle.steps.specs.Steps.{Picture, masked_cell, steps_of}
use Rattle.value.specs.Text.{ascii}
use Rattle.window.specs.declared.Window.{Window}
use Rattle.samples.specs.Objects.{two, short, long, sequence, item, masked_by}
use Rattle.samples.specs.Samples.{many_rows, one_cell, unmoved}

-- What judging says about a data set, and what the steps give at a frame.
pub record Stepped : Type 0 where
  pub code : ℕ
  pub rule : ℕ
  pub picture : Option Picture

pub record Case : Type 0 where
  pub gives : Stepped
  pub says : Stepped

abbrev pub stepped : List ℕ → ℕ → Option Picture → Case
stepped bytes frame picture =
    record {
      gives = record {
        code = (fields_of (judge_of bytes many_rows)).code;
        rule = (fields_of (judge_of bytes many_rows)).rule;
        picture = steps_of (nodes_of bytes) frame;
      };
      says = record { code = 9; rule = 1; picture = picture };
    }

-- A data set that is drawn at a frame, native or masked, with these cells; and one that lacks something there.
abbrev pub draws : List ℕ → ℕ → Bool → List ℕ → Case
draws bytes frame masked cells = stepped bytes frame (Some (record { masked = masked; samples = cells }))

abbrev pub lacks : List ℕ → ℕ → Case
lacks bytes frame = stepped bytes frame None

-- ---- The parts of a data set, as they should be: two frames of one row and two cells of 8 bits

abbrev pub photometric : List ℕ
photometric = short Tags.PhotometricInterpretation "CS" (ascii "MONOCHROME2 ")

abbrev pub number_of_two : List ℕ
number_of_two = short Tags.NumberOfFrames "IS" (ascii "2 ")

abbrev pub height : List ℕ
height = short Tags.Rows "US" (two 1)

-- Columns, Bits Allocated, Bits Stored.
abbrev pub cells : ℕ → ℕ → List ℕ
cells columns allocated =
    short Tags.Columns "US" (two columns) ++ (short Tags.BitsAllocated "US" (two allocated) ++ short Tags.BitsStored "US" (two 8))

abbrev pub shared : List ℕ → List ℕ
shared groups = sequence Tags.SharedFunctionalGroupsSequence (item groups)

abbrev pub per_frame_groups : List ℕ
per_frame_groups = sequence Tags.PerFrameFunctionalGroupsSequence (item [] ++ item [])

abbrev pub pixels : List ℕ
pixels = long Tags.PixelData "OB" (10 ∷ 20 ∷ 30 ∷ 40 ∷ [])

-- With another start, or with another rest.
abbrev pub started : List ℕ → List ℕ
started start = start ++ (shared [] ++ (per_frame_groups ++ pixels))

abbrev pub ended : List ℕ → List ℕ
ended rest = photometric ++ (number_of_two ++ (height ++ (cells 2 8 ++ rest)))

-- With a mask item; and with functional groups in the shared item, masked by frame 1 or not.
abbrev pub with_mask : List ℕ → List ℕ
with_mask mask = ended (mask ++ (shared [] ++ (per_frame_groups ++ pixels)))

abbrev pub numbers : List ℕ → List ℕ
numbers value = short Tags.MaskFrameNumbers "US" value

abbrev pub mask_of_first : List ℕ
mask_of_first = numbers (two 1)

abbrev pub average : List ℕ → List ℕ
average elements = masked_by "AVG_SUB " elements

abbrev pub with_groups : List ℕ → List ℕ
with_groups groups = ended (shared groups ++ (per_frame_groups ++ pixels))

abbrev pub with_shifts : List ℕ → List ℕ → List ℕ
with_shifts mask groups = ended (mask ++ (shared groups ++ (per_frame_groups ++ pixels)))

-- Numbers of FL: 1, 0.3 and one that is not a number.
abbrev pub float_one : List ℕ
float_one = 0x00 ∷ 0x00 ∷ 0x80 ∷ 0x3F ∷ []

abbrev pub three_tenths : List ℕ
three_tenths = 0x9A ∷ 0x99 ∷ 0x99 ∷ 0x3E ∷ []

abbrev pub not_a_number : List ℕ
not_a_number = 0x00 ∷ 0x00 ∷ 0xC0 ∷ 0x7F ∷ []

abbrev pub item_shift_of : List ℕ → List ℕ
item_shift_of value = short Tags.MaskSubPixelShift "FL" value

-- Subtraction Item ID, and Frame Pixel Shift with items.
abbrev pub item_id : ℕ → List ℕ
item_id id = short Tags.SubtractionItemID "US" (two id)

abbrev pub frame_shifts : List ℕ → List ℕ
frame_shifts items = sequence Tags.FramePixelShiftSequence items

-- Frame VOI LUT with the elements of its one item.
abbrev pub voi_of : List ℕ → List ℕ
voi_of elements = sequence Tags.FrameVOILUTSequence (item elements)

abbrev pub center : String → List ℕ
center text = short Tags.WindowCenter "DS" (ascii text)

abbrev pub window_width : String → List ℕ
window_width text = short Tags.WindowWidth "DS" (ascii text)

-- ---- The cases

abbrev pub lacking : List Case
lacking =
    -- Nothing is lacking.
    draws (started (photometric ++ (number_of_two ++ (height ++ cells 2 8)))) 2 false (30 ∷ 40 ∷ [])
    ∷ draws (with_mask (average mask_of_first)) 2 true (148 ∷ 148 ∷ [])
    -- "whole frames of cells inside the pixel bytes": of the frame, and of a mask frame
    ∷ lacks (started (photometric ++ (number_of_two ++ (height ++ cells 3 8)))) 2
    ∷ lacks (with_groups []) 3
    ∷ lacks (with_groups []) 0
    ∷ lacks (with_mask (average (numbers (two 3)))) 2
    -- "the shared item or item f where it opens one"
    ∷ lacks (ended (per_frame_groups ++ pixels)) 2
    ∷ lacks (ended (sequence Tags.SharedFunctionalGroupsSequence [] ++ (per_frame_groups ++ pixels))) 2
    ∷ lacks (ended (shared [] ++ pixels)) 2
    ∷ lacks (ended (shared [] ++ (sequence Tags.PerFrameFunctionalGroupsSequence (item []) ++ pixels))) 2
    -- "the one item of a VOI group"
    ∷ lacks (with_groups (sequence Tags.FrameVOILUTSequence [])) 2
    ∷ lacks (with_groups (sequence Tags.FrameVOILUTSequence (item (center "40" ++ window_width "10") ++ item []))) 2
    -- "at least one of a Frame Pixel Shift"
    ∷ lacks (with_shifts (average (mask_of_first ++ item_id 7)) (frame_shifts [])) 2
    -- "values of the VR, count and form it reads": the cells' size,
    ∷ lacks (started (photometric ++ (number_of_two ++ cells 2 8))) 2
    ∷ lacks (started (photometric ++ (number_of_two ++ (short Tags.Rows "SS" (two 1) ++ cells 2 8)))) 2
    ∷ lacks (started (photometric ++ (number_of_two ++ (short Tags.Rows "US" (two 1 ++ two 1) ++ cells 2 8)))) 2
    ∷ lacks (started (photometric ++ (number_of_two ++ (height ++ cells 2 12)))) 2
    -- the pixel bytes and the word of step 7,
    ∷ lacks (ended (shared [] ++ per_frame_groups)) 2
    ∷ lacks (ended (shared [] ++ (per_frame_groups ++ long Tags.PixelData "UN" (10 ∷ 20 ∷ 30 ∷ 40 ∷ [])))) 2
    ∷ lacks (started (number_of_two ++ (height ++ cells 2 8))) 2
    ∷ lacks (started (short Tags.PhotometricInterpretation "LO" (ascii "MONOCHROME2 ") ++ (number_of_two ++ (height ++ cells 2 8)))) 2
    ∷ lacks (started (short Tags.PhotometricInterpretation "CS" (ascii "MONOCHROME\\X") ++ (number_of_two ++ (height ++ cells 2 8)))) 2
    -- the mask items, their ranges, operations, frames and offsets,
    ∷ lacks (with_mask (long Tags.MaskSubtractionSequence "UN" [])) 2
    ∷ lacks (with_mask (average (short Tags.ApplicableFrameRange "US" (two 1 ++ (two 2 ++ two 2)) ++ mask_of_first))) 2
    ∷ lacks (with_mask (masked_by "REV_TID " [])) 2
    ∷ lacks (with_mask (average [])) 2
    ∷ lacks (with_mask (average (short Tags.MaskFrameNumbers "SS" (two 1)))) 2
    ∷ lacks (with_mask (masked_by "TID " (short Tags.TIDOffset "SS" (two 1 ++ two 1)))) 2
    ∷ lacks (photometric ++ (height ++ (cells 2 8 ++ (masked_by "TID " [] ++ (shared [] ++ (per_frame_groups ++ pixels)))))) 2
    -- shifts of the item and of the frame,
    ∷ lacks (with_mask (average (mask_of_first ++ item_shift_of float_one))) 2
    ∷ lacks (with_mask (average (mask_of_first ++ item_shift_of (float_one ++ three_tenths)))) 2
    ∷ lacks (with_mask (average (mask_of_first ++ item_shift_of (float_one ++ not_a_number)))) 2
    ∷ lacks (with_shifts (average mask_of_first) (frame_shifts (item (item_shift_of (float_one ++ float_one) ++ item_id 7)))) 2
    ∷ lacks (with_shifts (average (mask_of_first ++ item_id 7)) (frame_shifts (item (item_shift_of (float_one ++ float_one))))) 2
    ∷ lacks (with_shifts (average (mask_of_first ++ item_id 7)) (frame_shifts (item (item_id 7)))) 2
    ∷ lacks (with_shifts (average (mask_of_first ++ item_id 7)) (frame_shifts (item (item_shift_of float_one ++ item_id 7)))) 2
    -- and the window.
    ∷ lacks (with_groups (voi_of (window_width "10"))) 2
    ∷ lacks (with_groups (voi_of (center "4X" ++ window_width "10"))) 2
    ∷ lacks (with_groups (voi_of (center "40"))) 2
    ∷ lacks (with_groups (voi_of (center "40" ++ (window_width "10" ++ short Tags.VOILUTFunction "CS" (ascii "SIGMOID "))))) 2
    -- "a divisor above 0 where it divides": the average of no frame
    ∷ lacks (with_mask (average (numbers []))) 2
    ∷ []

-- A cell lacks something if it would divide by 0, whatever was read before it: a masked cell of frame 2, in any window, with no mask
-- frame.
abbrev pub cell_of_no_frame : Window → Option ℕ
cell_of_no_frame w = masked_cell one_cell (90 ∷ 91 ∷ []) 2 [] unmoved w false 0
