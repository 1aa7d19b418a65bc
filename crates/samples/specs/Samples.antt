-- Document 01's "Sample drawer": its starred cases, in its order and with its numbers, as one list.
--
-- How to read it. A line of the list `samples`, at the end of this file, is one sample, under its sentence of the paper: the input, then
-- the numbers that must come out. The first word of a line is its kind. A kind is defined once, above the list, by two fields: `gives` is
-- what the definitions of this library give for the input, and `says` is what the line says. The definitions are those that the calls
-- follow: `reading_of` for reading, `judge_of` for judging, `level_of` for the window, `mask_at`, `masked_cell` and `mask_for` for masks, and
-- `show_of` with `image_of` for a whole picture, which is judged and drawn by all steps. The claim that both fields are equal in every line
-- is `starred`, in proofs/Starred.antt; the prover computes every line.
--
-- The fields of an answer are written as in `Fields` of `Rattle.basics`: `counted` rows; `placed`, a code and its offset; `broken`, rows,
-- rule and frame.
--
-- Numbers that the paper leaves open are worked out by hand: the fields of a row, how many rows a whole data set has, and the cells of
-- its picture that the paper does not name. A 9 in a buffer is a number that was not touched.
use Rattle.std.specs.Prelude.{ℕ, ◌*◌, Bool, true, false, List, [], ◌∷◌, ◌++◌, pos, take, replicate, Option, Some}
use Rattle.dataset.specs.Reading.{reading_of}
use Rattle.basics.specs.Fields.{Fields, placed, counted, drawn, broken}
use Rattle.dataset.specs.Answer.{answer_of, buffer_of}
use Rattle.dataset.specs.Answer as read
use Rattle.value.specs.declared.Signed.TheVariants.{Plus}
use Rattle.value.specs.declared.Function.TheVariants.{Linear}
use Rattle.value.specs.Number.{unit}
use Rattle.node.specs.Nodes.{nodes_of}
use Rattle.conformance.specs.Judging.{judge_of}
use Rattle.conformance.specs.Judging as judged
use Rattle.shift.specs.declared.Moves.{Moves}
use Rattle.window.specs.declared.Window.{Window}
use Rattle.window.specs.Window.{level_of, full_window, shaded}
use Rattle.pixel.specs.declared.Geometry.{Geometry}
use Rattle.pixel.specs.Pixel.{mask_at}
use Rattle.steps.specs.Steps.{Mask, native, masked, masked_cell, mask_for}
use Rattle.display.specs.Show.{show_of, image_of}
use Rattle.display.specs.Show as shown
use Rattle.samples.specs.Objects.{two, three_frames, one_frame, tid, tid_absent, average_of_two, no_window, voi, exact_voi}

-- ---- What comes out

-- A picture that is shown with so many rows, native (0) or masked (1).
abbrev pub shown_native : ℕ → Fields
shown_native rows = drawn rows 0

abbrev pub shown_masked : ℕ → Fields
shown_masked rows = drawn rows 1

pub data Outcome : Type 0 where
  -- the fields of an answer, and a buffer afterwards: the rows, or the image
  Answer : Fields → List ℕ → Outcome
  -- a grey level
  Level : Option ℕ → Outcome
  -- a mask cell
  MaskCell : ℕ → Outcome
  -- for each window, a grey level
  Levels : (Window → Option ℕ) → Outcome
  -- what masks a frame
  MaskedBy : Option Mask → Outcome

pub record Sample : Type 0 where
  pub gives : Outcome
  pub says : Outcome

-- ---- What is put in

-- A buffer of eight numbers: room for one row, or a small picture, and more.
abbrev pub lent : List ℕ
lent = 9 ∷ 9 ∷ 9 ∷ 9 ∷ 9 ∷ 9 ∷ 9 ∷ 9 ∷ []

-- A row buffer for the data sets that are shown.
abbrev pub many_rows : List ℕ
many_rows = replicate 300 9

-- Rows (0028,0010), US, of two bytes; and with length 3.
abbrev pub rows_element : List ℕ
rows_element = 0x28 ∷ 0x00 ∷ 0x10 ∷ 0x00 ∷ 0x55 ∷ 0x53 ∷ 0x02 ∷ 0x00 ∷ 0x02 ∷ 0x00 ∷ []

abbrev pub odd_element : List ℕ
odd_element = 0x28 ∷ 0x00 ∷ 0x10 ∷ 0x00 ∷ 0x55 ∷ 0x53 ∷ 0x03 ∷ 0x00 ∷ 0x02 ∷ 0x00 ∷ []

-- An empty sequence of undefined length, ended by its delimiter.
abbrev pub empty_sequence : List ℕ
empty_sequence =
    (0x00 ∷ 0x52 ∷ 0x29 ∷ 0x92 ∷ 0x53 ∷ 0x51 ∷ 0x00 ∷ 0x00 ∷ [])
    ++ ((0xFF ∷ 0xFF ∷ 0xFF ∷ 0xFF ∷ [])
    ++ (0xFE ∷ 0xFF ∷ 0xDD ∷ 0xE0 ∷ 0x00 ∷ 0x00 ∷ 0x00 ∷ 0x00 ∷ []))

-- Cells for a window of width 10.
abbrev pub width_ten : List ℕ
width_ten = 35 ∷ 36 ∷ 40 ∷ 44 ∷ 45 ∷ []

-- -1 in 16 bits.
abbrev pub minus_one : List ℕ
minus_one = 0xFF ∷ 0xFF ∷ []

-- A centre and a width, whole numbers.
abbrev pub window : ℕ → ℕ → Window
window center width = record { center = Some (Plus (unit * center)); width = Some (Plus (unit * width)); function = Some Linear }

abbrev pub monochrome1 : Bool
monochrome1 = true

abbrev pub monochrome2 : Bool
monochrome2 = false

-- A frame of one cell of 8 bits, in one byte.
abbrev pub one_cell : Geometry
one_cell = record { rows = 1; columns = 1; width = 1; stored = 8 }

abbrev pub unmoved : Moves
unmoved = record { vertical = Some (Plus 0); horizontal = Some (Plus 0) }

-- ---- The kinds of samples

-- Bytes that are read with a row buffer: the answer, and the buffer afterwards.
abbrev pub reads : List ℕ → List ℕ → Fields → List ℕ → Sample
reads bytes buffer fields after =
    record {
      gives = Answer (read.fields_of (answer_of (reading_of bytes) buffer)) (buffer_of (reading_of bytes) buffer);
      says = Answer fields after;
    }

-- Bytes that are judged with a row buffer: the same.
abbrev pub judges : List ℕ → List ℕ → Fields → List ℕ → Sample
judges bytes buffer fields after =
    record {
      gives = Answer (judged.fields_of (judge_of bytes buffer)) (buffer_of (reading_of bytes) buffer);
      says = Answer fields after;
    }

-- A number x under a window, and whether it is MONOCHROME1: the grey level y.
abbrev pub levels : Bool → Window → ℕ → ℕ → Sample
levels inverse window x y = record { gives = Level (shaded inverse (level_of window (pos x))); says = Level (Some y) }

-- Frames of one cell of 8 bits, and which of them are mask frames: the mask cell.
abbrev pub averages : List ℕ → List ℕ → ℕ → Sample
averages cells masks mask = record { gives = MaskCell (mask_at one_cell cells masks 0); says = MaskCell mask }

-- The same, and a frame that they mask: x. Under every window the masked cell has the level of x.
abbrev pub subtracts : List ℕ → List ℕ → ℕ → ℕ → Sample
subtracts cells masks frame x =
    record {
      gives = Levels (λ w. masked_cell one_cell cells frame masks unmoved w false 0);
      says = Levels (λ w. shaded false (level_of w (pos x)));
    }

-- A data set and a frame: what masks it.
abbrev pub takes : List ℕ → ℕ → Mask → Sample
takes bytes frame mask = record { gives = MaskedBy (mask_for (nodes_of bytes) frame); says = MaskedBy (Some mask) }

-- A data set that is shown at a frame, with room for its rows and an image buffer: the answer, and the image buffer afterwards.
abbrev pub shows : List ℕ → ℕ → List ℕ → Fields → List ℕ → Sample
shows bytes frame image fields after =
    record {
      gives = Answer (shown.fields_of (show_of bytes frame many_rows image)) (image_of bytes frame many_rows image);
      says = Answer fields after;
    }

-- ---- The samples

-- Reading and windows.
abbrev pub window_samples : List Sample
window_samples =
    -- "No bytes: 0 rows; judged: 9, rule 1, frame 0."
    reads [] lent (counted 0) lent
    ∷ judges [] [] (broken 0 1 0) []
    -- "7 bytes: 1, place 0."
    ∷ reads (0 ∷ 0 ∷ 0 ∷ 0 ∷ 0 ∷ 0 ∷ 0 ∷ []) lent (placed 1 0) lent
    ∷ reads (take 7 rows_element) lent (placed 1 0) lent
    -- "28 00 10 00 55 53 02 00 02 00: one row. The same twice: 2, place 10."
    ∷ reads rows_element lent (counted 1) (0x00280010 ∷ 0x5553 ∷ 0 ∷ 8 ∷ 2 ∷ 0 ∷ 0 ∷ 9 ∷ [])
    ∷ reads (rows_element ++ rows_element) lent (placed 2 10) lent
    -- "Length 03 00 instead: 4. FE FF 00 E0 00 00 00 00 at root: 5."
    ∷ reads odd_element lent (placed 4 0) lent
    ∷ reads (0xFE ∷ 0xFF ∷ 0x00 ∷ 0xE0 ∷ 0x00 ∷ 0x00 ∷ 0x00 ∷ 0x00 ∷ []) lent (placed 5 0) lent
    -- "00 52 29 92 53 51 00 00, FF FF FF FF, FE FF DD E0 00 00 00 00: one row, length 0."
    ∷ reads empty_sequence lent (counted 1) (0x52009229 ∷ 0x5351 ∷ 0 ∷ 12 ∷ 0 ∷ 0 ∷ 0 ∷ 9 ∷ [])
    -- "Width 1, centre 50: 49 gives 0, 50 gives 255."
    ∷ levels monochrome2 (window 50 1) 49 0
    ∷ levels monochrome2 (window 50 1) 50 255
    ∷ shows (one_frame "MONOCHROME2 " "IDENTITY" (voi "50" "1 ") (49 ∷ 50 ∷ [])) 1 lent (shown_native 29)
    (0 ∷ 255 ∷ 9 ∷ 9 ∷ 9 ∷ 9 ∷ 9 ∷ 9 ∷ [])
    -- "Width 10, centre 40: 35, 36, 40, 44, 45 give 0, 28, 142, 255, 255; MONOCHROME1 makes 142 into 113."
    ∷ levels monochrome2 (window 40 10) 35 0
    ∷ levels monochrome2 (window 40 10) 36 28
    ∷ levels monochrome2 (window 40 10) 40 142
    ∷ levels monochrome2 (window 40 10) 44 255
    ∷ levels monochrome2 (window 40 10) 45 255
    ∷ levels monochrome1 (window 40 10) 40 113
    ∷ shows (one_frame "MONOCHROME2 " "IDENTITY" (voi "40" "10") width_ten) 1 lent (shown_native 29)
    (0 ∷ 28 ∷ 142 ∷ 255 ∷ 255 ∷ 9 ∷ 9 ∷ 9 ∷ [])
    ∷ shows (one_frame "MONOCHROME1 " "INVERSE " (voi "40" "10") width_ten) 1 lent (shown_native 29) (255 ∷ 227 ∷ 113 ∷ 0 ∷ 0 ∷ 9 ∷ 9 ∷ 9 ∷ [])
    -- "8 bits, no VOI: 0, 128, 255 stay."
    ∷ levels monochrome2 (full_window 8) 0 0
    ∷ levels monochrome2 (full_window 8) 128 128
    ∷ levels monochrome2 (full_window 8) 255 255
    ∷ shows (one_frame "MONOCHROME2 " "IDENTITY" no_window (0 ∷ 128 ∷ 255 ∷ [])) 1 lent (shown_native 25)
    (0 ∷ 128 ∷ 255 ∷ 9 ∷ 9 ∷ 9 ∷ 9 ∷ 9 ∷ [])
    ∷ []

-- Masks.
abbrev pub mask_samples : List Sample
mask_samples =
    -- "Masks 90 and 91: 91; contrast 100, 8 bits: x = 137."
    averages (90 ∷ 91 ∷ 100 ∷ []) (1 ∷ 2 ∷ []) 91
    ∷ subtracts (90 ∷ 91 ∷ 100 ∷ []) (1 ∷ 2 ∷ []) 3 137
    ∷ takes (three_frames average_of_two 90 91 100) 3 (masked (1 ∷ 2 ∷ []) unmoved)
    ∷ shows (three_frames average_of_two 90 91 100) 3 lent (shown_masked 35) (137 ∷ 9 ∷ 9 ∷ 9 ∷ 9 ∷ 9 ∷ 9 ∷ 9 ∷ [])
    -- "TID 1: frame 1 native, frame 2 takes 1."
    ∷ takes (three_frames (tid (two 1)) 10 30 60) 1 native
    ∷ takes (three_frames (tid (two 1)) 10 30 60) 2 (masked (1 ∷ []) unmoved)
    ∷ shows (three_frames (tid (two 1)) 10 30 60) 1 lent (shown_native 35) (10 ∷ 9 ∷ 9 ∷ 9 ∷ 9 ∷ 9 ∷ 9 ∷ 9 ∷ [])
    ∷ shows (three_frames (tid (two 1)) 10 30 60) 2 lent (shown_masked 35) (148 ∷ 9 ∷ 9 ∷ 9 ∷ 9 ∷ 9 ∷ 9 ∷ 9 ∷ [])
    ∷ takes (three_frames tid_absent 10 30 60) 1 native
    ∷ takes (three_frames tid_absent 10 30 60) 2 (masked (1 ∷ []) unmoved)
    -- "TID -1, N 3: frame 3 native."
    ∷ takes (three_frames (tid minus_one) 10 30 60) 3 native
    ∷ takes (three_frames (tid minus_one) 10 30 60) 2 (masked (3 ∷ []) unmoved)
    ∷ shows (three_frames (tid minus_one) 10 30 60) 3 lent (shown_native 35) (60 ∷ 9 ∷ 9 ∷ 9 ∷ 9 ∷ 9 ∷ 9 ∷ 9 ∷ [])
    ∷ []

abbrev pub samples : List Sample
samples = window_samples ++ mask_samples

-- Our own cases for later requests.
abbrev pub later : List Sample
later =
    -- Q-2: the window of centre 40 and width 10, its numbers written with exponents.
    shows (one_frame "MONOCHROME2 " "IDENTITY" (voi "4E1 " "100.0e-1") width_ten) 1 lent (shown_native 29)
    (0 ∷ 28 ∷ 142 ∷ 255 ∷ 255 ∷ 9 ∷ 9 ∷ 9 ∷ [])
    -- Q-3: that window with LINEAR_EXACT, at 36 floor((255 · 2 + 10) / 20).
    ∷ shows (one_frame "MONOCHROME2 " "IDENTITY" (exact_voi "40" "10") width_ten) 1 lent (shown_native 30)
    (0 ∷ 26 ∷ 128 ∷ 230 ∷ 255 ∷ 9 ∷ 9 ∷ 9 ∷ [])
    ∷ []
