-- Small data sets for the samples of drawing, built from elements in Explicit VR Little Endian. They have what the rules ask for and no
-- more, so they are accepted; the samples say so.
use Rattle.std.specs.Prelude.{ℕ, ◌/◌, ◌%◌, cond, List, [], ◌∷◌, ◌++◌, length, eqb}
use Prim.Native.String.{String}
use Rattle.basics.specs.Tags
use Rattle.basics.specs.Tags.{item_tag}
use Rattle.value.specs.Text.{ascii}

-- ---- Elements

-- Numbers of 16 and of 32 bits.
abbrev pub two : ℕ → List ℕ
two n = n % 256 ∷ n / 256 % 256 ∷ []

abbrev pub four : ℕ → List ℕ
four n = two n ++ two (n / 65536)

-- A tag: its group, then its element number.
abbrev pub tagged : ℕ → List ℕ → List ℕ
tagged tag more = two (tag / 65536) ++ (two tag ++ more)

-- An element with a 16-bit length.
abbrev pub short : ℕ → String → List ℕ → List ℕ
short tag vr value = tagged tag (ascii vr ++ (two (length value) ++ value))

-- An element with a 32-bit length.
abbrev pub long : ℕ → String → List ℕ → List ℕ
long tag vr value = tagged tag (ascii vr ++ (two 0 ++ (four (length value) ++ value)))

-- A sequence of items, and an item of elements, of defined lengths.
abbrev pub sequence : ℕ → List ℕ → List ℕ
sequence tag items = long tag "SQ" items

abbrev pub item : List ℕ → List ℕ
item elements = tagged item_tag (four (length elements) ++ elements)

-- ---- Masks

-- No Mask Subtraction Sequence, or one with one item, that has no range and no shift.
abbrev pub unmasked : List ℕ
unmasked = []

abbrev pub masked_by : String → List ℕ → List ℕ
masked_by operation elements = sequence Tags.MaskSubtractionSequence (item (short Tags.MaskOperation "CS" (ascii operation) ++ elements))

-- TID, its offset absent, or two bytes in two's complement.
abbrev pub tid_absent : List ℕ
tid_absent = masked_by "TID " []

abbrev pub tid : List ℕ → List ℕ
tid offset = masked_by "TID " (short Tags.TIDOffset "SS" offset)

-- AVG_SUB, with the Mask Frame Numbers 1 and 2.
abbrev pub average_of_two : List ℕ
average_of_two = masked_by "AVG_SUB " (short Tags.MaskFrameNumbers "US" (two 1 ++ two 2))

-- ---- Windows

-- No Frame VOI LUT in the shared item, or one with a centre and a width.
abbrev pub no_window : List ℕ
no_window = []

abbrev pub voi : String → String → List ℕ
voi center width =
    sequence Tags.FrameVOILUTSequence (item (short Tags.WindowCenter "DS" (ascii center) ++ short Tags.WindowWidth "DS" (ascii width)))

abbrev pub exact_voi : String → String → List ℕ
exact_voi center width =
    sequence Tags.FrameVOILUTSequence
    (item (short Tags.WindowCenter "DS" (ascii center)
    ++ (short Tags.WindowWidth "DS" (ascii width) ++ short Tags.VOILUTFunction "CS" (ascii "LINEAR_EXACT"))))

-- ---- Data sets

-- With one more byte if their number is odd.
abbrev pub even_padded : List ℕ → List ℕ
even_padded value = cond (eqb (length value % 2) 1) (value ++ (0 ∷ [])) value

-- An item with an empty Frame Content.
abbrev pub item_of_frame : List ℕ
item_of_frame = item (sequence Tags.FrameContentSequence (item []))

-- Frames of one row, of 8 bits.
abbrev pub frames : String → String → ℕ → String → List ℕ → List ℕ → List ℕ → List ℕ → List ℕ
frames photometric shape columns number mask window items pixels =
    short Tags.ImageType "CS" (even_padded (ascii "DERIVED\\PRIMARY\\X\\NONE"))
    ++ (short Tags.SOPClassUID "UI" (even_padded (ascii "1.2.840.10008.5.1.4.1.1.12.1.1"))
    ++ (short Tags.AcquisitionDateTime "DT" (ascii "20240101")
    ++ (short Tags.Modality "CS" (ascii "XA")
    ++ (short Tags.ContentQualification "CS" (ascii "PRODUCT ")
    ++ (short Tags.PlanesInAcquisition "CS" (ascii "UNDEFINED ")
    ++ (short Tags.SamplesPerPixel "US" (two 1)
    ++ (short Tags.PhotometricInterpretation "CS" (ascii photometric)
    ++ (short Tags.NumberOfFrames "IS" (ascii number)
    ++ (short Tags.Rows "US" (two 1)
    ++ (short Tags.Columns "US" (two columns)
    ++ (short Tags.BitsAllocated "US" (two 8)
    ++ (short Tags.BitsStored "US" (two 8)
    ++ (short Tags.HighBit "US" (two 7)
    ++ (short Tags.PixelRepresentation "US" (two 0)
    ++ (short Tags.BurnedInAnnotation "CS" (ascii "NO")
    ++ (short Tags.LossyImageCompression "CS" (ascii "00")
    ++ (mask
    ++ (short Tags.PresentationLUTShape "CS" (ascii shape)
    ++ (sequence Tags.SharedFunctionalGroupsSequence (item window)
    ++ (sequence Tags.PerFrameFunctionalGroupsSequence items
    ++ long Tags.PixelData "OB" (even_padded pixels)))))))))))))))))))))

-- Three frames of one cell, with a mask.
abbrev pub three_frames : List ℕ → ℕ → ℕ → ℕ → List ℕ
three_frames mask a b c =
    frames "MONOCHROME2 " "IDENTITY" 1 "3 " mask no_window (item_of_frame ++ (item_of_frame ++ item_of_frame)) (a ∷ b ∷ c ∷ [])

-- One frame of some cells, with a window.
abbrev pub one_frame : String → String → List ℕ → List ℕ → List ℕ
one_frame photometric shape window cells = frames photometric shape (length cells) "1 " unmasked window item_of_frame cells
