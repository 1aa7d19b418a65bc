-- Rules 1 to 26 of document 01's rule list, each over the nodes of a data set. All but 25 and 26 concern elements of the root. A value
-- that is compared is single and has the VR named. What the paper calls a desk rule (D) is here a local rule.
use Rattle.std.specs.Prelude.{ℕ, ◌+◌, List, Bool, true, cond, not, ◌&&◌, ◌||◌, length, eqb, leb}
use Rattle.value.specs.Text.{ascii, values_of, is_single}
use Rattle.value.specs.Words.{word_at, is_word}
use Rattle.basics.specs.Limits.{last_frame}
use Rattle.basics.specs.Vr.{SQ, CS, DS, DT, FD}
use Rattle.node.specs.Nodes.{Node, root, inside}
use Rattle.node.specs.Find.{holds, absent, find, find_vr, has}
use Rattle.basics.specs.Tags
use Rattle.element.specs.Elements.{value_at, us_in, cs_is, ui_is, one_item}
use Rattle.element.specs.Frames.{frames_of, shared_item}

-- ---- Words of several rules

-- The root's CS is the word.
abbrev pub root_is : List Node → ℕ → List ℕ → Bool
root_is ns tag word = cs_is ns tag word (root ns)

-- The SOP class is Enhanced XA, or Enhanced XRF.
unfoldable pub is_xa : List Node → Bool
is_xa ns = ui_is ns Tags.SOPClassUID (ascii "1.2.840.10008.5.1.4.1.1.12.1.1") (root ns)

unfoldable pub is_xrf : List Node → Bool
is_xrf ns = ui_is ns Tags.SOPClassUID (ascii "1.2.840.10008.5.1.4.1.1.12.2.1") (root ns)

-- Value 1 of Image Type is the word.
unfoldable pub image_type_is : List Node → List ℕ → Bool
image_type_is ns word = holds (find_vr ns Tags.ImageType CS (root ns)) (λ i. word_at (value_at ns i) 0 word)

-- ---- The rules

-- Rule 1. SOP Class UID (0008,0016) UI is that of Enhanced XA or Enhanced XRF.
unfoldable pub rule1 : List Node → Bool
rule1 ns = is_xa ns || is_xrf ns

-- Rule 2. Modality (0008,0060) CS: XA, or RF for XRF.
unfoldable pub rule2 : List Node → Bool
rule2 ns = cond (is_xrf ns) (root_is ns Tags.Modality (ascii "RF")) (root_is ns Tags.Modality (ascii "XA"))

-- Rule 3. Image Type (0008,0008) CS: at least 4 values, first ORIGINAL, DERIVED or MIXED, fourth NONE.
unfoldable pub is_image_type : List ℕ → Bool
is_image_type v =
    leb 4 (length (values_of v))
    && ((word_at v 0 (ascii "ORIGINAL") || (word_at v 0 (ascii "DERIVED") || word_at v 0 (ascii "MIXED"))) && word_at v 3 (ascii "NONE"))

unfoldable pub rule3 : List Node → Bool
rule3 ns = holds (find_vr ns Tags.ImageType CS (root ns)) (λ i. is_image_type (value_at ns i))

-- Rule 4. Planes in Acquisition (0018,9410) CS: SINGLE PLANE, BIPLANE, UNDEFINED.
unfoldable pub planes_are : List Node → List ℕ → Bool
planes_are ns word = root_is ns Tags.PlanesInAcquisition word

unfoldable pub rule4 : List Node → Bool
rule4 ns = planes_are ns (ascii "SINGLE PLANE") || (planes_are ns (ascii "BIPLANE") || planes_are ns (ascii "UNDEFINED"))

-- Rule 5. UNDEFINED only if Image Type 1 is DERIVED.
unfoldable pub rule5 : List Node → Bool
rule5 ns = cond (planes_are ns (ascii "UNDEFINED")) (image_type_is ns (ascii "DERIVED")) true

-- Rule 6. Plane Identification (0018,9457) CS: absent if UNDEFINED, otherwise present and not empty.
unfoldable pub rule6 : List Node → Bool
rule6 ns =
    cond (planes_are ns (ascii "UNDEFINED"))
    (absent (find ns Tags.PlaneIdentification (root ns)))
    (has ns Tags.PlaneIdentification CS (root ns))

-- Rule 7. With BIPLANE it is not MONOPLANE; it is compared, so it is single.
unfoldable pub is_other_plane : List ℕ → Bool
is_other_plane v = is_single v && not (is_word v (ascii "MONOPLANE"))

unfoldable pub rule7 : List Node → Bool
rule7 ns =
    cond (planes_are ns (ascii "BIPLANE"))
    (holds (find_vr ns Tags.PlaneIdentification CS (root ns)) (λ i. is_other_plane (value_at ns i)))
    true

-- Rule 8. Has Acquisition DateTime (0008,002A) DT.
unfoldable pub rule8 : List Node → Bool
rule8 ns = has ns Tags.AcquisitionDateTime DT (root ns)

-- Rule 9. Samples per Pixel (0028,0002) US 1.
unfoldable pub rule9 : List Node → Bool
rule9 ns = holds (us_in ns Tags.SamplesPerPixel (root ns)) (λ n. eqb n 1)

-- Rule 10. Photometric Interpretation (0028,0004) CS: MONOCHROME1 or MONOCHROME2.
unfoldable pub photometric_is : List Node → List ℕ → Bool
photometric_is ns word = root_is ns Tags.PhotometricInterpretation word

unfoldable pub rule10 : List Node → Bool
rule10 ns = photometric_is ns (ascii "MONOCHROME1") || photometric_is ns (ascii "MONOCHROME2")

-- Rule 11. Rows (0028,0010), Columns (0028,0011) US at least 1.
unfoldable pub rule11 : List Node → Bool
rule11 ns = holds (us_in ns Tags.Rows (root ns)) (λ r. leb 1 r) && holds (us_in ns Tags.Columns (root ns)) (λ c. leb 1 c)

-- Rule 12. Bits Allocated (0028,0100), Bits Stored (0028,0101) US: 8 with 8, 16 with 9 to 16.
unfoldable pub bits_fit : ℕ → ℕ → Bool
bits_fit allocated stored = (eqb allocated 8 && eqb stored 8) || (eqb allocated 16 && (leb 9 stored && leb stored 16))

unfoldable pub rule12 : List Node → Bool
rule12 ns = holds (us_in ns Tags.BitsAllocated (root ns)) (λ a. holds (us_in ns Tags.BitsStored (root ns)) (λ s. bits_fit a s))

-- Rule 13. High Bit (0028,0102) US = stored - 1.
unfoldable pub rule13 : List Node → Bool
rule13 ns = holds (us_in ns Tags.HighBit (root ns)) (λ h. holds (us_in ns Tags.BitsStored (root ns)) (λ s. eqb (h + 1) s))

-- Rule 14. Pixel Representation (0028,0103) US 0.
unfoldable pub rule14 : List Node → Bool
rule14 ns = holds (us_in ns Tags.PixelRepresentation (root ns)) (λ n. eqb n 0)

-- Rule 15. Number of Frames (0028,0008) IS, 1 to 65,535 (local rule).
unfoldable pub rule15 : List Node → Bool
rule15 ns = holds (frames_of ns) (λ n. leb 1 n && leb n last_frame)

-- Rule 16. Content Qualification (0018,9004) CS: PRODUCT, RESEARCH, SERVICE.
unfoldable pub rule16 : List Node → Bool
rule16 ns =
    root_is ns Tags.ContentQualification (ascii "PRODUCT")
    || (root_is ns Tags.ContentQualification (ascii "RESEARCH") || root_is ns Tags.ContentQualification (ascii "SERVICE"))

-- Rule 17. Burned In Annotation (0028,0301) CS NO.
unfoldable pub rule17 : List Node → Bool
rule17 ns = root_is ns Tags.BurnedInAnnotation (ascii "NO")

-- Rule 18. Lossy Image Compression (0028,2110) CS 00 or 01.
unfoldable pub lossy_is : List Node → List ℕ → Bool
lossy_is ns word = root_is ns Tags.LossyImageCompression word

unfoldable pub rule18 : List Node → Bool
rule18 ns = lossy_is ns (ascii "00") || lossy_is ns (ascii "01")

-- Rule 19. Ratio (0028,2112) DS and Method (0028,2114) CS: both present and not empty at 01, both absent at 00.
unfoldable pub rule19 : List Node → Bool
rule19 ns =
    cond (lossy_is ns (ascii "01"))
    (has ns Tags.LossyImageCompressionRatio DS (root ns) && has ns Tags.LossyImageCompressionMethod CS (root ns))
    (absent (find ns Tags.LossyImageCompressionRatio (root ns)) && absent (find ns Tags.LossyImageCompressionMethod (root ns)))

-- Rule 20. Referenced Other Plane Sequence (0008,9410): one item with BIPLANE, else absent.
unfoldable pub rule20 : List Node → Bool
rule20 ns =
    cond (planes_are ns (ascii "BIPLANE"))
    (holds (find ns Tags.ReferencedOtherPlaneSequence (root ns)) (one_item ns))
    (absent (find ns Tags.ReferencedOtherPlaneSequence (root ns)))

-- Rule 21. Presentation LUT Shape (2050,0020) CS: IDENTITY with MONOCHROME2, INVERSE with MONOCHROME1.
unfoldable pub rule21 : List Node → Bool
rule21 ns =
    cond (photometric_is ns (ascii "MONOCHROME1"))
    (root_is ns Tags.PresentationLUTShape (ascii "INVERSE"))
    (root_is ns Tags.PresentationLUTShape (ascii "IDENTITY"))

-- Rule 22. If ORIGINAL: has KVP (0018,0060) DS and Radiation Mode (0018,115A) CS; Radiation Setting (0018,1155) CS is SC or GR.
unfoldable pub is_original : List Node → Bool
is_original ns = image_type_is ns (ascii "ORIGINAL")

unfoldable pub has_radiation : List Node → Bool
has_radiation ns =
    has ns Tags.KVP DS (root ns)
    && (has ns Tags.RadiationMode CS (root ns)
    && (root_is ns Tags.RadiationSetting (ascii "SC") || root_is ns Tags.RadiationSetting (ascii "GR")))

unfoldable pub rule22 : List Node → Bool
rule22 ns = cond (is_original ns) (has_radiation ns) true

-- Rule 23. If ORIGINAL: has Exposure in mAs (0018,9332) FD, or both (0018,9328) and (0018,9330) FD.
unfoldable pub has_exposure : List Node → Bool
has_exposure ns =
    has ns Tags.ExposureInmAs FD (root ns)
    || (has ns Tags.ExposureTimeInms FD (root ns) && has ns Tags.XRayTubeCurrentInmA FD (root ns))

unfoldable pub rule23 : List Node → Bool
rule23 ns = cond (is_original ns) (has_exposure ns) true

-- Rule 24. If ORIGINAL and XRF: Positioner Type (0018,1508) CS COLUMN.
unfoldable pub rule24 : List Node → Bool
rule24 ns = cond (is_original ns) (cond (is_xrf ns) (root_is ns Tags.PositionerType (ascii "COLUMN")) true) true

-- Rule 25. Shared groups (5200,9229): one item.
unfoldable pub rule25 : List Node → Bool
rule25 ns = holds (shared_item ns) (λ s. true)

-- Rule 26. Per-frame groups (5200,9230): N items.
unfoldable pub rule26 : List Node → Bool
rule26 ns =
    holds (find_vr ns Tags.PerFrameFunctionalGroupsSequence SQ (root ns)) (λ p.
    holds (frames_of ns) (λ n. eqb (length (inside ns p)) n))
