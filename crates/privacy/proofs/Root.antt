-- Rules 1 to 26 and 38 say the same of lists of nodes that are alike.
use Rattle.std.specs.Prelude.{Some}
use mathlib.Core.Path.{◌≡◌, refl, ap}
use Prim.Native.Nat.{ℕ}
use mathlib.Core.Bool.{Bool, cond}
use mathlib.Core.List.{List}
use Rattle.basics.specs.Vr.{SQ, CS, DS, DT, FD}
use Rattle.value.specs.Text.{ascii}
use Rattle.value.specs.Words.{word_at}
use Rattle.node.specs.Nodes.{Node, root}
use Rattle.node.specs.Find.{absent, find, find_vr}
use Rattle.basics.specs.Tags
use Rattle.element.specs.Elements.{us_in, one_item}
use Rattle.element.specs.Frames.{frames_of}
use Rattle.rules.specs.Root.{is_xa, is_xrf, image_type_is, is_image_type, planes_are, is_other_plane, photometric_is, lossy_is, is_original}
use Rattle.rules.specs.Root.{has_radiation, has_exposure, rule1, rule2, rule3, rule4, rule5, rule6, rule7, rule8, rule9, rule10, rule11}
use Rattle.rules.specs.Root.{rule12, rule13, rule14, rule15, rule16, rule17, rule18, rule19, rule20, rule21, rule22, rule23, rule24, rule25}
use Rattle.rules.specs.Root.{rule26}
use Rattle.rules.specs.Pixels.{is_pixel_data, rule38}
use Rattle.privacy.specs.Read.{is_read}
use Rattle.privacy.specs.Alike.{Alike}
use Rattle.privacy.proofs.Words.{holds_same, inside-same, find-root, find-tag, vr-root, is-cs-root, is-ui-root, us-root, has-root}
use Rattle.privacy.proofs.Words.{test-root, one_same, frames-same, shared_same}

module _ {ns ms : List Node} (a : Alike ns ms) where
  -- ---- Words of several rules

  xrf-same : is_xrf ns ≡ is_xrf ms
  unfolding is_xrf is_read
  xrf-same = is-ui-root a Tags.SOPClassUID refl (ascii "1.2.840.10008.5.1.4.1.1.12.2.1")

  xa-same : is_xa ns ≡ is_xa ms
  unfolding is_xa is_read
  xa-same = is-ui-root a Tags.SOPClassUID refl (ascii "1.2.840.10008.5.1.4.1.1.12.1.1")

  type-same : (word : List ℕ) → image_type_is ns word ≡ image_type_is ms word
  unfolding image_type_is is_read
  type-same word = test-root a Tags.ImageType refl CS (λ v. word_at v 0 word)

  planes-same : (word : List ℕ) → planes_are ns word ≡ planes_are ms word
  unfolding planes_are is_read
  planes-same word = is-cs-root a Tags.PlanesInAcquisition refl word

  photometric-same : (word : List ℕ) → photometric_is ns word ≡ photometric_is ms word
  unfolding photometric_is is_read
  photometric-same word = is-cs-root a Tags.PhotometricInterpretation refl word

  lossy-same : (word : List ℕ) → lossy_is ns word ≡ lossy_is ms word
  unfolding lossy_is is_read
  lossy-same word = is-cs-root a Tags.LossyImageCompression refl word

  original-same : is_original ns ≡ is_original ms
  unfolding is_original
  original-same = type-same (ascii "ORIGINAL")

  -- ---- The rules

  pub rule1-same : rule1 ns ≡ rule1 ms
  unfolding rule1
  rule1-same = rw (xa-same, xrf-same)

  pub rule2-same : rule2 ns ≡ rule2 ms
  unfolding rule2 is_read
  rule2-same = rw (xrf-same, is-cs-root a Tags.Modality refl (ascii "RF"), is-cs-root a Tags.Modality refl (ascii "XA"))

  pub rule3-same : rule3 ns ≡ rule3 ms
  unfolding rule3 is_read
  rule3-same = test-root a Tags.ImageType refl CS is_image_type

  pub rule4-same : rule4 ns ≡ rule4 ms
  unfolding rule4
  rule4-same = rw (planes-same (ascii "SINGLE PLANE"), planes-same (ascii "BIPLANE"), planes-same (ascii "UNDEFINED"))

  pub rule5-same : rule5 ns ≡ rule5 ms
  unfolding rule5
  rule5-same = rw (planes-same (ascii "UNDEFINED"), type-same (ascii "DERIVED"))

  pub rule6-same : rule6 ns ≡ rule6 ms
  unfolding rule6 is_read
  rule6-same = rw (planes-same (ascii "UNDEFINED"), find-root a Tags.PlaneIdentification, has-root a Tags.PlaneIdentification refl CS)

  pub rule7-same : rule7 ns ≡ rule7 ms
  unfolding rule7 is_read
  rule7-same = rw (planes-same (ascii "BIPLANE"), test-root a Tags.PlaneIdentification refl CS is_other_plane)

  pub rule8-same : rule8 ns ≡ rule8 ms
  unfolding rule8 is_read
  rule8-same = has-root a Tags.AcquisitionDateTime refl DT

  pub rule9-same : rule9 ns ≡ rule9 ms
  unfolding rule9 is_read
  rule9-same = rw (us-root a Tags.SamplesPerPixel refl)

  pub rule10-same : rule10 ns ≡ rule10 ms
  unfolding rule10
  rule10-same = rw (photometric-same (ascii "MONOCHROME1"), photometric-same (ascii "MONOCHROME2"))

  pub rule11-same : rule11 ns ≡ rule11 ms
  unfolding rule11 is_read
  rule11-same = rw (us-root a Tags.Rows refl, us-root a Tags.Columns refl)

  pub rule12-same : rule12 ns ≡ rule12 ms
  unfolding rule12 is_read
  rule12-same = rw (us-root a Tags.BitsAllocated refl, us-root a Tags.BitsStored refl)

  pub rule13-same : rule13 ns ≡ rule13 ms
  unfolding rule13 is_read
  rule13-same = rw (us-root a Tags.HighBit refl, us-root a Tags.BitsStored refl)

  pub rule14-same : rule14 ns ≡ rule14 ms
  unfolding rule14 is_read
  rule14-same = rw (us-root a Tags.PixelRepresentation refl)

  pub rule15-same : rule15 ns ≡ rule15 ms
  unfolding rule15
  rule15-same = rw (frames-same a)

  pub rule16-same : rule16 ns ≡ rule16 ms
  unfolding rule16 is_read
  rule16-same =
      rw (
        is-cs-root a Tags.ContentQualification refl (ascii "PRODUCT"),
        is-cs-root a Tags.ContentQualification refl (ascii "RESEARCH"),
        is-cs-root a Tags.ContentQualification refl (ascii "SERVICE"),
      )

  pub rule17-same : rule17 ns ≡ rule17 ms
  unfolding rule17 is_read
  rule17-same = is-cs-root a Tags.BurnedInAnnotation refl (ascii "NO")

  pub rule18-same : rule18 ns ≡ rule18 ms
  unfolding rule18
  rule18-same = rw (lossy-same (ascii "00"), lossy-same (ascii "01"))

  pub rule19-same : rule19 ns ≡ rule19 ms
  unfolding rule19 is_read
  rule19-same =
      rw (
        lossy-same (ascii "01"),
        has-root a Tags.LossyImageCompressionRatio refl DS,
        has-root a Tags.LossyImageCompressionMethod refl CS,
        find-root a Tags.LossyImageCompressionRatio,
        find-root a Tags.LossyImageCompressionMethod,
      )

  pub rule20-same : rule20 ns ≡ rule20 ms
  unfolding rule20
  rule20-same =
      rw (planes-same (ascii "BIPLANE"), find-root a Tags.ReferencedOtherPlaneSequence)
      (ap (λ (b : Bool). cond (planes_are ms (ascii "BIPLANE")) b (absent (find ms Tags.ReferencedOtherPlaneSequence (root ms))))
      (holds_same (find ms Tags.ReferencedOtherPlaneSequence (root ms)) (one_item ns) (one_item ms) (λ i _. one_same a i)))

  pub rule21-same : rule21 ns ≡ rule21 ms
  unfolding rule21 is_read
  rule21-same =
      rw (
        photometric-same (ascii "MONOCHROME1"),
        is-cs-root a Tags.PresentationLUTShape refl (ascii "INVERSE"),
        is-cs-root a Tags.PresentationLUTShape refl (ascii "IDENTITY"),
      )

  radiation-same : has_radiation ns ≡ has_radiation ms
  unfolding has_radiation is_read
  radiation-same =
      rw (
        has-root a Tags.KVP refl DS,
        has-root a Tags.RadiationMode refl CS,
        is-cs-root a Tags.RadiationSetting refl (ascii "SC"),
        is-cs-root a Tags.RadiationSetting refl (ascii "GR"),
      )

  pub rule22-same : rule22 ns ≡ rule22 ms
  unfolding rule22
  rule22-same = rw (original-same, radiation-same)

  exposure-same : has_exposure ns ≡ has_exposure ms
  unfolding has_exposure is_read
  exposure-same =
      rw (has-root a Tags.ExposureInmAs refl FD, has-root a Tags.ExposureTimeInms refl FD, has-root a Tags.XRayTubeCurrentInmA refl FD)

  pub rule23-same : rule23 ns ≡ rule23 ms
  unfolding rule23
  rule23-same = rw (original-same, exposure-same)

  pub rule24-same : rule24 ns ≡ rule24 ms
  unfolding rule24 is_read
  rule24-same = rw (original-same, xrf-same, is-cs-root a Tags.PositionerType refl (ascii "COLUMN"))

  pub rule25-same : rule25 ns ≡ rule25 ms
  unfolding rule25
  rule25-same = rw (shared_same a)

  pub rule26-same : rule26 ns ≡ rule26 ms
  unfolding rule26
  rule26-same =
      rw (vr-root a SQ Tags.PerFrameFunctionalGroupsSequence, frames-same a)
      (holds_same (find_vr ms Tags.PerFrameFunctionalGroupsSequence SQ (root ms)) _ _ (λ p _. rw (inside-same a p)))

  -- Of Pixel Data the length is read.
  pixel-data-same : (n r c b p : ℕ) → find ns Tags.PixelData (root ns) ≡ Some p → is_pixel_data ns n r c b p ≡ is_pixel_data ms n r c b p
  unfolding is_pixel_data
  pixel-data-same n r c b p e = rw (a.vr p, a.long p (find-tag a Tags.PixelData (root ns) p e))

  pub rule38-same : rule38 ns ≡ rule38 ms
  unfolding rule38 is_read
  rule38-same =
      rw (
        frames-same a,
        us-root a Tags.Rows refl,
        us-root a Tags.Columns refl,
        us-root a Tags.BitsAllocated refl,
        ← find-root a Tags.PixelData,
      )
      (holds_same (frames_of ms) _ _ (λ n _.
      holds_same (us_in ms Tags.Rows (root ms)) _ _ (λ r _.
      holds_same (us_in ms Tags.Columns (root ms)) _ _ (λ c _.
      holds_same (us_in ms Tags.BitsAllocated (root ms)) _ _ (λ b _.
      holds_same (find ns Tags.PixelData (root ns)) _ _ (λ p e. pixel-data-same n r c b p e))))))
