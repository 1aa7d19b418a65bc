-- The values that rules, drawing steps and the mapping read, by their tags.
use Rattle.std.specs.Prelude.{ℕ, Bool, List, [], ◌∷◌}
use Rattle.basics.specs.Tags
use Rattle.rules.specs.Frame.{is_in}

-- They count at every depth. The rules read the length of Pixel Data, drawing and mapping its bytes. A new rule or step that reads
-- another value needs that value's tag here.
abbrev pub read_tags : List ℕ
read_tags =
    Tags.ImageType
    ∷ Tags.SOPClassUID
    ∷ Tags.AcquisitionDateTime
    ∷ Tags.Modality
    ∷ Tags.KVP
    ∷ Tags.RadiationSetting
    ∷ Tags.RadiationMode
    ∷ Tags.PositionerType
    ∷ Tags.ContentQualification
    ∷ Tags.ExposureTimeInms
    ∷ Tags.XRayTubeCurrentInmA
    ∷ Tags.ExposureInmAs
    ∷ Tags.PlanesInAcquisition
    ∷ Tags.PlaneIdentification
    ∷ Tags.SamplesPerPixel
    ∷ Tags.PhotometricInterpretation
    ∷ Tags.NumberOfFrames
    ∷ Tags.Rows
    ∷ Tags.Columns
    ∷ Tags.BitsAllocated
    ∷ Tags.BitsStored
    ∷ Tags.HighBit
    ∷ Tags.PixelRepresentation
    ∷ Tags.BurnedInAnnotation
    ∷ Tags.PixelIntensityRelationship
    ∷ Tags.WindowCenter
    ∷ Tags.WindowWidth
    ∷ Tags.VOILUTFunction
    ∷ Tags.LossyImageCompression
    ∷ Tags.LossyImageCompressionRatio
    ∷ Tags.LossyImageCompressionMethod
    ∷ Tags.LUTDescriptor
    ∷ Tags.LUTData
    ∷ Tags.MaskOperation
    ∷ Tags.ApplicableFrameRange
    ∷ Tags.MaskFrameNumbers
    ∷ Tags.ContrastFrameAveraging
    ∷ Tags.MaskSubPixelShift
    ∷ Tags.TIDOffset
    ∷ Tags.SubtractionItemID
    ∷ Tags.LUTFunction
    ∷ Tags.PresentationLUTShape
    ∷ []

unfoldable pub is_read : ℕ → Bool
is_read tag = is_in tag read_tags
