-- Tags by their PS3.6 keywords, group × 65,536 + element.
use Rattle.std.specs.Prelude.{ℕ}

abbrev pub FileMetaInformationGroupLength : ℕ
FileMetaInformationGroupLength = 0x0002_0000

abbrev pub MediaStorageSOPClassUID : ℕ
MediaStorageSOPClassUID = 0x0002_0002

abbrev pub TransferSyntaxUID : ℕ
TransferSyntaxUID = 0x0002_0010

abbrev pub ImageType : ℕ
ImageType = 0x0008_0008

abbrev pub SOPClassUID : ℕ
SOPClassUID = 0x0008_0016

abbrev pub AcquisitionDateTime : ℕ
AcquisitionDateTime = 0x0008_002A

abbrev pub Modality : ℕ
Modality = 0x0008_0060

abbrev pub ReferencedOtherPlaneSequence : ℕ
ReferencedOtherPlaneSequence = 0x0008_9410

abbrev pub PatientName : ℕ
PatientName = 0x0010_0010

abbrev pub PatientID : ℕ
PatientID = 0x0010_0020

abbrev pub PatientBirthDate : ℕ
PatientBirthDate = 0x0010_0030

abbrev pub KVP : ℕ
KVP = 0x0018_0060

abbrev pub RadiationSetting : ℕ
RadiationSetting = 0x0018_1155

abbrev pub RadiationMode : ℕ
RadiationMode = 0x0018_115A

abbrev pub PositionerType : ℕ
PositionerType = 0x0018_1508

abbrev pub ContentQualification : ℕ
ContentQualification = 0x0018_9004

abbrev pub ExposureTimeInms : ℕ
ExposureTimeInms = 0x0018_9328

abbrev pub XRayTubeCurrentInmA : ℕ
XRayTubeCurrentInmA = 0x0018_9330

abbrev pub ExposureInmAs : ℕ
ExposureInmAs = 0x0018_9332

abbrev pub PlanesInAcquisition : ℕ
PlanesInAcquisition = 0x0018_9410

abbrev pub XAXRFFrameCharacteristicsSequence : ℕ
XAXRFFrameCharacteristicsSequence = 0x0018_9412

abbrev pub PlaneIdentification : ℕ
PlaneIdentification = 0x0018_9457

abbrev pub ImageComments : ℕ
ImageComments = 0x0020_4000

abbrev pub FrameContentSequence : ℕ
FrameContentSequence = 0x0020_9111

abbrev pub SamplesPerPixel : ℕ
SamplesPerPixel = 0x0028_0002

abbrev pub PhotometricInterpretation : ℕ
PhotometricInterpretation = 0x0028_0004

abbrev pub NumberOfFrames : ℕ
NumberOfFrames = 0x0028_0008

abbrev pub Rows : ℕ
Rows = 0x0028_0010

abbrev pub Columns : ℕ
Columns = 0x0028_0011

abbrev pub BitsAllocated : ℕ
BitsAllocated = 0x0028_0100

abbrev pub BitsStored : ℕ
BitsStored = 0x0028_0101

abbrev pub HighBit : ℕ
HighBit = 0x0028_0102

abbrev pub PixelRepresentation : ℕ
PixelRepresentation = 0x0028_0103

abbrev pub BurnedInAnnotation : ℕ
BurnedInAnnotation = 0x0028_0301

abbrev pub PixelIntensityRelationship : ℕ
PixelIntensityRelationship = 0x0028_1040

abbrev pub WindowCenter : ℕ
WindowCenter = 0x0028_1050

abbrev pub WindowWidth : ℕ
WindowWidth = 0x0028_1051

abbrev pub VOILUTFunction : ℕ
VOILUTFunction = 0x0028_1056

abbrev pub LossyImageCompression : ℕ
LossyImageCompression = 0x0028_2110

abbrev pub LossyImageCompressionRatio : ℕ
LossyImageCompressionRatio = 0x0028_2112

abbrev pub LossyImageCompressionMethod : ℕ
LossyImageCompressionMethod = 0x0028_2114

abbrev pub LUTDescriptor : ℕ
LUTDescriptor = 0x0028_3002

abbrev pub LUTData : ℕ
LUTData = 0x0028_3006

abbrev pub MaskSubtractionSequence : ℕ
MaskSubtractionSequence = 0x0028_6100

abbrev pub MaskOperation : ℕ
MaskOperation = 0x0028_6101

abbrev pub ApplicableFrameRange : ℕ
ApplicableFrameRange = 0x0028_6102

abbrev pub MaskFrameNumbers : ℕ
MaskFrameNumbers = 0x0028_6110

abbrev pub ContrastFrameAveraging : ℕ
ContrastFrameAveraging = 0x0028_6112

abbrev pub MaskSubPixelShift : ℕ
MaskSubPixelShift = 0x0028_6114

abbrev pub TIDOffset : ℕ
TIDOffset = 0x0028_6120

abbrev pub FrameVOILUTSequence : ℕ
FrameVOILUTSequence = 0x0028_9132

abbrev pub FramePixelShiftSequence : ℕ
FramePixelShiftSequence = 0x0028_9415

abbrev pub SubtractionItemID : ℕ
SubtractionItemID = 0x0028_9416

abbrev pub PixelIntensityRelationshipLUTSequence : ℕ
PixelIntensityRelationshipLUTSequence = 0x0028_9422

abbrev pub FramePixelDataPropertiesSequence : ℕ
FramePixelDataPropertiesSequence = 0x0028_9443

abbrev pub LUTFunction : ℕ
LUTFunction = 0x0028_9474

abbrev pub PresentationLUTShape : ℕ
PresentationLUTShape = 0x2050_0020

abbrev pub SharedFunctionalGroupsSequence : ℕ
SharedFunctionalGroupsSequence = 0x5200_9229

abbrev pub PerFrameFunctionalGroupsSequence : ℕ
PerFrameFunctionalGroupsSequence = 0x5200_9230

abbrev pub PixelData : ℕ
PixelData = 0x7FE0_0010

-- Item, Item Delimitation Item and Sequence Delimitation Item, and their group.
abbrev pub item_tag : ℕ
item_tag = 0xFFFE_E000

abbrev pub item_delimiter : ℕ
item_delimiter = 0xFFFE_E00D

abbrev pub sequence_delimiter : ℕ
sequence_delimiter = 0xFFFE_E0DD

abbrev pub item_group : ℕ
item_group = 0xFFFE
