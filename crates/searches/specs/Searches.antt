-- The searches that judging is said to make (document 02, Q-11), as three tables, and the sum of what they look at. Each
-- search is made once for each rule, whatever the rule's conditions. docs/SEARCHES.md shows the tables.
use Rattle.std.specs.Prelude.{ℕ, ◌+◌, List, [], ◌∷◌, Bool, true, false, cond, ◌||◌, length, Option, Some, None}
use Rattle.node.specs.Nodes.{Node, root, inside}
use Rattle.node.specs.Find.{absent, find}
use Rattle.basics.specs.Tags
use Rattle.element.specs.Elements.{inside_of}
use Rattle.element.specs.Frames.{shared_item, frame_items, group_of, mask_items}
use Rattle.searches.specs.Count.{looked_at}

-- ---- The tables

-- A rule looks for a tag.
pub record Search : Type 0 where
  pub rule : ℕ
  pub tag : ℕ

abbrev pub looks : ℕ → ℕ → Search
looks rule tag = record { rule = rule; tag = tag }

-- In the root: each tag whose number rules 1 to 26, 31 and 38 give.
unfoldable pub root_searches : List Search
root_searches =
    looks 1 Tags.SOPClassUID
    ∷ looks 2 Tags.Modality
    ∷ looks 3 Tags.ImageType
    ∷ looks 4 Tags.PlanesInAcquisition
    ∷ looks 6 Tags.PlaneIdentification
    ∷ looks 8 Tags.AcquisitionDateTime
    ∷ looks 9 Tags.SamplesPerPixel
    ∷ looks 10 Tags.PhotometricInterpretation
    ∷ looks 11 Tags.Rows
    ∷ looks 11 Tags.Columns
    ∷ looks 12 Tags.BitsAllocated
    ∷ looks 12 Tags.BitsStored
    ∷ looks 13 Tags.HighBit
    ∷ looks 14 Tags.PixelRepresentation
    ∷ looks 15 Tags.NumberOfFrames
    ∷ looks 16 Tags.ContentQualification
    ∷ looks 17 Tags.BurnedInAnnotation
    ∷ looks 18 Tags.LossyImageCompression
    ∷ looks 19 Tags.LossyImageCompressionRatio
    ∷ looks 19 Tags.LossyImageCompressionMethod
    ∷ looks 20 Tags.ReferencedOtherPlaneSequence
    ∷ looks 21 Tags.PresentationLUTShape
    ∷ looks 22 Tags.KVP
    ∷ looks 22 Tags.RadiationMode
    ∷ looks 22 Tags.RadiationSetting
    ∷ looks 23 Tags.ExposureInmAs
    ∷ looks 23 Tags.ExposureTimeInms
    ∷ looks 23 Tags.XRayTubeCurrentInmA
    ∷ looks 24 Tags.PositionerType
    ∷ looks 25 Tags.SharedFunctionalGroupsSequence
    ∷ looks 26 Tags.PerFrameFunctionalGroupsSequence
    ∷ looks 31 Tags.MaskSubtractionSequence
    ∷ looks 38 Tags.PixelData
    ∷ []

-- In each mask item: (0028,6101), and each tag whose number rules 32 to 36 give, except (0028,9415).
unfoldable pub mask_searches : List Search
mask_searches =
    looks 31 Tags.MaskOperation
    ∷ looks 32 Tags.ApplicableFrameRange
    ∷ looks 33 Tags.MaskFrameNumbers
    ∷ looks 33 Tags.ContrastFrameAveraging
    ∷ looks 34 Tags.TIDOffset
    ∷ looks 35 Tags.MaskSubPixelShift
    ∷ looks 36 Tags.SubtractionItemID
    ∷ []

-- For each frame a rule looks for a functional group in item f and, if it is not there, in the shared item, or always in both; and in
-- each item of the frame's group for the tags that it reads there.
pub record GroupSearch : Type 0 where
  pub rule : ℕ
  pub group : ℕ
  pub always : Bool
  pub reads : List ℕ

abbrev pub looks_for : ℕ → ℕ → Bool → List ℕ → GroupSearch
looks_for rule group always reads = record { rule = rule; group = group; always = always; reads = reads }

unfoldable pub frame_searches : List GroupSearch
frame_searches =
    looks_for 28 Tags.FrameContentSequence true []
    ∷ looks_for 29 Tags.XAXRFFrameCharacteristicsSequence false []
    ∷ looks_for 30 Tags.FrameVOILUTSequence false (Tags.WindowCenter ∷ Tags.WindowWidth ∷ Tags.VOILUTFunction ∷ [])
    ∷ looks_for 36 Tags.FramePixelShiftSequence false []
    ∷ looks_for 37 Tags.FramePixelShiftSequence false (Tags.SubtractionItemID ∷ Tags.MaskSubPixelShift ∷ [])
    ∷ looks_for 39 Tags.FramePixelDataPropertiesSequence false (Tags.PixelIntensityRelationship ∷ [])
    ∷ looks_for 39 Tags.PixelIntensityRelationshipLUTSequence false (Tags.LUTFunction ∷ Tags.LUTDescriptor ∷ Tags.LUTData ∷ [])
    ∷ []

-- ---- The sum

-- All of a table's searches among the members.
unfoldable pub searched_among : List Node → List Search → List ℕ → ℕ
searched_among ns [] is = 0
searched_among ns (s ∷ ss) is = looked_at ns s.tag is + searched_among ns ss is

unfoldable pub mask_sum : List Node → List ℕ → ℕ
mask_sum ns [] = 0
mask_sum ns (j ∷ js) = searched_among ns mask_searches (inside ns j) + mask_sum ns js

-- What a rule reads in one item of a functional group, and in each of its items.
unfoldable pub looked_in : List Node → List ℕ → ℕ → ℕ
looked_in ns [] j = 0
looked_in ns (tag ∷ tags) j = looked_at ns tag (inside ns j) + looked_in ns tags j

unfoldable pub looked_in_each : List Node → List ℕ → List ℕ → ℕ
looked_in_each ns tags [] = 0
looked_in_each ns tags (j ∷ js) = looked_in ns tags j + looked_in_each ns tags js

-- A group's searches at one frame, whose item is i; s is the shared item.
unfoldable pub in_shared : List Node → GroupSearch → ℕ → ℕ → ℕ
in_shared ns g s i =
    cond (g.always || absent (find ns g.group (inside ns i))) (looked_at ns g.group (inside ns s)) 0

unfoldable pub group_sum : List Node → GroupSearch → ℕ → ℕ → ℕ
group_sum ns g s i =
    looked_at ns g.group (inside ns i)
    + (in_shared ns g s i + looked_in_each ns g.reads (inside_of ns (group_of ns g.group s i)))

unfoldable pub groups_sum : List Node → List GroupSearch → ℕ → ℕ → ℕ
groups_sum ns [] s i = 0
groups_sum ns (g ∷ gs) s i = group_sum ns g s i + groups_sum ns gs s i

-- Rule 27 counts the elements of item f plus those of the shared item instead.
abbrev pub both_items : List Node → ℕ → ℕ → ℕ
both_items ns s i = length (inside ns i) + length (inside ns s)

-- One frame, and each.
unfoldable pub frame_sum : List Node → ℕ → ℕ → ℕ
frame_sum ns s i = both_items ns s i + groups_sum ns frame_searches s i

unfoldable pub frames_sum : List Node → ℕ → List ℕ → ℕ
frames_sum ns s [] = 0
frames_sum ns s (i ∷ is) = frame_sum ns s i + frames_sum ns s is

abbrev pub over_frames : List Node → Option ℕ → ℕ
over_frames ns None = 0
over_frames ns (Some s) = frames_sum ns s (frame_items ns)

-- The sum of an accepted data set's searches: it has N frame items, one shared item and its mask items.
unfoldable pub searches_of : List Node → ℕ
searches_of ns = searched_among ns root_searches (root ns) + (mask_sum ns (mask_items ns) + over_frames ns (shared_item ns))
