-- How the code adds up the searches: each group over all frames, so the part in the shared item is worked out once. None of this is in
-- the papers.
use Rattle.std.specs.Prelude.{◌≡◌, ℕ, ◌+◌, ◌*◌, ◌≤◌, List, [], ◌∷◌, Bool, true, false, cond, leb, length, take, Result, Ok, Err}
use Rattle.dataset.specs.Answer.{width}
use Rattle.node.specs.Nodes.{Node, inside}
use Rattle.node.specs.Find.{find}
use Rattle.node.specs.Internal.{Table}
use Rattle.basics.specs.Tags
use Rattle.element.specs.Elements.{inside_of}
use Rattle.dataset.specs.declared.ReadError.{ReadError}
use Rattle.conformance.specs.declared.Outcome.{Outcome}
use Rattle.conformance.specs.declared.Outcome.TheVariants as outcome
use Rattle.searches.specs.declared.SharedGroup.{SharedGroup}
use Rattle.searches.specs.Count.{looked_at}
use Rattle.searches.specs.Searches.{Search, GroupSearch, looks_for, root_searches, mask_searches, looked_in_each, group_sum, both_items}

-- All the tags, each sought among the members.
unfoldable pub all_looked : List Node → List ℕ → List ℕ → ℕ
all_looked ns [] is = 0
all_looked ns (tag ∷ tags) is = looked_at ns tag is + all_looked ns tags is

-- No tag is below `least` or below one before it.
unfoldable pub rises : ℕ → List ℕ → Bool
rises least [] = true
rises least (tag ∷ tags) = cond (leb least tag) (rises tag tags) false

-- The tags from the first one above `here` on.
unfoldable pub tags_above : ℕ → List ℕ → List ℕ
tags_above here [] = []
tags_above here (tag ∷ tags) = cond (leb tag here) (tags_above here tags) (tag ∷ tags)

-- The tags of the tables.
abbrev pub tags_of : List Search → List ℕ
tags_of [] = []
tags_of (s ∷ ss) = s.tag ∷ tags_of ss

unfoldable pub root_tags : List ℕ
root_tags = tags_of root_searches

-- Those of the root, in ascending order.
unfoldable pub root_order : List ℕ
root_order =
    Tags.ImageType
    ∷ Tags.SOPClassUID
    ∷ Tags.AcquisitionDateTime
    ∷ Tags.Modality
    ∷ Tags.ReferencedOtherPlaneSequence
    ∷ Tags.KVP
    ∷ Tags.RadiationSetting
    ∷ Tags.RadiationMode
    ∷ Tags.PositionerType
    ∷ Tags.ContentQualification
    ∷ Tags.ExposureTimeInms
    ∷ Tags.XRayTubeCurrentInmA
    ∷ Tags.ExposureInmAs
    ∷ Tags.PlanesInAcquisition
    ∷ Tags.PlaneIdentification
    ∷ Tags.SamplesPerPixel
    ∷ Tags.PhotometricInterpretation
    ∷ Tags.NumberOfFrames
    ∷ Tags.Rows
    ∷ Tags.Columns
    ∷ Tags.BitsAllocated
    ∷ Tags.BitsStored
    ∷ Tags.HighBit
    ∷ Tags.PixelRepresentation
    ∷ Tags.BurnedInAnnotation
    ∷ Tags.LossyImageCompression
    ∷ Tags.LossyImageCompressionRatio
    ∷ Tags.LossyImageCompressionMethod
    ∷ Tags.MaskSubtractionSequence
    ∷ Tags.PresentationLUTShape
    ∷ Tags.SharedFunctionalGroupsSequence
    ∷ Tags.PerFrameFunctionalGroupsSequence
    ∷ Tags.PixelData
    ∷ []

unfoldable pub mask_tags : List ℕ
mask_tags = tags_of mask_searches

-- A group, by its tag, at a frame and over frames. The rule's number does not matter.
unfoldable pub group_at : List Node → ℕ → Bool → List ℕ → ℕ → ℕ → ℕ
group_at ns tag always reads s i = group_sum ns (looks_for 0 tag always reads) s i

unfoldable pub over_group : List Node → ℕ → Bool → List ℕ → ℕ → List ℕ → ℕ
over_group ns tag always reads s [] = 0
over_group ns tag always reads s (i ∷ is) = group_at ns tag always reads s i + over_group ns tag always reads s is

unfoldable pub over_groups : List Node → List GroupSearch → ℕ → List ℕ → ℕ
over_groups ns [] s is = 0
over_groups ns (g ∷ gs) s is = over_group ns g.group g.always g.reads s is + over_groups ns gs s is

-- Rule 27 over frames.
unfoldable pub over_both : List Node → ℕ → List ℕ → ℕ
over_both ns s [] = 0
over_both ns s (i ∷ is) = both_items ns s i + over_both ns s is

-- A group in the shared item s: the rows looked at to find it, and those looked at in its items.
pub record InShared (ns : List Node) (tag : ℕ) (reads : List ℕ) (s : ℕ) (part : SharedGroup) : Type 0 where
  pub looked : part.looked ≡ looked_at ns tag (inside ns s)
  pub read : part.read ≡ looked_in_each ns reads (inside_of ns (find ns tag (inside ns s)))

-- If judging accepted, the row buffer begins with its rows.
abbrev pub RowsLeft : List ℕ → List ℕ → Result Outcome ReadError → Type 0
RowsLeft s rows (Ok (outcome.Accepted n)) = (width * n ≤ length rows) × Table s (take (width * n) rows)
RowsLeft s rows (Ok (outcome.Broken n rule frame)) = Unit {0}
RowsLeft s rows (Err e) = Unit {0}
