-- Small data sets whose searches were added up by hand, as examples of the definitions. Proved by computing, in proofs/Samples.antt.
use Rattle.std.specs.Prelude.{◌≡◌, ℕ, List, [], ◌∷◌, map}
use Rattle.basics.specs.Tags.{item_tag}
use Rattle.basics.specs.Vr.{SQ, CS, DS, UI, US}
use Rattle.node.specs.Nodes.{Node}
use Rattle.basics.specs.Tags
use Rattle.searches.specs.Searches.{searches_of}

abbrev pub node : ℕ → ℕ → ℕ → Node
node tag vr descendants = record { tag = tag; vr = vr; depth = 0; descendants = descendants; value = [] }

abbrev pub sequence_node : ℕ → ℕ → Node
sequence_node tag descendants = node tag SQ descendants

abbrev pub item_node : ℕ → Node
item_node descendants = node item_tag 0 descendants

-- Three elements in the root: of the 33 searches there, two stop at the first, two at the second, and 29 at the third or after it.
abbrev pub three : List Node
three = node Tags.SOPClassUID UI 0 ∷ node Tags.Modality CS 0 ∷ node Tags.Rows US 0 ∷ []

-- A mask item with its operation, and nothing else: each of 33 searches in the root looks at one row, and so does each of 7 in the item.
abbrev pub mask : List Node
mask = sequence_node Tags.MaskSubtractionSequence 2 ∷ item_node 1 ∷ node Tags.MaskOperation CS 0 ∷ []

-- Two frames. The shared item has a window without its width; each frame's item has Frame Content, and the second a shift without its
-- numbers. 35 rows are looked at in the root, 19 for the first frame and 25 for the second.
abbrev pub two_frames : List Node
two_frames =
    sequence_node Tags.SharedFunctionalGroupsSequence 4
    ∷ item_node 3
    ∷ sequence_node Tags.FrameVOILUTSequence 2
    ∷ item_node 1
    ∷ node Tags.WindowCenter DS 0
    ∷ sequence_node Tags.PerFrameFunctionalGroupsSequence 9
    ∷ item_node 2
    ∷ sequence_node Tags.FrameContentSequence 1
    ∷ item_node 0
    ∷ item_node 5
    ∷ sequence_node Tags.FrameContentSequence 1
    ∷ item_node 0
    ∷ sequence_node Tags.FramePixelShiftSequence 2
    ∷ item_node 1
    ∷ node Tags.SubtractionItemID US 0
    ∷ []

abbrev pub Samples : Type 0
Samples = map searches_of ([] ∷ three ∷ mask ∷ two_frames ∷ []) ≡ 0 ∷ 93 ∷ 40 ∷ 79 ∷ []
