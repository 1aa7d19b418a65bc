-- Rule 39, which is asked at each frame: the way back to beam intensity (document 02, Q-8). It reads two of the frame's
-- functional groups, each that in item f, of any VR, else the shared one: Frame Pixel Data Properties (0028,9443), which says how
-- cells and intensity are related, and Pixel Intensity Relationship LUT Sequence (0028,9422), whose TO_LINEAR item maps them.
use Rattle.std.specs.Prelude.{ℕ, ◌*◌, List, [], ◌∷◌, Bool, cond, not, ◌&&◌, ◌||◌, length, eqb, leb}
use Rattle.basics.specs.Bytes.{le16}
use Rattle.basics.specs.Vr.{SQ, US, OW}
use Rattle.value.specs.Text.{ascii}
use Rattle.node.specs.Nodes.{Node, node_at, inside}
use Rattle.node.specs.Find.{holds, if_present, find_vr}
use Rattle.basics.specs.Tags
use Rattle.element.specs.Elements.{value_at, cs_is, one_item, the_item, every}
use Rattle.element.specs.Frames.{group_of}
use Rattle.rules.specs.Frame.{at_frame}

-- A TO_LINEAR item: LUT Function (0028,9474) CS is TO_LINEAR, one value. Nothing is asked of any other item.
unfoldable pub is_linear : List Node → ℕ → Bool
is_linear ns j = cs_is ns Tags.LUTFunction (ascii "TO_LINEAR") (inside ns j)

-- The TO_LINEAR items among items.
unfoldable pub linear_among : List Node → List ℕ → List ℕ
linear_among ns [] = []
linear_among ns (j ∷ js) = cond (is_linear ns j) (j ∷ linear_among ns js) (linear_among ns js)

-- A LUT Descriptor has three numbers of two bytes: how many entries, the first mapped cell, the bits of an entry. An entry count of 0
-- stands for 65,536.
abbrev pub entry_count : List ℕ → ℕ
entry_count d = cond (eqb (le16 d 0) 0) 65536 (le16 d 0)

-- The descriptor has three numbers, the last 16, and the data are two bytes for each entry.
unfoldable pub is_lut : List ℕ → List ℕ → Bool
is_lut d t = eqb (length d) 6 && (eqb (le16 d 4) 16 && eqb (length t) (2 * entry_count d))

-- LUT Descriptor (0028,3002) US and LUT Data (0028,3006) OW of an item.
unfoldable pub has_lut : List Node → ℕ → Bool
has_lut ns j =
    holds (find_vr ns Tags.LUTDescriptor US (inside ns j)) (λ d.
    holds (find_vr ns Tags.LUTData OW (inside ns j)) (λ t. is_lut (value_at ns d) (value_at ns t)))

-- There is at most one TO_LINEAR item, and it has its LUT.
unfoldable pub are_luts : List Node → List ℕ → Bool
are_luts ns js = leb (length js) 1 && every (has_lut ns) js

-- Pixel Intensity Relationship LUT Sequence (0028,9422): at least one item, and TO_LINEAR items as above.
unfoldable pub is_lut_group : List Node → ℕ → Bool
is_lut_group ns g = eqb (node_at ns g).vr SQ && (leb 1 (length (inside ns g)) && are_luts ns (linear_among ns (inside ns g)))

-- It has a TO_LINEAR item.
unfoldable pub has_linear : List Node → ℕ → Bool
has_linear ns g = eqb (length (linear_among ns (inside ns g))) 1

-- Pixel Intensity Relationship (0028,1040) CS in the item of Frame Pixel Data Properties (0028,9443) is LOG.
unfoldable pub is_log : List Node → ℕ → Bool
is_log ns p = holds (the_item ns p) (λ j. cs_is ns Tags.PixelIntensityRelationship (ascii "LOG") (inside ns j))

-- Rule 39. (0028,9443), if present, one item; (0028,9422), if present, as above, and present with a TO_LINEAR item if LOG.
unfoldable pub item39 : List Node → ℕ → ℕ → Bool
item39 ns s i =
    if_present (group_of ns Tags.FramePixelDataPropertiesSequence s i) (one_item ns)
    && (if_present (group_of ns Tags.PixelIntensityRelationshipLUTSequence s i) (is_lut_group ns)
    && (not (holds (group_of ns Tags.FramePixelDataPropertiesSequence s i) (is_log ns))
    || holds (group_of ns Tags.PixelIntensityRelationshipLUTSequence s i) (has_linear ns)))

unfoldable pub rule39 : List Node → ℕ → Bool
rule39 ns f = at_frame ns f (item39 ns)
