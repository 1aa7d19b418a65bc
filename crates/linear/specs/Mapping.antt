-- Back to beam intensity (document 02, Q-8): the mapping of frame f, over the nodes of a data set that reads well, accepted or not. It
-- takes each cell of the frame to its entry in the LUT of the frame's TO_LINEAR item. No rule is built in: if it lacks something that it
-- needs, it gives `none`.
use Rattle.std.specs.Prelude.{ℕ, ◌+◌, ◌-◌, ◌*◌, Bool, true, false, cond, ◌&&◌, List, length, eqb, leb, ltb, Option, Some, None}
use Rattle.basics.specs.Bytes.{le16}
use Rattle.basics.specs.Vr.{SQ, US, OW}
use Rattle.node.specs.Nodes.{Node, node_at, inside}
use Rattle.node.specs.Find.{find_vr}
use Rattle.basics.specs.Tags
use Rattle.element.specs.Elements.{value_at, first}
use Rattle.rules.specs.Intensity.{linear_among, entry_count}
use Rattle.pixel.specs.Pixel.{samples_of, is_frame, sample_at}
use Rattle.steps.specs.Given.{need, check, then, collect}
use Rattle.steps.specs.Steps.{geometry_of, pixels_of, group_for}

-- The first TO_LINEAR item of a frame's Pixel Intensity Relationship LUT Sequence (0028,9422), or that there is none; a group that is not
-- a sequence lacks its items.
abbrev pub linear_on : List Node → Option ℕ → Option (Option ℕ)
linear_on ns None = Some None
linear_on ns (Some g) = check (eqb (node_at ns g).vr SQ) (Some (first (linear_among ns (inside ns g))))

-- The frame's TO_LINEAR item, or that it has none.
unfoldable pub linear_for : List Node → ℕ → Option (Option ℕ)
linear_for ns f = then (group_for ns f Tags.PixelIntensityRelationshipLUTSequence) (linear_on ns)

-- The place of cell x's entry among `count` of them, where `from` is the first mapped cell: cells below it take the first entry, cells
-- above the last take the last.
unfoldable pub place_among : ℕ → ℕ → ℕ → ℕ
place_among from count x = cond (ltb x from) 0 (cond (ltb x (from + count)) (x - from) (count - 1))

-- The entry of cell x, by a LUT Descriptor d and LUT Data t, two bytes an entry; it may be lacking.
unfoldable pub entry_place : List ℕ → ℕ → ℕ
entry_place d x = place_among (le16 d 2) (entry_count d) x

unfoldable pub entry_at : List ℕ → List ℕ → ℕ → ℕ
entry_at d t x = le16 t (2 * entry_place d x)

unfoldable pub entry_of : List ℕ → List ℕ → ℕ → Option ℕ
entry_of d t x = cond (leb (2 * entry_place d x + 2) (length t)) (Some (entry_at d t x)) None

-- The entries of the frame's cells (step 1: modulo 2^stored, no mask and no window), by TO_LINEAR item j: its LUT Descriptor
-- (0028,3002) US, of three numbers, the last 16, and its LUT Data (0028,3006) OW.
unfoldable pub mapping_by : List Node → ℕ → ℕ → Option (List ℕ)
mapping_by ns f j =
    then (geometry_of ns) (λ g.
    then (pixels_of ns) (λ v.
    check (is_frame g v f)
    (need (find_vr ns Tags.LUTDescriptor US (inside ns j)) (λ d.
    need (find_vr ns Tags.LUTData OW (inside ns j)) (λ t.
    check (eqb (length (value_at ns d)) 6 && eqb (le16 (value_at ns d) 4) 16)
    (collect (λ i. entry_of (value_at ns d) (value_at ns t) (sample_at g v f i)) (samples_of g)))))))

-- The mapping of frame f.
unfoldable pub mapping_of : List Node → ℕ → Option (List ℕ)
mapping_of ns f = then (linear_for ns f) (λ o. need o (mapping_by ns f))

-- The frame has a TO_LINEAR item.
abbrev pub is_present : Option (Option ℕ) → Bool
is_present None = false
is_present (Some None) = false
is_present (Some (Some j)) = true

unfoldable pub has_linear_item : List Node → ℕ → Bool
has_linear_item ns f = is_present (linear_for ns f)
