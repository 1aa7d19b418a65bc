-- Rules 27 to 30 and 37, which are asked at each frame f. Each concerns item f of the per-frame groups (its node is i) and the shared
-- item (s).
use Rattle.std.specs.Prelude.{ℕ, List, [], ◌∷◌, map, Bool, true, false, not, ◌&&◌, ◌||◌, length, eqb, leb, Option}
use Rattle.basics.specs.Vr.{SQ, DS, FL}
use Rattle.value.specs.Text.{values_of}
use Rattle.value.specs.declared.Function.{Function}
use Rattle.value.specs.Words.{is_function}
use Rattle.value.specs.Number.{all_decimals, least_width, all_widths, number_or0}
use Rattle.shift.specs.Shift.{is_frame_shift}
use Rattle.node.specs.Nodes.{Node, node_at, inside}
use Rattle.node.specs.Find.{holds, if_present, absent, find, find_vr}
use Rattle.basics.specs.Tags
use Rattle.element.specs.Elements.{value_at, one_item, the_item, function_in, every, some}
use Rattle.element.specs.Frames.{frame_item, shared_item, group_of, id_in}

-- At frame f: what is asked of the shared item s and item f, whose node is i.
abbrev pub at_frame : List Node → ℕ → (ℕ → ℕ → Bool) → Bool
at_frame ns f asked = holds (shared_item ns) (λ s. holds (frame_item ns f) (λ i. asked s i))

-- Rule 27. No tag is SQ both in the shared item and in item f.
unfoldable pub is_shared : List Node → ℕ → ℕ → Bool
is_shared ns s j = eqb (node_at ns j).vr SQ && holds (find_vr ns (node_at ns j).tag SQ (inside ns s)) (λ k. true)

unfoldable pub repeats_shared : List Node → ℕ → ℕ → Bool
repeats_shared ns s i = some (is_shared ns s) (inside ns i)

unfoldable pub item27 : List Node → ℕ → ℕ → Bool
item27 ns s i = not (repeats_shared ns s i)

unfoldable pub rule27 : List Node → ℕ → Bool
rule27 ns f = at_frame ns f (item27 ns)

-- Rule 28. Frame Content (0020,9111) absent, of any VR, from the shared item, one item in f.
unfoldable pub item28 : List Node → ℕ → ℕ → Bool
item28 ns s i =
    absent (find ns Tags.FrameContentSequence (inside ns s)) && holds (find ns Tags.FrameContentSequence (inside ns i)) (one_item ns)

unfoldable pub rule28 : List Node → ℕ → Bool
rule28 ns f = at_frame ns f (item28 ns)

-- Rule 29. Frame Characteristics (0018,9412), if present, one item.
unfoldable pub item29 : List Node → ℕ → ℕ → Bool
item29 ns s i = if_present (group_of ns Tags.XAXRFFrameCharacteristicsSequence s i) (one_item ns)

unfoldable pub rule29 : List Node → ℕ → Bool
rule29 ns f = at_frame ns f (item29 ns)

-- Rule 30. Frame VOI LUT (0028,9132), if present, one item; has Window Center (0028,1050) and Width (0028,1051) DS, equally many, each
-- with the form of a DS number; its VOI LUT Function (0028,1056) CS, if present, LINEAR or LINEAR_EXACT; widths at least 1 with LINEAR,
-- above 0 with LINEAR_EXACT. (An empty value is no number, and no function.)
unfoldable pub is_window : Option Function → List ℕ → List ℕ → Bool
is_window f centers widths =
    is_function f && (eqb (length (values_of centers)) (length (values_of widths)) && (all_decimals centers && all_widths (least_width f) widths))

unfoldable pub has_window : List Node → List ℕ → Bool
has_window ns is =
    holds (find_vr ns Tags.WindowCenter DS is)
    (λ c. holds (find_vr ns Tags.WindowWidth DS is) (λ w. is_window (function_in ns is) (value_at ns c) (value_at ns w)))

unfoldable pub is_voi : List Node → ℕ → Bool
is_voi ns g = holds (the_item ns g) (λ j. has_window ns (inside ns j))

unfoldable pub item30 : List Node → ℕ → ℕ → Bool
item30 ns s i = if_present (group_of ns Tags.FrameVOILUTSequence s i) (is_voi ns)

unfoldable pub rule30 : List Node → ℕ → Bool
rule30 ns f = at_frame ns f (item30 ns)

-- Rule 37. Frame Pixel Shift (0028,9415), if present, at least one item; each has an ID (US), none twice, and has a shift
-- as in rule 35.
abbrev pub is_in : ℕ → List ℕ → Bool
is_in x [] = false
is_in x (y ∷ ys) = eqb x y || is_in x ys

-- None twice.
unfoldable pub unique : List ℕ → Bool
unique [] = true
unique (x ∷ xs) = not (is_in x xs) && unique xs

unfoldable pub unique_ids : List Node → List ℕ → Bool
unique_ids ns is = unique (map (λ j. number_or0 (id_in ns j)) is)

unfoldable pub has_id : List Node → ℕ → Bool
has_id ns j = holds (id_in ns j) (λ n. true)

unfoldable pub is_shift_item : List Node → ℕ → Bool
is_shift_item ns j = has_id ns j && holds (find_vr ns Tags.MaskSubPixelShift FL (inside ns j)) (λ k. is_frame_shift (value_at ns k))

unfoldable pub is_shift_group : List Node → ℕ → Bool
is_shift_group ns g =
    eqb (node_at ns g).vr SQ && (leb 1 (length (inside ns g)) && (every (is_shift_item ns) (inside ns g) && unique_ids ns (inside ns g)))

unfoldable pub item37 : List Node → ℕ → ℕ → Bool
item37 ns s i = if_present (group_of ns Tags.FramePixelShiftSequence s i) (is_shift_group ns)

unfoldable pub rule37 : List Node → ℕ → Bool
rule37 ns f = at_frame ns f (item37 ns)
