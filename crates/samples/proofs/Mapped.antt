-- Demand 3's promise on mapping is not empty: a small accepted object whose shared LUT maps cells 9 to 13, with first mapped cell 10
-- and three entries, gives the first entry below, the last above, and leaves the buffer beyond as it was.
use mathlib.Core.Path.{◌≡◌, refl}
use mathlib.Core.List.{List, [], ◌∷◌, ◌++◌}
use Prim.Native.Nat.{ℕ}
use Rattle.basics.specs.Tags
use Rattle.value.specs.Text.{ascii}
use Rattle.rules.specs.Intensity.{is_linear, linear_among, is_lut, has_lut, are_luts, is_lut_group, has_linear, is_log}
use Rattle.linear.specs.Mapping.{linear_for, place_among, entry_place, entry_at, entry_of, mapping_by, mapping_of, has_linear_item}
use Rattle.linear.specs.Answer.{entries_of, linear_of, values_left as mapped_values, accepted_answer as accepted_linear}
use Rattle.samples.proofs.Worked.{drawing}
use Rattle.samples.specs.Objects.{two, short, long, sequence, item, one_frame}
use Rattle.samples.specs.Samples.{many_rows}

abbrev object : List ℕ
object =
    one_frame "MONOCHROME2 " "IDENTITY"
    (sequence Tags.PixelIntensityRelationshipLUTSequence
    (item
    (short Tags.LUTDescriptor "US" (two 3 ++ (two 10 ++ two 16))
    ++ (long Tags.LUTData "OW" (two 100 ++ (two 200 ++ two 300))
    ++ short Tags.LUTFunction "CS" (ascii "TO_LINEAR ")))))
    (9 ∷ 10 ∷ 11 ∷ 12 ∷ 13 ∷ [])

pub mapped : mapped_values object 1 many_rows (9 ∷ 9 ∷ 9 ∷ 9 ∷ 9 ∷ 9 ∷ []) ≡ 100 ∷ 100 ∷ 200 ∷ 300 ∷ 300 ∷ 9 ∷ []
unfolding drawing is_linear linear_among is_lut has_lut are_luts is_lut_group has_linear is_log linear_for place_among entry_place entry_at entry_of
    mapping_by mapping_of has_linear_item entries_of linear_of mapped_values accepted_linear
mapped = refl
