-- Drawing step 6 as it was, and the steps with it in place of the present one. The centre and the width of a window are in thousandths
-- here. The formula of a level is as it is now (`level_by` of `window`), as are the words of a function.
use Rattle.std.specs.Prelude.{ℕ, ◌-◌, ◌*◌, ◌/◌, ◌^◌, Bool, true, false, cond, ◌&&◌, List, length, eqb, leb, ℤ, pos, ◌+ℤ◌, ◌-ℤ◌, ◌*ℤ◌, Option, Some, None}
use Rattle.value.specs.declared.Signed.TheVariants as signed
use Rattle.value.specs.declared.Function.{Function}
use Rattle.value.specs.declared.Function.TheVariants as function
use Rattle.value.specs.Text.{value_of}
use Rattle.value.specs.Words.{is_function}
use Rattle.value.specs.Number.{is_number}
use Rattle.shift.specs.declared.Moves.{Moves}
use Rattle.node.specs.Nodes.{Node, inside}
use Rattle.node.specs.Find.{find_vr}
use Rattle.basics.specs.Tags
use Rattle.basics.specs.Vr.{DS}
use Rattle.element.specs.Elements.{value_at, the_item, function_in}
use Rattle.pixel.specs.declared.Geometry.{Geometry}
use Rattle.pixel.specs.Pixel.{samples_of, is_frame, sample_at, are_inside, blended_at}
use Rattle.window.specs.declared.Window.{Window}
use Rattle.window.specs.Window.{integer, level_by, shaded}
use Rattle.steps.specs.Given.{need, check, then, collect}
use Rattle.steps.specs.Steps.{Picture, Mask, native, masked, geometry_of, pixels_of, mask_for, inverse_of, group_for, are_frames}
use Rattle.thousandths.specs.Number.{unit_before, decimal_of_before}

-- The window of a frame without a VOI group: centre 2^(stored - 1) and width 2^stored.
unfoldable pub full_window_before : ℕ → Window
full_window_before stored =
    record { center = Some (signed.Plus (unit_before * 2 ^ stored / 2)); width = Some (signed.Plus (unit_before * 2 ^ stored)); function = Some function.Linear }

-- What a function takes off: LINEAR one, in thousandths, and LINEAR_EXACT nothing.
abbrev pub taken_off_before : Option Function → ℕ
taken_off_before (Some function.Linear) = unit_before
taken_off_before (Some function.Exact) = 0
taken_off_before None = unit_before

abbrev pub level_at_before : Window → ℤ → Option ℤ
level_at_before w t = level_by (pos (taken_off_before w.function)) (integer w.center) (integer w.width) t

unfoldable pub level_of_before : Window → ℤ → Option ℤ
level_of_before w x = level_at_before w (pos 2 *ℤ pos unit_before *ℤ x)

-- The level of x + 1/2.
unfoldable pub level_half_before : Window → ℤ → Option ℤ
level_half_before w x = level_at_before w (pos 2 *ℤ pos unit_before *ℤ x +ℤ pos unit_before)

-- The first centre and width, and the function; without a VOI group the full window.
unfoldable pub window_in_before : List Node → List ℕ → Option Window
window_in_before ns is =
    need (find_vr ns Tags.WindowCenter DS is) (λ c.
    need (find_vr ns Tags.WindowWidth DS is) (λ w.
    check (is_number (decimal_of_before (value_of (value_at ns c) 0))
    && (is_number (decimal_of_before (value_of (value_at ns w) 0)) && is_function (function_in ns is)))
    (Some (record {
      center = decimal_of_before (value_of (value_at ns c) 0);
      width = decimal_of_before (value_of (value_at ns w) 0);
      function = function_in ns is;
    }))))

abbrev pub window_on_before : List Node → ℕ → Option ℕ → Option Window
window_on_before ns stored None = Some (full_window_before stored)
window_on_before ns stored (Some g) = need (the_item ns g) (λ j. window_in_before ns (inside ns j))

unfoldable pub window_for_before : List Node → ℕ → ℕ → Option Window
window_for_before ns f stored = then (group_for ns f Tags.FrameVOILUTSequence) (window_on_before ns stored)

-- The cells, the picture and the steps: as they are now, with the window of thousandths.
unfoldable pub native_cell_before : Geometry → List ℕ → ℕ → Window → Bool → ℕ → Option ℕ
native_cell_before g v f w inverse i = shaded inverse (level_of_before w (pos (sample_at g v f i)))

unfoldable pub masked_cell_before : Geometry → List ℕ → ℕ → List ℕ → Moves → Window → Bool → ℕ → Option ℕ
masked_cell_before g v f ks m w inverse i =
    cond (leb 1 (length ks) && are_inside g m i)
    (shaded inverse
    (cond (eqb g.stored 0)
    (level_half_before w (pos (sample_at g v f i) -ℤ pos (blended_at g v ks m i)))
    (level_of_before w (pos (sample_at g v f i) -ℤ pos (blended_at g v ks m i) +ℤ pos (2 ^ (g.stored - 1))))))
    None

unfoldable pub picture_by_before : Geometry → List ℕ → ℕ → Window → Bool → Mask → Option Picture
picture_by_before g v f w inverse native =
    then (collect (native_cell_before g v f w inverse) (samples_of g)) (λ l. Some (record { masked = false; samples = l }))
picture_by_before g v f w inverse (masked ks m) =
    check (are_frames g v ks)
    (then (collect (masked_cell_before g v f ks m w inverse) (samples_of g)) (λ l. Some (record { masked = true; samples = l })))

-- Drawing frame f.
unfoldable pub steps_of_before : List Node → ℕ → Option Picture
steps_of_before ns f =
    then (geometry_of ns) (λ g.
    then (pixels_of ns) (λ v.
    check (is_frame g v f)
    (then (mask_for ns f) (λ m.
    then (window_for_before ns f g.stored) (λ w.
    then (inverse_of ns) (λ inverse.
    picture_by_before g v f w inverse m))))))
