-- Rule 30 as it was, and the rule list with it in place of the present one.
use Rattle.std.specs.Prelude.{ℕ, List, Bool, cond, ◌&&◌, length, eqb, Option}
use Rattle.value.specs.declared.Function.{Function}
use Rattle.value.specs.Text.{values_of}
use Rattle.value.specs.Words.{is_function}
use Rattle.node.specs.Nodes.{Node, inside}
use Rattle.node.specs.Find.{holds, if_present, find_vr}
use Rattle.basics.specs.Tags
use Rattle.basics.specs.Vr.{DS}
use Rattle.element.specs.Elements.{value_at, the_item, function_in}
use Rattle.element.specs.Frames.{group_of}
use Rattle.rules.specs.Frame.{at_frame}
use Rattle.rules.specs.All as current
use Rattle.thousandths.specs.Number.{all_decimals_before, least_width_before, all_widths_before}

-- Frame VOI LUT (0028,9132), if present, one item; has Window Center (0028,1050) and Width (0028,1051) DS, equally many, each with the
-- old form; VOI LUT Function (0028,1056) as it is; widths at least 1 with LINEAR, above 0 with LINEAR_EXACT.
unfoldable pub is_window_before : Option Function → List ℕ → List ℕ → Bool
is_window_before f centers widths =
    is_function f
    && (eqb (length (values_of centers)) (length (values_of widths))
    && (all_decimals_before centers && all_widths_before (least_width_before f) widths))

unfoldable pub has_window_before : List Node → List ℕ → Bool
has_window_before ns is =
    holds (find_vr ns Tags.WindowCenter DS is)
    (λ c. holds (find_vr ns Tags.WindowWidth DS is) (λ w. is_window_before (function_in ns is) (value_at ns c) (value_at ns w)))

unfoldable pub is_voi_before : List Node → ℕ → Bool
is_voi_before ns g = holds (the_item ns g) (λ j. has_window_before ns (inside ns j))

unfoldable pub item30_before : List Node → ℕ → ℕ → Bool
item30_before ns s i = if_present (group_of ns Tags.FrameVOILUTSequence s i) (is_voi_before ns)

unfoldable pub rule30_before : List Node → ℕ → Bool
rule30_before ns f = at_frame ns f (item30_before ns)

-- Whether a rule holds at a frame.
unfoldable pub rule_at_before : List Node → ℕ → ℕ → Bool
rule_at_before ns rule f = cond (eqb rule 30) (rule30_before ns f) (current.rule_at ns rule f)
