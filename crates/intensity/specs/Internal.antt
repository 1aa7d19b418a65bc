-- How the code takes rule 39 apart: each of its two functional groups gets a grade, and the rule compares the two.
-- None of this is in the papers; `Rattle.rules` has the rule.
use Rattle.std.specs.Prelude.{◌≡◌, Bool, cond, true, false, List, ℕ, ◌<◌, length, eqb, Option, Some, None}
use Rattle.basics.specs.Tags
use Rattle.node.specs.Nodes.{Node, inside, members}
use Rattle.node.specs.Find.{find}
use Rattle.element.specs.Elements.{one_item}
use Rattle.rules.specs.Intensity.{are_luts, is_lut_group, has_linear, is_log, is_linear, linear_among}
use Rattle.intensity.specs.declared.Grade.{Grade}
use Rattle.intensity.specs.declared.Grade.TheVariants.{Broken, Plain, Log}

-- ---- Grades

-- Broken; sound; sound, and LOG or with a TO_LINEAR item.
abbrev pub grade : Bool → Bool → Grade
grade sound log = cond sound (cond log Log Plain) Broken

unfoldable pub relation_of : List Node → ℕ → Grade
relation_of ns p = grade (one_item ns p) (is_log ns p)

unfoldable pub luts_of : List Node → List ℕ → Grade
luts_of ns js = grade (are_luts ns js) (eqb (length js) 1)

unfoldable pub table_of : List Node → ℕ → Grade
table_of ns g = grade (is_lut_group ns g) (has_linear ns g)

-- The grade of a group; `otherwise` if the item has none.
abbrev pub grade_on : Option ℕ → (ℕ → Grade) → Grade → Grade
grade_on None of otherwise = otherwise
grade_on (Some g) of otherwise = of g

unfoldable pub relation_in : List Node → ℕ → Grade → Grade
relation_in ns i otherwise = grade_on (find ns Tags.FramePixelDataPropertiesSequence (inside ns i)) (relation_of ns) otherwise

unfoldable pub table_in : List Node → ℕ → Grade → Grade
table_in ns i otherwise = grade_on (find ns Tags.PixelIntensityRelationshipLUTSequence (inside ns i)) (table_of ns) otherwise

-- Rule 39 by the grades of the frame's two groups.
abbrev pub grades_agree : Grade → Grade → Bool
grades_agree Broken table = false
grades_agree Plain Broken = false
grades_agree Plain Plain = true
grades_agree Plain Log = true
grades_agree Log Broken = false
grades_agree Log Plain = false
grades_agree Log Log = true

-- ---- Where a search for a TO_LINEAR item stops

pub record Stops (ns : List Node) (from to r : ℕ) : Type 0 where
  pub same : linear_among ns (members ns r to) ≡ linear_among ns (members ns from to)
  pub stands : r < to → is_linear ns r ≡ true
