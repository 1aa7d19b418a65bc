-- How the code splits the rules that are asked at each frame: what a rule asks of the shared item is worked out once, and the rest is
-- asked of each frame's item. None of this is in the papers; `Rattle.rules` has the rules.
use Rattle.std.specs.Prelude.{Bool, ◌&&◌, true, cond, List, ℕ, eqb}
use Rattle.basics.specs.Vr.{SQ}
use Rattle.node.specs.Nodes.{Node, node_at, inside}
use Rattle.node.specs.Find.{holds, absent, find}
use Rattle.node.specs.Internal.{first_is, holds_or}
use Rattle.basics.specs.Tags
use Rattle.element.specs.Elements.{one_item}
use Rattle.intensity.specs.Internal.{relation_in, table_in, grades_agree}
use Rattle.intensity.specs.declared.Grade.TheVariants.{Plain}
use Rattle.rules_frame.specs.declared.SharedPart.{SharedPart}
use Rattle.rules_frame.specs.declared.SharedPart.TheVariants.{Holds, Grades}
use Rattle.rules.specs.Frame.{item27, item28, is_voi, is_shift_group}

-- ---- Rule 27: the elements of two items together, by their tags

-- Node j is a sequence, and the first of the members is a sequence of the same tag.
unfoldable pub is_repeated : List Node → ℕ → List ℕ → Bool
is_repeated ns j ks = eqb (node_at ns j).vr SQ && holds (first_is ns (node_at ns j).tag ks) (λ k. eqb (node_at ns k).vr SQ)

-- ---- The shared item and a frame's item

-- The functional group of rule 29, 30 or 37, and what the rule asks of it.
unfoldable pub group_tag : ℕ → ℕ
group_tag rule = cond (eqb rule 29) Tags.XAXRFFrameCharacteristicsSequence
    (cond (eqb rule 30) Tags.FrameVOILUTSequence Tags.FramePixelShiftSequence)

unfoldable pub group_fits : List Node → ℕ → ℕ → Bool
group_fits ns rule g = cond (eqb rule 29) (one_item ns g) (cond (eqb rule 30) (is_voi ns g) (is_shift_group ns g))

-- What rule 29, 30 or 37 asks of an item alone; `otherwise` if the item has no such group.
unfoldable pub group_holds : List Node → ℕ → ℕ → Bool → Bool
group_holds ns rule i otherwise = holds_or (find ns (group_tag rule) (inside ns i)) (group_fits ns rule) otherwise

-- What rules 27 to 30 and 37 ask of the shared item s alone.
unfoldable pub shared_ok : List Node → ℕ → ℕ → Bool
shared_ok ns rule s =
    cond (eqb rule 27) true
    (cond (eqb rule 28) (absent (find ns Tags.FrameContentSequence (inside ns s)))
    (group_holds ns rule s true))

-- What they ask of the shared item s and a frame's item i.
unfoldable pub item_holds : List Node → ℕ → ℕ → ℕ → Bool
item_holds ns rule s i =
    cond (eqb rule 27) (item27 ns s i)
    (cond (eqb rule 28) (item28 ns s i)
    (group_holds ns rule i (group_holds ns rule s true)))

-- Rule 39 has two groups, each with a grade; any other rule holds in the shared item or not.
unfoldable pub shared_part : List Node → ℕ → ℕ → SharedPart
shared_part ns rule s =
    cond (eqb rule 39) (Grades (relation_in ns s Plain) (table_in ns s Plain)) (Holds (shared_ok ns rule s))

unfoldable pub item_grades : List Node → ℕ → ℕ → Bool
item_grades ns s i = grades_agree (relation_in ns i (relation_in ns s Plain)) (table_in ns i (table_in ns s Plain))

-- What a rule asks of the shared item s and a frame's item i.
unfoldable pub item_rule : List Node → ℕ → ℕ → ℕ → Bool
item_rule ns rule s i = cond (eqb rule 39) (item_grades ns s i) (item_holds ns rule s i)
