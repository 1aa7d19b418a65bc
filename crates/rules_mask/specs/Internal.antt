-- How the code checks the rules: one loop asks each mask item what the rule asks. And how it splits rule 36: the part of the shared item
-- is worked out once, and the rest is asked of each frame's item. None of this is in the papers; `Rattle.rules` has the rules.
use Rattle.std.specs.Prelude.{ℕ, List, Bool}
use Rattle.basics.specs.Vr.{SQ}
use Rattle.node.specs.Nodes.{Node, inside}
use Rattle.node.specs.Find.{holds, find, of_vr, filled}
use Rattle.node.specs.Internal.{holds_or}
use Rattle.basics.specs.Tags
use Rattle.rules.specs.Frame.{has_id}
use Rattle.rules.specs.Mask.{is_operation, range_fits, averages_fit, offset_fits, shift_fits}
use Rattle.rules_mask.specs.declared.Question.{Question}
use Rattle.rules_mask.specs.declared.Question.TheVariants.{Operation, Range, Average, Offset, Shift, Id}

-- Whether a mask item is as a rule asks.
abbrev pub item_fits : List Node → Question → ℕ → Bool
item_fits ns Operation = is_operation ns
item_fits ns (Range n) = range_fits ns n
item_fits ns (Average n) = averages_fit ns n
item_fits ns Offset = offset_fits ns
item_fits ns Shift = shift_fits ns
item_fits ns Id = has_id ns

-- A group is a sequence that has items.
abbrev pub has_items : List Node → ℕ → Bool
has_items ns g = holds (of_vr ns SQ g) (filled ns)

-- Whether an item has a Frame Pixel Shift group with items; `otherwise` if it has no such group at all.
unfoldable pub has_shifts : List Node → ℕ → Bool → Bool
has_shifts ns i otherwise = holds_or (find ns Tags.FramePixelShiftSequence (inside ns i)) (has_items ns) otherwise
