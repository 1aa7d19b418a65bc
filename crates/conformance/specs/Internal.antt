-- How the judge's loops ask the rules. None of this is in the papers.
use Rattle.std.specs.Prelude.{◌≡◌, ℕ, ◌+◌, ◌-◌, ◌≤◌, List, true, false, cond, drop, Option, Some, None}
use Rattle.verdict.specs.Verdict.{per_frame, last_rule}
use Rattle.node.specs.Nodes.{Node}
use Rattle.element.specs.declared.Items.{Items}
use Rattle.element.specs.Internal.{Along}
use Rattle.element.specs.Frames.{frame_items}
use Rattle.rules_frame.specs.declared.SharedPart.{SharedPart}
use Rattle.rules_frame.specs.declared.SharedPart.TheVariants.{Holds}
use Rattle.rules_frame.specs.Internal.{shared_part}

-- The part of a rule that asks nothing of the shared item.
abbrev pub no_part : SharedPart
no_part = Holds true

-- The part of a per-frame rule in the shared item; any other rule asks nothing there.
abbrev pub part_for : List Node → ℕ → Option ℕ → SharedPart
part_for ns rule None = no_part
part_for ns rule (Some s) = cond (per_frame rule) (shared_part ns rule s) no_part

-- The number after that of the last rule.
abbrev pub end_rule : ℕ
end_rule = last_rule + 1

-- The frame after the last at which a rule is asked, of n frames.
abbrev pub end_frame : ℕ → ℕ → ℕ
end_frame n rule = cond (per_frame rule) (n + 1) 1

-- There is such a rule. If it is asked once, that is at frame 0; otherwise the items are those from the frame's own on.
pub record Asked (ns : List Node) (rule frame : ℕ) (items : Items) : Type 0 where
  pub low : 1 ≤ rule
  pub high : rule ≤ last_rule
  pub once : per_frame rule ≡ false → frame ≡ 0
  pub from : per_frame rule ≡ true → 1 ≤ frame
  pub along : per_frame rule ≡ true → Along ns (drop (frame - 1) (frame_items ns)) items
