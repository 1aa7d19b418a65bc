-- What is left to find, over the frames and then over the rules, is what is to be found in all.
use mathlib.Core.Path.{◌≡◌}
use Prim.Native.Nat.{◌+◌, ◌-◌, ◌≤◌}
use lib.ListN.{drop}
use Rattle.node.specs.Nodes.{nodes_of}
use Rattle.element.specs.Internal.{Along}
use Rattle.element.specs.Frames.{frame_items}
use Rattle.conformance.specs.Internal.{end_rule}
use Rattle.conformance.specs.Judging.{lowest, first_broken, finding_of}
use Rattle.conformance.proofs.first_broken.Given as goal

abbrev pub invariant-loop-frame : goal.invariant-loop-frame
invariant-loop-frame l =
    (lowest (nodes_of l.set) l.rule (l.end - l.frame) l.frame (first_broken (nodes_of l.set) (end_rule - (l.rule + 1)) (l.rule + 1))
    ≡ finding_of (nodes_of l.set))
    × ((l.first ≤ l.frame) × Along (nodes_of l.set) (drop (l.frame - l.first) (frame_items (nodes_of l.set))) l.left)

abbrev pub decreases-loop-frame : goal.decreases-loop-frame
decreases-loop-frame l =
    l.end - l.frame

abbrev pub invariant-loop-rule : goal.invariant-loop-rule
invariant-loop-rule l =
    (1 ≤ l.rule) × ((l.rule ≤ end_rule) × (first_broken (nodes_of l.set) (end_rule - l.rule) l.rule ≡ finding_of (nodes_of l.set)))

abbrev pub decreases-loop-rule : goal.decreases-loop-rule
decreases-loop-rule l =
    end_rule - l.rule

abbrev pub invariant-judge : goal.invariant-judge
invariant-judge l =
    Unit

abbrev pub decreases-judge : goal.decreases-judge
decreases-judge l =
    0
