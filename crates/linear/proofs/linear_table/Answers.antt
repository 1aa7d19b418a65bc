-- The frame has a TO_LINEAR item and there is room, so it can be mapped; what is left is what the mapping by that item gives.
use Rattle.std.specs.Prelude.{Some}
use mathlib.Core.Path.{◌≡◌, ap, ◌∙◌}
use native.Mathlib.Omega.{arith}
use Rattle.node.specs.Nodes.{nodes_of}
use Rattle.element.specs.Frames.{frames_of}
use Rattle.steps.proofs.Laws as steps-laws
use Rattle.linear.proofs.Accepted.{mappable}
use Rattle.linear.proofs.Answers as answers
use Rattle.linear.proofs.linear_table.Goals as goal

pub map-requires : goal.map-requires
map-requires c =
    let e = c.in-Some-Some.is ∙ ap Some c.in-Some-Some.field-0-is in
    let frames : frames_of (nodes_of c.args.set.now) ≡ Some c.in_ok-n.n = grind arith in (
      steps-laws.found_within _ e c.linear_for.ensures.found_below,
      mappable c.args.set.now c.requires.0 c.requires.1 _ c.args.frame _
          frames (omega (arith, c.if-frame-lt1.false))
          (omega (arith, c.if-n-frame.false)) (steps-laws.told e c.linear_for.ensures.result_value) _
          (omega (arith, c.if-values-image_size.false, c.image_size.ensures)),
    )

pub returns-clause-values_after : goal.returns-clause-values_after
returns-clause-values_after c =
    rw (answers.entries-are (nodes_of c.args.set.now) c.args.frame _
    (steps-laws.told (c.in-Some-Some.is ∙ ap Some c.in-Some-Some.field-0-is) c.linear_for.ensures.result_value)) c.map.ensures
