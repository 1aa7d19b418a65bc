-- What is left to find, over the frames and then over the rules, is what is to be found in all.
use mathlib.Core.Path.{sym, ◌∙◌}
use native.Mathlib.Omega.{arith}
use Rattle.conformance.proofs.Loops as loops
use Rattle.conformance.proofs.first_broken.Goals as goal

pub loop-frame-init : goal.loop-frame-init
loop-frame-init c = (
  rw (c.first_frame-first.ensures, c.end_frame-end.ensures.0, c.frame_total-n.ensures.0)
      (sym (loops.rules-start _ _ c.loop-rule-test.true) ∙ c.loop-rule.invariant.1.1),
  (omega arith, loops.along-start _ c.first_frame-first.result c.frame_items-items.ensures),
)

pub rule_holds-requires : goal.rule_holds-requires
rule_holds-requires c = (
  c.shared_item-shared.ensures.below,
  (
    c.shared_item-shared.ensures.value,
    (
      c.part_for-part.ensures,
      loops.asked-at _ c.frame_total-n.result c.loop-rule.rule c.loop-frame.frame c.loop-rule.invariant.0
          c.loop-rule-test.true (omega (arith, c.first_frame-first.ensures, c.loop-frame.invariant.1.0))
          (omega (arith, c.end_frame-end.ensures.0, c.loop-frame-test.true))
          (rw c.first_frame-first.ensures at c.loop-frame.invariant.1.1),
    ),
  ),
)

pub loop-frame-preserved : goal.loop-frame-preserved
loop-frame-preserved c = (
  sym (loops.frames-pass _ _ _ _ _ c.loop-frame-test.true
      (sym c.rule_holds.ensures ∙ c.if-rule_holds.true)) ∙ c.loop-frame.invariant.0,
  (
    omega (arith, c.loop-frame.invariant.1.0),
    loops.along-more _ c.first_frame-first.result c.loop-frame.frame
        c.loop-frame.invariant.1.0 c.loop-frame.invariant.1.1 c.advance-left.ensures,
  ),
)

pub loop-rule-preserved : goal.loop-rule-preserved
loop-rule-preserved c =
    (omega arith, (omega arith, sym (loops.frames-done _ _ _ _ _ c.loop-frame-test.false) ∙ c.loop-frame.invariant.0))

pub returns-else-rule_holds : goal.returns-else-rule_holds
returns-else-rule_holds c =
    sym (loops.frames-hit _ _ _ _ _ c.loop-frame-test.true (sym c.rule_holds.ensures ∙ c.if-rule_holds.false))
    ∙ c.loop-frame.invariant.0

pub returns-after-loop-rule : goal.returns-after-loop-rule
returns-after-loop-rule c =
    sym (loops.rules-done _ _ c.loop-rule-test.false) ∙ c.loop-rule.invariant.1.1
