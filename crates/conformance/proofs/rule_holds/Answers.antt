-- A rule that is asked once is asked at frame 0. Else the first item that is left is the frame's own; without it, or without the shared
-- item, the rule is broken.
use Rattle.std.specs.Prelude.{Option, ℕ}
use mathlib.Core.Path.{sym, ap, ◌∙◌}
use native.Mathlib.Omega.{arith}
use mathlib.Core.Bool.{Bool, cond}
use borrow.Author.Tests.{le-ltb}
use Rattle.node.specs.Nodes.{nodes_of}
use Rattle.node.proofs.Laws as node_laws
use Rattle.rules_frame.specs.Internal.{shared_part}
use Rattle.conformance.specs.Internal.{no_part, part_for}
use Rattle.conformance.proofs.FrameRules as frames
use Rattle.conformance.proofs.rule_holds.Goals as goal

pub item_rule-requires : goal.item_rule-requires
item_rule-requires c =
    let p = c.requires in
    let a = c.args in
    let each = sym c.is_per_frame.ensures ∙ c.if-not-is_per_frame.false in (
      node_laws.within _ c.in-Some.is p.0,
      (
        omega (arith, c.if-items.true, (p.1.1.1.along each).inner),
        p.1.1.0 ∙ ap (λ (x : Option ℕ). part_for (nodes_of a.set.now) a.rule x) c.in-Some.is
            ∙ ap (λ (t : Bool). cond t (shared_part (nodes_of a.set.now) a.rule c.in-Some.s) no_part) each,
      ),
    )

pub returns-in_default : goal.returns-in_default
returns-in_default c =
    let p = c.requires in
    let a = c.args in
    let each = sym c.is_per_frame.ensures ∙ c.if-not-is_per_frame.false in
    rw (frames.asked (nodes_of a.set.now) a.frame a.rule each, sym p.1.0 ∙ c.in_default.is)

pub returns-then-items : goal.returns-then-items
returns-then-items c =
    let p = c.requires in
    let a = c.args in
    let each = sym c.is_per_frame.ensures ∙ c.if-not-is_per_frame.false in
    rw (
      frames.asked (nodes_of a.set.now) a.frame a.rule each,
      sym p.1.0 ∙ c.in-Some.is,
      frames.item-here (nodes_of a.set.now) a.frame a.items (p.1.1.1.from each) (p.1.1.1.along each) c.if-items.true,
    ) c.item_rule.ensures

pub returns-else-items : goal.returns-else-items
returns-else-items c =
    let p = c.requires in
    let a = c.args in
    let each = sym c.is_per_frame.ensures ∙ c.if-not-is_per_frame.false in
    rw (
      frames.asked (nodes_of a.set.now) a.frame a.rule each,
      sym p.1.0 ∙ c.in-Some.is,
      frames.item-none (nodes_of a.set.now) a.frame a.items (p.1.1.1.from each) (p.1.1.1.along each) c.if-items.false,
      le-ltb _ _ c.if-items.false,
    )
