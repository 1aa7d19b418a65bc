-- What is left of the frame's item comes to what all of it comes to; what the walk has passed in the shared item is asked for no more.
use Rattle.node.proofs.Laws as node_laws
use mathlib.Core.Path.{refl, sym, ◌∙◌}
use native.Mathlib.Omega.{arith}
use Rattle.node.proofs.Halves.{inside-ascends}
use Rattle.element.proofs.Every.{some_end, some-here, some_next}
use Rattle.rules.specs.Frame.{repeats_shared}
use Rattle.rules_frame.proofs.Merge.{ahead-start, ahead-over, ahead-pass, ahead-at, ahead-here, ahead-next}
use Rattle.rules_frame.proofs.repeats_narrow.Goals as goal

pub loop-j-init : goal.loop-j-init
unfolding repeats_shared
loop-j-init c =
    let p = c.requires in (
      rw (← c.next-end.ensures.0),
      ahead-start _ _ _ _ _ c.next-end.ensures.0 c.next-to.ensures.0 (inside-ascends _ _ (node_laws.tabled c.args.set.now) c.args.item p.1),
    )

pub returns-then-to-k : goal.returns-then-to-k
returns-then-to-k c =
    let p = c.requires in
    let inv = c.loop-j.invariant in
    sym (ahead-over _ _ _ _ _ _ inv.1 c.if-to-k.true (inside-ascends _ _ (node_laws.tabled c.args.set.now) c.args.shared p.0)) ∙ inv.0

pub loop-j-preserved-then-tag : goal.loop-j-preserved-then-tag
loop-j-preserved-then-tag c =
    let inv = c.loop-j.invariant in
    rw c.next-k.ensures.0 (
      inv.0,
      ahead-pass _ _ _ _ _ _ inv.1 c.loop-j-test.true (omega (arith, c.if-to-k.false))
          (omega (arith, c.tag.ensures, c.tag-in-loop-j.ensures, c.if-tag.true)),
    )

pub returns-then-is_repeated : goal.returns-then-is_repeated
returns-then-is_repeated c =
    let p = c.requires in
    let inside-j = c.loop-j-test.true in
    let inv = c.loop-j.invariant in
    let from = ahead-at _ _ _ _ _ _ inv.1 inside-j (omega (arith, c.if-to-k.false))
    (omega (arith, c.tag.ensures, c.tag-in-loop-j.ensures, c.if-tag.false)) in
    let here = ahead-here _ _ _ _ _ _ inside-j inv.1 _ from (inside-ascends _ _ (node_laws.tabled c.args.set.now) c.args.shared p.0) in
    sym (some-here _ _ _ _ inside-j (here ∙ sym c.is_repeated.ensures ∙ c.if-is_repeated.true)) ∙ inv.0

pub loop-j-preserved : goal.loop-j-preserved
loop-j-preserved c =
    let p = c.requires in
    let inside-j = c.loop-j-test.true in
    let inv = c.loop-j.invariant in
    let from = ahead-at _ _ _ _ _ _ inv.1 inside-j (omega (arith, c.if-to-k.false))
    (omega (arith, c.tag.ensures, c.tag-in-loop-j.ensures, c.if-tag.false)) in
    let here = ahead-here _ _ _ _ _ _ inside-j inv.1 _ from (inside-ascends _ _ (node_laws.tabled c.args.set.now) c.args.shared p.0) in
    rw c.next-j.ensures.0 (
      sym (some_next _ _ _ _ _ refl inside-j (here ∙ sym c.is_repeated.ensures ∙ c.if-is_repeated.false)) ∙ inv.0,
      ahead-next _ _ _ _ _ _ inside-j inv.1 _ from,
    )

pub returns : goal.returns
returns c = sym (some_end _ _ _ _ (omega (arith, c.loop-j-test.false))) ∙ c.loop-j.invariant.0
