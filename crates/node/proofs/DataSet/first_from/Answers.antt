-- The loop keeps that the first member whose tag is not below the tag stands from `low` on and not after `high`.
use Rattle.node.proofs.Laws as laws
use native.Mathlib.Omega.{arith}
use Rattle.node.proofs.Halves as halves
use Rattle.node.proofs.DataSet.first_from.Goals as goal

pub loop-low-init : goal.loop-low-init
loop-low-init c =
    omega (arith, halves.first-within _ _ (laws.tabled _) c.args.up c.args.to c.requires c.args.wanted)

pub overflow_sub-high : goal.overflow_sub-high
overflow_sub-high c = omega (arith, c.loop-low-test.true)

pub overflow_add-low : goal.overflow_add-low
overflow_add-low c =
    let p = c.requires in
    omega (arith, c.loop-low-test.true, c.loop-low.invariant, p.ends, (laws.tabled c.args.self.now).few)

pub member_above-m-requires : goal.member_above-m-requires
member_above-m-requires c =
    let p = c.requires in
    let inv = c.loop-low.invariant in record {
      to = c.args.to;
      within = p;
      low = omega (arith, c.loop-low-test.true, inv);
      high = omega (arith, c.loop-low-test.true, inv);
    }

pub tag-requires : goal.tag-requires
tag-requires c =
    let p = c.requires in
    let up = c.member_above-m in halves.member-known _ _ (laws.tabled _) c.args.up c.args.to p _ up.result up.ensures
    (omega (arith, c.loop-low-test.true, c.loop-low.invariant))

pub next-low-requires : goal.next-low-requires
next-low-requires c =
    let p = c.requires in
    let up = c.member_above-m in halves.member-known _ _ (laws.tabled _) c.args.up c.args.to p _ up.result up.ensures
    (omega (arith, c.loop-low-test.true, c.loop-low.invariant))

pub loop-low-smaller-then-tag-wanted : goal.loop-low-smaller-then-tag-wanted
loop-low-smaller-then-tag-wanted c =
    omega (arith, c.loop-low-test.true, c.next-low.ensures.0, c.member_above-m.ensures.high)

pub loop-low-preserved-then-tag-wanted : goal.loop-low-preserved-then-tag-wanted
loop-low-preserved-then-tag-wanted c =
    let p = c.requires in
    let inv = c.loop-low.invariant in
    let inside = c.loop-low-test.true in
    let up = c.member_above-m in
    let s = halves.first-side _ _ (laws.tabled _) c.args.up c.args.to p _ up.result up.ensures
    (omega (arith, inside, inv)) c.args.wanted in
    let r = s.right (omega (arith, c.tag.ensures, c.if-tag-wanted.true)) in
    omega (arith, inv, up.ensures.after, c.next-low.ensures.0, r)

pub loop-low-smaller : goal.loop-low-smaller
loop-low-smaller c =
    omega (arith, c.loop-low-test.true, c.member_above-m.ensures.low)

pub loop-low-preserved : goal.loop-low-preserved
loop-low-preserved c =
    let p = c.requires in
    let inv = c.loop-low.invariant in
    let inside = c.loop-low-test.true in
    let up = c.member_above-m in
    let s = halves.first-side _ _ (laws.tabled _) c.args.up c.args.to p _ up.result up.ensures
    (omega (arith, inside, inv)) c.args.wanted in
    let r = s.left (omega (arith, c.tag.ensures, c.if-tag-wanted.false)) in
    omega (arith, inv, inside, up.ensures.low, r)

pub returns : goal.returns
returns c = omega (arith, c.loop-low.invariant, c.loop-low-test.false)
