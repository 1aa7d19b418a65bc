-- The loop keeps that node i is m or below it.
use Rattle.node.proofs.Laws as laws
use mathlib.Core.Path.{◌≡◌, sym, ◌∙◌}
use Prim.Native.Nat.{◌-◌}
use native.Mathlib.Omega.{arith}
use Rattle.node.proofs.Halves as halves
use Rattle.node.proofs.DataSet.member_above.Goals as goal

pub loop-up-init : goal.loop-up-init
loop-up-init c = omega (arith, c.requires.low)

pub parent-above-requires : goal.parent-above-requires
parent-above-requires c =
    let p = c.requires in
    omega (arith, c.loop-up.invariant, p.high, p.within.ends)

pub returns-then-above-up : goal.returns-then-above-up
returns-then-above-up c =
    let inv = c.loop-up.invariant in
    record { held = sym c.parent-above.ensures ∙ c.if-above-up.true; after = inv.0; low = inv.1.0; high = inv.1.1 }

pub overflow_sub-m : goal.overflow_sub-m
overflow_sub-m c =
    let p = c.requires in
    let h = p in
    let inv = c.loop-up.invariant in
    let n = halves.step-up _ _ (laws.tabled _) c.args.up h.to h.within c.args.i c.loop-up.m inv.0
    inv.1.0 inv.1.1 h.high (λ e. c.if-above-up.false (c.parent-above.ensures ∙ e)) in
    omega (arith, c.parent-above.ensures, n.1.0)

pub loop-up-smaller : goal.loop-up-smaller
loop-up-smaller c =
    let p = c.requires in
    let h = p in
    let inv = c.loop-up.invariant in
    let n = halves.step-up _ _ (laws.tabled _) c.args.up h.to h.within c.args.i c.loop-up.m inv.0
    inv.1.0 inv.1.1 h.high (λ e. c.if-above-up.false (c.parent-above.ensures ∙ e)) in
    omega (arith, c.parent-above.ensures, n.1)

pub loop-up-preserved : goal.loop-up-preserved
loop-up-preserved c =
    let p = c.requires in
    let h = p in
    let inv = c.loop-up.invariant in
    let n = halves.step-up _ _ (laws.tabled _) c.args.up h.to h.within c.args.i c.loop-up.m inv.0
    inv.1.0 inv.1.1 h.high (λ e. c.if-above-up.false (c.parent-above.ensures ∙ e)) in
    let e : c.parent-above.result - 1 ≡ n.0 = omega (arith, c.parent-above.ensures, n.1.0) in
    rw e (n.1.1.0, (omega (arith, n.1, inv), n.1.1.1.1))
