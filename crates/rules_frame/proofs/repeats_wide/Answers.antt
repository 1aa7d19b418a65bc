-- What is left of the frame's item comes to what all of it comes to; what the walk has passed in the shared item is asked for no more.
use Rattle.node.proofs.Laws as node_laws
use mathlib.Core.Path.{refl, sym, ap, ◌∙◌}
use Prim.Native.Nat.{ℕ, ◌+◌}
use native.Mathlib.Omega.{arith}
use Rattle.node.specs.Nodes.{nodes_of, node_at, members, inside}
use Rattle.node.specs.Internal.{from_tag}
use Rattle.node.proofs.Halves.{inside-ascends, node-container}
use Rattle.element.proofs.Every.{some_end, some-here, some_next}
use Rattle.rules.specs.Frame.{repeats_shared}
use Rattle.rules_frame.proofs.Merge.{ahead-start, ahead-asks, ahead-here, ahead_none, ahead-next}
use Rattle.rules_frame.proofs.repeats_wide.Goals as goal

pub loop-j-init : goal.loop-j-init
unfolding repeats_shared
loop-j-init c =
    let p = c.requires in (
      rw (← c.next-end.ensures.0),
      ahead-start _ _ _ _ _ c.next-end.ensures.0 c.next-to.ensures.0 (inside-ascends _ _ (node_laws.tabled c.args.set.now) c.args.item p.1),
    )

pub reach-k-requires : goal.reach-k-requires
reach-k-requires c =
    let a = c.args in
    let p = c.requires in
    let ns = nodes_of a.set.now in
    let n = c.next-to.ensures.0 in
    let asks = ahead-asks _ _ _ _ _ _ c.loop-j-test.true c.loop-j.invariant.1 in (
      node-container _ _ (node_laws.tabled c.args.set.now) a.shared p.0 _ n,
      rw c.tag.ensures (asks ∙ sym (ap (λ (t : ℕ). from_tag ns (node_at ns c.loop-j.j).tag (members ns (a.shared + 1) t)) n)),
    )

pub returns-then-to-k : goal.returns-then-to-k
returns-then-to-k c =
    let a = c.args in
    let p = c.requires in
    let inside-j = c.loop-j-test.true in
    let inv = c.loop-j.invariant in
    let from = c.reach-k.ensures ∙ ap (λ (t : ℕ).
    from_tag (nodes_of a.set.now) c.tag.result (members (nodes_of a.set.now) (a.shared + 1) t))
    c.next-to.ensures.0 ∙ ap (λ (t : ℕ). from_tag (nodes_of a.set.now) t (inside (nodes_of a.set.now) a.shared))
    c.tag.ensures in
    let none = ahead_none _ _ _ _ _ _ inside-j inv.1 c.reach-k.result from c.if-to-k.true
    (inside-ascends _ _ (node_laws.tabled c.args.set.now) a.shared p.0) in
    sym none ∙ inv.0

pub returns-then-is_repeated : goal.returns-then-is_repeated
returns-then-is_repeated c =
    let a = c.args in
    let p = c.requires in
    let inside-j = c.loop-j-test.true in
    let inv = c.loop-j.invariant in
    let from = c.reach-k.ensures ∙ ap
    (λ (t : ℕ). from_tag (nodes_of a.set.now) c.tag.result (members (nodes_of a.set.now) (a.shared + 1) t))
    c.next-to.ensures.0
    ∙ ap (λ (t : ℕ). from_tag (nodes_of a.set.now) t (inside (nodes_of a.set.now) a.shared)) c.tag.ensures in
    let here = ahead-here _ _ _ _ _ _ inside-j inv.1 c.reach-k.result from (inside-ascends _ _ (node_laws.tabled c.args.set.now) a.shared p.0) in
    sym (some-here _ _ _ _ inside-j (here ∙ sym c.is_repeated.ensures ∙ c.if-is_repeated.true)) ∙ inv.0

pub loop-j-preserved : goal.loop-j-preserved
loop-j-preserved c =
    let a = c.args in
    let p = c.requires in
    let inside-j = c.loop-j-test.true in
    let inv = c.loop-j.invariant in
    let from = c.reach-k.ensures ∙ ap
    (λ (t : ℕ). from_tag (nodes_of a.set.now) c.tag.result (members (nodes_of a.set.now) (a.shared + 1) t))
    c.next-to.ensures.0
    ∙ ap (λ (t : ℕ). from_tag (nodes_of a.set.now) t (inside (nodes_of a.set.now) a.shared)) c.tag.ensures in
    let here = ahead-here _ _ _ _ _ _ inside-j inv.1 c.reach-k.result from (inside-ascends _ _ (node_laws.tabled c.args.set.now) a.shared p.0) in
    rw c.next-j.ensures.0 (
      sym (some_next _ _ _ _ _ refl inside-j (here ∙ sym c.is_repeated.ensures ∙ c.if-is_repeated.false)) ∙ inv.0,
      ahead-next _ _ _ _ _ _ inside-j inv.1 c.reach-k.result from,
    )

pub returns : goal.returns
returns c = sym (some_end _ _ _ _ (omega (arith, c.loop-j-test.false))) ∙ c.loop-j.invariant.0
