-- Nodes put one after another: a turn puts the value, all that is below the node, and then the header. The nodes below are fewer, so the
-- calls end.
use mathlib.Core.Path.{refl}
use native.Mathlib.Omega.{arith}
use Rattle.node.specs.Nodes.{nodes_of}
use Rattle.node.proofs.Laws.{tabled}
use Rattle.canonical.proofs.Members.{going-first, going_next, going-last, turn-known, turn-room, turn-fits, turn-next}
use Rattle.canonical.proofs.Members.{turn_end, wrote-node, wrote-leaf}
use Rattle.canonical.proofs.+put_members.Goals as goal

pub loop-i-init : goal.loop-i-init
loop-i-init t c =
    going-first c.requires

pub tag-tag-requires : goal.tag-tag-requires
tag-tag-requires t c =
    turn-known c.args.set.now c.requires c.loop-i.invariant (omega arith)

pub vr-vr-requires : goal.vr-vr-requires
vr-vr-requires t c =
    turn-known c.args.set.now c.requires c.loop-i.invariant (omega arith)

pub next-next-requires : goal.next-next-requires
next-next-requires t c =
    turn-known c.args.set.now c.requires c.loop-i.invariant (omega arith)

pub value-value-requires : goal.value-value-requires
value-value-requires t c =
    turn-known c.args.set.now c.requires c.loop-i.invariant (omega arith)

pub overflow_add-inside : goal.overflow_add-inside
overflow_add-inside t c =
    omega (
      arith,
      turn-room c.args.set.now c.requires c.loop-i.invariant (omega arith) c.vr-vr.ensures
          c.value-value.ensures,
      c.head_size-head.ensures,
    )

pub put_bytes-requires : goal.put_bytes-requires
put_bytes-requires t c =
    omega (
      arith,
      turn-room c.args.set.now c.requires c.loop-i.invariant (omega arith) c.vr-vr.ensures
          c.value-value.ensures,
      c.head_size-head.ensures,
    )

pub overflow_add-after : goal.overflow_add-after
overflow_add-after t c =
    omega (
      arith,
      turn-room c.args.set.now c.requires c.loop-i.invariant (omega arith) c.vr-vr.ensures
          c.value-value.ensures,
      c.head_size-head.ensures,
    )

pub overflow_add-i : goal.overflow_add-i
overflow_add-i t c =
    omega (arith, turn-known c.args.set.now c.requires c.loop-i.invariant (omega arith), (tabled c.args.set.now).few)

pub put_header-requires : goal.put_header-requires
put_header-requires t c = (
  c.head_size-head.ensures.0,
  omega (
    arith,
    turn-room c.args.set.now c.requires c.loop-i.invariant
        (omega arith) c.vr-vr.ensures c.value-value.ensures,
    c.put_bytes.ensures.kept,
    c.head_size-head.ensures,
  ),
)

pub loop-i-smaller-then-next-i : goal.loop-i-smaller-then-next-i
loop-i-smaller-then-next-i t c =
    omega (arith, turn-next c.args.set.now c.requires c.loop-i.invariant (omega arith) c.next-next.ensures.0)

pub loop-i-preserved-then-next-i : goal.loop-i-preserved-then-next-i
loop-i-preserved-then-next-i t c =
    going_next c.args.set.now c.requires c.loop-i.invariant (omega arith) c.next-next.ensures.0
    (wrote-leaf (nodes_of c.args.set.now) c.loop-i.i
    (turn-known c.args.set.now c.requires c.loop-i.invariant (omega arith)) c.tag-tag.ensures
    c.vr-vr.ensures c.value-value.ensures c.next-next.ensures.0 c.if-next-i.true
    (omega (arith, c.head_size-head.ensures)) c.put_bytes.ensures c.put_header.ensures)

pub overflow_add-i-in-loop-i : goal.overflow_add-i-in-loop-i
overflow_add-i-in-loop-i t c =
    omega (
      arith,
      turn-known
          c.args.set.now
          c.requires
          c.loop-i.invariant (omega arith),
      (tabled c.args.set.now).few,
    )

pub put_members-end-requires : goal.put_members-end-requires
put_members-end-requires t c =
    let n = turn-next c.args.set.now c.requires c.loop-i.invariant (omega arith) c.next-next.ensures.0 in (
      omega (arith, c.decreases, c.loop-i.invariant.low, n),
      turn-fits c.args.set.now c.requires
          c.loop-i.invariant (omega arith) c.vr-vr.ensures c.value-value.ensures
          (omega (arith, c.head_size-head.ensures))
          refl c.next-next.ensures.0 c.put_bytes.ensures.kept,
    )

pub overflow_sub-end : goal.overflow_sub-end
overflow_sub-end t c =
    omega (
      arith,
      turn_end c.args.set.now c.requires c.loop-i.invariant (omega arith) c.next-next.ensures.0
          c.put_members-end.ensures,
    )

pub put_header-requires-in-loop-i : goal.put_header-requires-in-loop-i
put_header-requires-in-loop-i t c = (
  c.head_size-head.ensures.0,
  omega (
    arith,
    turn-room c.args.set.now c.requires c.loop-i.invariant
        (omega arith) c.vr-vr.ensures c.value-value.ensures,
    c.put_members-end.ensures.kept,
    c.put_bytes.ensures.kept,
    c.head_size-head.ensures,
  ),
)

pub loop-i-smaller : goal.loop-i-smaller
loop-i-smaller t c =
    omega (arith, turn-next c.args.set.now c.requires c.loop-i.invariant (omega arith) c.next-next.ensures.0)

pub loop-i-preserved : goal.loop-i-preserved
loop-i-preserved t c =
    going_next c.args.set.now c.requires c.loop-i.invariant (omega arith) c.next-next.ensures.0
    (wrote-node (nodes_of c.args.set.now) c.loop-i.i
    (turn-known c.args.set.now c.requires c.loop-i.invariant (omega arith)) c.tag-tag.ensures
    c.vr-vr.ensures c.value-value.ensures c.next-next.ensures.0 (omega (arith, c.head_size-head.ensures))
    c.put_bytes.ensures refl c.put_members-end.ensures refl c.put_header-in-loop-i.ensures
    (omega (
      arith,
      turn_end c.args.set.now c.requires c.loop-i.invariant (omega arith) c.next-next.ensures.0
          c.put_members-end.ensures,
    )))

pub returns : goal.returns
returns t c =
    going-last c.loop-i.invariant (omega arith)
