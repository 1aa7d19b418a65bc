-- The answer is reading's where that refuses; else what is left of the row table says whether the target is too short, and what was put
-- into it.
use mathlib.Core.Path.{sym, ◌∙◌}
use Prim.Native.Nat.{◌≤◌}
use native.Mathlib.Omega.{arith}
use borrow.Author.Tests.{ltb-true, ltb-false}
use lib.ListN.{length}
use Rattle.basics.proofs.Promised.{promised}
use Rattle.node.specs.Nodes.{nodes_of}
use Rattle.node.proofs.After.{after-reading, nodes-read}
use Rattle.canonical.specs.Written.{written_size}
use Rattle.canonical.proofs.Answers.{fitting-all, short-answer, done-answer, written-fits}
use Rattle.canonical.proofs.write_canonical.Goals.{else-target-bytes-via-then-target-bytes+else-lacks_room, else-target-bytes-via-else-target-bytes}
use Rattle.canonical.proofs.write_canonical.Goals as goal

pub new-set-requires : goal.new-set-requires
new-set-requires c =
    (after-reading c.args.bytes.now c.args.rows.now c.read.new.rows c.in_ok-n.n
    (sym c.in_ok-n.was ∙ c.read.ensures.answers.same) c.read.ensures.rows_after).1

pub span-requires : goal.span-requires
span-requires c =
    rw c.new-set.ensures (omega (
      arith,
      nodes-read c.args.bytes.now c.args.rows.now c.read.new.rows c.in_ok-n.n
          (sym c.in_ok-n.was ∙ c.read.ensures.answers.same) c.read.ensures.rows_after,
    ))

pub put_members-requires : goal.put_members-requires
put_members-requires c =
    let room : written_size (nodes_of c.args.bytes.now) ≤ length c.args.target.now = elim c.else-target-bytes.branch [
      | else-target-bytes-via-then-target-bytes+else-lacks_room w ↦ ltb-false _ _ (rw (← c.new-set.ensures, ← w.lacks_room.ensures) w.if-lacks_room.false)
      | else-target-bytes-via-else-target-bytes w ↦ omega (arith, w.if-target-bytes.false, written-fits c.args.bytes.now)
    ] in
    rw c.new-set.ensures (fitting-all c.args.bytes.now c.args.target.now
    (nodes-read c.args.bytes.now c.args.rows.now c.read.new.rows c.in_ok-n.n
    (sym c.in_ok-n.was ∙ c.read.ensures.answers.same) c.read.ensures.rows_after) room)

pub returns-then-lacks_room : goal.returns-then-lacks_room
returns-then-lacks_room c =
    let e = sym c.in_ok-n.was ∙ c.read.ensures.answers.same in
    let a = short-answer c.args.bytes.now c.args.rows.now c.args.target.now c.in_ok-n.n e
    (nodes-read c.args.bytes.now c.args.rows.now c.read.new.rows c.in_ok-n.n e c.read.ensures.rows_after) c.span.result
    (rw (← c.new-set.ensures) c.span.ensures.0)
    (ltb-true _ _ (rw (← c.new-set.ensures, ← c.lacks_room.ensures) c.if-lacks_room.true)) in
    record { answers = promised a.0; rows_after = c.read.ensures.rows_after; target_after = a.1 }

pub returns : goal.returns
returns c =
    let e = sym c.in_ok-n.was ∙ c.read.ensures.answers.same in
    let room : written_size (nodes_of c.args.bytes.now) ≤ length c.args.target.now = elim c.else-target-bytes.branch [
      | else-target-bytes-via-then-target-bytes+else-lacks_room w ↦ ltb-false _ _ (rw (← c.new-set.ensures, ← w.lacks_room.ensures) w.if-lacks_room.false)
      | else-target-bytes-via-else-target-bytes w ↦ omega (arith, w.if-target-bytes.false, written-fits c.args.bytes.now)
    ] in
    let a = done-answer c.args.bytes.now c.args.rows.now c.args.target.now c.in_ok-n.n e
    (nodes-read c.args.bytes.now c.args.rows.now c.read.new.rows c.in_ok-n.n e c.read.ensures.rows_after) c.put_members.result _
    (rw (← c.new-set.ensures) c.put_members.ensures) room in
    record { answers = promised a.0; rows_after = c.read.ensures.rows_after; target_after = a.1 }
