-- A sequence is walked item by item; any other value ends where its length says.
use mathlib.Core.Path.{sym}
use native.Mathlib.Omega.{arith}
use Rattle.dataset.proofs.Level as level
use Rattle.meta.proofs.past.Goals as goal

pub returns-then-vr-eq-SQ : goal.returns-then-vr-eq-SQ
returns-then-vr-eq-SQ c =
    level.of-run (sym (level.value-items 8 c.args.file.now c.args.first c.args.vr c.args.value
    (λ z. absurd (omega (arith, z))) c.if-vr-eq-SQ.true)) c.items.ensures

pub returns-else-vr-eq-SQ : goal.returns-else-vr-eq-SQ
returns-else-vr-eq-SQ c =
    level.leaf _ c.args.value c.args.first c.args.none.now c.requires.0.start
    (level.value-plain 8 c.args.file.now c.args.first c.args.vr c.args.value c.if-vr-eq-SQ.false)
