-- The two bits of a VR's second letter, among those of its first.
use mathlib.Core.Path.{◌≡◌, ◌∙◌, ap}
use Prim.Native.Nat.{ℕ, ◌+◌, ◌*◌, ◌/◌, ◌%◌}
use native.Mathlib.Omega.{arith}
use lib.Dec.{eqb}
use borrow.Author.Tests.{ne_eqb}
use Rattle.basics.specs.Vr.{form_of, listed}
use Rattle.basics.proofs.Forms.{no-form}
use Rattle.basics.proofs.vr_form.Goals as goal

pub returns-then-vr-eq-SQ : goal.returns-then-vr-eq-SQ
unfolding form_of listed
returns-then-vr-eq-SQ c = rw c.if-vr-eq-SQ.true

pub returns-then-second-eq2 : goal.returns-then-second-eq2
returns-then-second-eq2 c =
    let x : ℕ = c.args.vr in
    let e : x / 256 * 256 + 64 + x % 256 % 32 ≡ x = omega (arith, c.if-second-eq2.true) in
    c.forms_after.ensures (x % 256 % 32) (omega arith) ∙ ap form_of e

pub returns-else-second-eq2 : goal.returns-else-second-eq2
unfolding form_of listed
returns-else-second-eq2 c =
    let x : ℕ = c.args.vr in
    no-form (λ (y : ℕ). eqb (y % 256 / 32) 2) x tt tt (ne_eqb (x % 256 / 32) 2 c.if-second-eq2.false)
