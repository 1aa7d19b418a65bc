-- A plus raises the power to multiply by, a minus the power to divide by, and neither sum is large enough to wrap.
use mathlib.Core.Path.{sym, ap, ◌∙◌}
use native.Mathlib.Omega.{arith}
use Prim.Native.Nat.{◌^◌}
use Rattle.value.specs.Number.{characters, scaled_by}
use Rattle.value.proofs.Laws as laws
use Rattle.value.proofs.scaled.Goals as goal

pub overflow_add-e : goal.overflow_add-e
overflow_add-e c =
    omega (arith, laws.below-plus (10 ^ characters) _ c.args.exponent (laws.some-is c.in-Some-Plus.is (rw c.in-Some-Plus.is at c.in-Some-Plus.field-0-is)) c.requires.1.1)

pub overflow_add-after : goal.overflow_add-after
overflow_add-after c =
    omega (arith, laws.below-minus (10 ^ characters) _ c.args.exponent (laws.some-is c.in-Some-Minus.is (rw c.in-Some-Minus.is at c.in-Some-Minus.field-0-is)) c.requires.1.1)

pub returns-in-Some-Plus : goal.returns-in-Some-Plus
returns-in-Some-Plus c =
    c.exact.ensures ∙ sym (ap (scaled_by c.args.m c.args.after) (laws.some-is c.in-Some-Plus.is (rw c.in-Some-Plus.is at c.in-Some-Plus.field-0-is)))

pub returns-in-Some-Minus : goal.returns-in-Some-Minus
returns-in-Some-Minus c =
    c.exact-in-Some-Minus.ensures ∙ sym (ap (scaled_by c.args.m c.args.after) (laws.some-is c.in-Some-Minus.is (rw c.in-Some-Minus.is at c.in-Some-Minus.field-0-is)))
