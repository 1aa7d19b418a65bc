-- The largest move less a move of at most that size is from 0 to twice the largest (`Places`).
use native.Mathlib.Omega.{arith}
use Rattle.value.proofs.Laws.{below-plus, below-minus, some-is}
use Rattle.shift.specs.Internal.{too_far}
use Rattle.pixel.proofs.Places.{offset-plus, offset-minus, offset-none}
use Rattle.pixel.proofs.offset_of.Goals as goal

pub overflow_sub-result : goal.overflow_sub-result
overflow_sub-result c =
    omega (arith, below-plus too_far _ _ (some-is c.in-Some-Plus.is (rw c.in-Some-Plus.is at c.in-Some-Plus.field-0-is)) c.requires)

pub overflow_add-result : goal.overflow_add-result
overflow_add-result c =
    omega (arith, below-minus too_far _ _ (some-is c.in-Some-Minus.is (rw c.in-Some-Minus.is at c.in-Some-Minus.field-0-is)) c.requires)

pub returns-in-Some-Plus : goal.returns-in-Some-Plus
returns-in-Some-Plus c =
    rw (some-is c.in-Some-Plus.is (rw c.in-Some-Plus.is at c.in-Some-Plus.field-0-is)) (offset-plus _ (below-plus too_far _ _ (some-is c.in-Some-Plus.is (rw c.in-Some-Plus.is at c.in-Some-Plus.field-0-is)) c.requires))

pub returns-in-Some-Minus : goal.returns-in-Some-Minus
returns-in-Some-Minus c =
    rw (some-is c.in-Some-Minus.is (rw c.in-Some-Minus.is at c.in-Some-Minus.field-0-is)) (offset-minus _ (below-minus too_far _ _ (some-is c.in-Some-Minus.is (rw c.in-Some-Minus.is at c.in-Some-Minus.field-0-is)) c.requires))

pub returns-in-None : goal.returns-in-None
returns-in-None c =
    rw c.in-None.is offset-none
