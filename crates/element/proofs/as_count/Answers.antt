-- Only a number without a minus counts for what it is, and it keeps its bound.
use Rattle.value.proofs.Laws.{some-is}
use Rattle.std.specs.Prelude.{Option, Some}
use mathlib.Core.Path.{sym, ap, subst, ◌∙◌}
use Rattle.value.specs.declared.Signed.{Signed}
use Rattle.value.specs.Number.{integer_limit}
use Rattle.value.specs.Internal.{SizeBelow}
use Rattle.element.specs.Frames.{as_count}
use Rattle.element.proofs.as_count.Goals as goal

pub returns-in-Some-Plus : goal.returns-in-Some-Plus
returns-in-Some-Plus c =
    record {
      value = ap as_count (sym (some-is c.in-Some-Plus.is (rw c.in-Some-Plus.is at c.in-Some-Plus.field-0-is)));
      below = subst (λ (x : Option Signed). SizeBelow integer_limit x) (some-is c.in-Some-Plus.is (rw c.in-Some-Plus.is at c.in-Some-Plus.field-0-is)) c.requires;
    }
