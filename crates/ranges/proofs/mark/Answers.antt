-- A frame's mark is the largest last frame of the pairs that start there, and each pair can only raise it.
use mathlib.Core.Path.{sym, ap, ◌∙◌}
use Prim.Native.Nat.{max}
use native.Mathlib.Omega.{arith}
use native.Mathlib.Nat.{max-zero}
use lib.ListN.{get_or}
use Rattle.ranges.proofs.Tables as tables
use Rattle.ranges.proofs.mark.Goals as goal

pub loop-k-preserved : goal.loop-k-preserved
loop-k-preserved c = λ i.
    tables.mark-more c.args.v.now c.loop-k.k c.us_value-first.result
    c.us_value-last.result
    c.us_value-first.ensures.value c.us_value-last.ensures.value
    (omega arith) c.loop-k.reach
    c.max.result
    i (omega arith) c.max.ensures
    ∙ c.loop-k.invariant i

pub returns : goal.returns
returns c =
    record {
      each = λ i. sym (max-zero (get_or c.loop-k.reach i 0))
          ∙ (ap (max (get_or c.loop-k.reach i 0)) (sym (tables.marks-end i c.args.v.now c.loop-k.k (omega arith)))
          ∙ c.loop-k.invariant i);
    }
