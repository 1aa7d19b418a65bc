-- Two values make a pair: a pair that holds the frame settles it, any other leaves the pairs behind it to decide.
use mathlib.Core.Path.{sym, ◌∙◌}
use native.Mathlib.Omega.{arith}
use Rattle.steps.proofs.Laws as laws
use Rattle.steps.proofs.is_in_pairs.Goals as goal

pub returns-then-is_in_pair : goal.returns-then-is_in_pair
returns-then-is_in_pair c =
    sym (laws.pairs-here _ _ _ _ _ c.us_value-first.ensures.value c.us_value-last.ensures.value (omega arith)
    (sym c.is_in_pair.ensures ∙ c.if-is_in_pair.true)) ∙ c.loop-k.invariant

pub loop-k-preserved : goal.loop-k-preserved
loop-k-preserved c =
    sym (laws.pairs_next _ _ _ _ _ c.us_value-first.ensures.value c.us_value-last.ensures.value (omega arith)
    (sym c.is_in_pair.ensures ∙ c.if-is_in_pair.false)) ∙ c.loop-k.invariant

pub returns : goal.returns
returns c =
    sym (laws.pairs_end c.args.frame c.args.v.now c.loop-k.k (omega arith)) ∙ c.loop-k.invariant
