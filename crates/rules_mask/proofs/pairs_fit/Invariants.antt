-- Two values make a pair: a pair that does not fit settles it, while each fits the pairs that are left decide.
use mathlib.Core.Path.{◌≡◌}
use Prim.Native.Nat.{◌*◌}
use lib.ListN.{drop}
use Rattle.value.specs.Number.{us_values}
use Rattle.rules.specs.Mask.{pairs_fit}
use Rattle.rules_mask.proofs.pairs_fit.Given as goal

abbrev pub invariant-loop-k : goal.invariant-loop-k
invariant-loop-k l =
    pairs_fit l.n (drop (2 * l.k) (us_values l.v)) ≡ pairs_fit l.n (us_values l.v)
