-- Two values make a pair: a pair that holds the frame settles it, any other leaves the pairs behind it to decide.
use Prim.Native.Nat.{◌*◌}
use lib.ListN.{drop}
use Rattle.value.specs.Number.{us_values}
use Rattle.steps.specs.Steps.{is_in_pairs}
use mathlib.Core.Path.{◌≡◌}
use Rattle.steps.proofs.is_in_pairs.Given as goal

abbrev pub invariant-loop-k : goal.invariant-loop-k
invariant-loop-k l =
    is_in_pairs l.frame (drop (2 * l.k) (us_values l.v)) ≡ is_in_pairs l.frame (us_values l.v)
