-- A number that is no frame settles the answer; while each is one, the numbers that are left decide.
use mathlib.Core.Path.{◌≡◌}
use lib.ListN.{drop}
use Rattle.value.specs.Number.{us_values}
use Rattle.rules.specs.Mask.{all_frames}
use Rattle.rules_mask.proofs.all_frames.Given as goal

abbrev pub invariant-loop-k : goal.invariant-loop-k
invariant-loop-k l =
    all_frames l.n (drop l.k (us_values l.v)) ≡ all_frames l.n (us_values l.v)
