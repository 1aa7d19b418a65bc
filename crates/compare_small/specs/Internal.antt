-- What `compare` answers if the row buffer is large enough, which is what the program prints.
use Rattle.std.specs.Prelude.{ℕ, List, Result}
use Rattle.dataset.specs.Answer.{flat}
use Rattle.dataset.specs.Tree.{rows_of}
use Rattle.compare.specs.declared.Comparison.{Comparison}
use Rattle.compare.specs.declared.CompareError.{CompareError}
use Rattle.compare.specs.Answer.{compare_of}

-- With a row buffer that the rows exactly fill; a larger one gives the same.
abbrev pub roomy_compare : List ℕ → ℕ → List ℕ → ℕ → Result Comparison CompareError
roomy_compare s f cells t = compare_of s f cells t (flat (rows_of s))
