-- What a helper of judging answers. None of this is in the papers.
use Rattle.std.specs.Prelude.{ℕ, List, Ok}
use Rattle.node.specs.Nodes.{Node}
use Rattle.conformance.specs.declared.Outcome.TheVariants as outcome
use Rattle.judge_small.specs.declared.Located.{Located}
use Rattle.judge_small.specs.Located.{located}

-- The answer that a rule is broken, with its row.
abbrev pub broken_at : List Node → ℕ → ℕ → ℕ → Located
broken_at ns n rule frame = located ns (Ok (outcome.Broken n rule frame))
