-- Every answer of the judge is a possible verdict, and its row count is known.
use mathlib.Core.Path.{ap, ◌∙◌}
use Rattle.verdict.specs.Verdict.{writable}
use Rattle.slip.specs.Slip.{slip_of}
use Rattle.conformance.specs.Judging.{verdict_of}
use Rattle.conformance.proofs.Possible.{judge-possible}
use Rattle.write_slip_one.proofs.slip_for.Goals as goal

pub slip_of-requires : goal.slip_of-requires
slip_of-requires c =
    ap writable (c.verdict_of.ensures ∙ ap verdict_of c.judge_small.ensures) ∙ judge-possible _ _

pub returns : goal.returns
returns c =
    c.slip_of.ensures ∙ ap slip_of (c.verdict_of.ensures ∙ ap verdict_of c.judge_small.ensures)
