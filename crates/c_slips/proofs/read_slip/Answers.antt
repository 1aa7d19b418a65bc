-- The answer is the slip reader's, case by case; what reads well is a possible verdict, so its numbers fit 32 bits.
use Rattle.std.specs.Prelude.{Result}
use mathlib.Core.Path.{ap, sym, ◌∙◌}
use Rattle.verdict.specs.declared.Verdict.{Verdict}
use Rattle.slip.specs.declared.SlipError.{SlipError}
use Rattle.slip.specs.Slip.{read_slip_fields}
use Rattle.c_slips.specs.Slips.{hosted_slip}
use Rattle.c_slips.proofs.Fits.{slip-narrow}
use Rattle.c_slips.proofs.read_slip.Goals as goal

pub slip_of-requires : goal.slip_of-requires
slip_of-requires c =
    slip-narrow _ c.read_slip.ensures.same c.in-Ok.is

pub returns-in-Ok : goal.returns-in-Ok
returns-in-Ok c =
    c.slip_of.ensures
    ∙ ap (λ (a : Result Verdict SlipError). hosted_slip (read_slip_fields a)) (sym c.in-Ok.is ∙ c.read_slip.ensures.same)

pub returns-in-Err : goal.returns-in-Err
returns-in-Err c =
    rw (c.code_alone.ensures, c.into.ensures, c.code.ensures)
    (ap (λ (a : Result Verdict SlipError). hosted_slip (read_slip_fields a)) (sym c.in-Err.is ∙ c.read_slip.ensures.same))
