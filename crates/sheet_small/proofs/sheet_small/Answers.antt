-- The buffer has seven numbers for each 8 bytes that there may be, so the rows fit.
use mathlib.Core.Path.{sym, ap, ◌∙◌}
use native.Mathlib.Omega.{arith}
use lib.ListN.{length}
use Rattle.sheet.specs.declared.Sampled.{Sampled}
use Rattle.sheet.specs.Answer.{fields_of}
use Rattle.sheet.proofs.Answers.{counts-many}
use Rattle.sheet_small.proofs.Roomy.{roomy-sheet, never-eight}
use Rattle.sheet_small.proofs.sheet_small.Goals as goal

pub returns : goal.returns
returns c =
    let e = c.whole.ensures.answers.same ∙ roomy-sheet _ _ _ _ (omega (arith, c.row_buffer-rows.ensures, c.requires)) in record {
      value = e;
      fact = λ h. never-eight _ _ _ (ap (λ (r : Sampled). (fields_of r.answer).code) (sym e) ∙ h);
      counts_len = ap (λ (r : Sampled). length r.sheet.counts) c.whole.ensures.answers.same ∙ counts-many _ _ _ _;
    }
