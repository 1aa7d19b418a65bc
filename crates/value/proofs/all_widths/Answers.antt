-- The parts between backslashes are the values, and `all` tests each.
use Rattle.std.proofs.Common.{List, ℕ, Bool, eqb, ap, ◌∙◌, rules, tests}
use Rattle.std.proofs.lemmas.Iterator.Search.{all_from_yields_List}
use Rattle.std.proofs.lemmas.Iterator.Splits.{YieldsList-from_slice_split}
use Rattle.value.specs.Number.{is_width, decimal_of, all, all_widths}
use Rattle.value.proofs.Parts.{parts-are, all-is}
use Rattle.value.proofs.all_widths.Goals as goal

pub returns : goal.returns
unfolding all_widths
returns c =
    let v = c.args.v.now in
    let passes : List ℕ → Bool = λ d. is_width c.args.least (decimal_of d) in
    all_from_yields_List passes _ _ _ c.all.ensures.ran
    (YieldsList-from_slice_split _ (λ b. eqb b 0x5C) v c.split.ensures.rest c.split.ensures.done c.split.ensures.closure (λ x b q k. search (rules, tests))) (λ x b q k. search (rules, tests))
    ∙ all-is passes _ ∙ ap (all passes) (parts-are v)
