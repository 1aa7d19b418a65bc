-- The parts between backslashes are the values, and `nth` takes one; where there are fewer the value is empty.
use Rattle.std.proofs.Common.{◌≡◌, List, ℕ, [], eqb, get_or, refl, ap, ◌∙◌, rules, tests, Option, Some, None, Bor}
use Rattle.std.specs.List.{slice_get, slice_split}
use Rattle.std.specs.Option.{option_map, unwrap_or}
use Rattle.std.proofs.lemmas.Option.{unwrap_or-slice_get}
use Rattle.std.proofs.lemmas.Iterator.Consumers.{nth_from_yields_List}
use Rattle.std.proofs.lemmas.Iterator.Splits.{YieldsList-from_slice_split}
use Rattle.value.proofs.Parts.{parts-are}
use Rattle.value.proofs.value_of.Goals as goal

now-unwrap_or : (o : Option (Bor (List ℕ))) (d : Bor (List ℕ)) → (unwrap_or o d).now ≡ unwrap_or (option_map (λ x. x.now) o) d.now
now-unwrap_or None d = refl
now-unwrap_or (Some x) d = refl

pub returns : goal.returns
returns c =
    let v = c.args.v.now in
    let e : option_map (λ x. x.now) c.nth.result ≡ slice_get (slice_split (λ b. eqb b 0x5C) v) c.args.k = nth_from_yields_List c.nth.result _ c.args.k c.nth.ensures.ran
    (YieldsList-from_slice_split _ (λ b. eqb b 0x5C) v c.split.ensures.rest c.split.ensures.done c.split.ensures.closure (λ x b q k. search (rules, tests))) in
    ap (λ (x : Bor (List ℕ)). x.now) c.unwrap_or.ensures
    ∙ now-unwrap_or c.nth.result _
    ∙ ap (λ (o : Option (List ℕ)). unwrap_or o []) e
    ∙ unwrap_or-slice_get (slice_split (λ b. eqb b 0x5C) v) c.args.k []
    ∙ ap (λ (vs : List (List ℕ)). get_or vs c.args.k []) (parts-are v)
