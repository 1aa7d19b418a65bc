-- Where rule 30 held as it was, it holds.
use Rattle.std.specs.Prelude.{Option, Some, None}
use mathlib.Core.Path.{◌≡◌, refl, ap, ◌∙◌}
use mathlib.Core.Bool.{Bool, true, false, cond, ◌&&◌}
use mathlib.Core.List.{List, [], ◌∷◌}
use Prim.Native.Nat.{ℕ, ◌*◌, ◌≤◌}
use native.Mathlib.Omega.{arith}
use lib.Dec.{eqb}
use lib.ListN.{length}
use borrow.Author.Tests.{le-leb, leb-true, eqb-true}
use Rattle.value.specs.declared.Signed.{Signed}
use Rattle.value.specs.declared.Signed.TheVariants as signed
use Rattle.value.specs.declared.Function.{Function}
use Rattle.value.specs.declared.Function.TheVariants as function
use Rattle.value.specs.Text.{values_of}
use Rattle.value.specs.Words.{is_function}
use Rattle.value.specs.Number as current
use Rattle.value.specs.Number.{is_number, is_width, all}
use Rattle.basics.proofs.Tests.{and_both}
use Rattle.node.specs.Nodes.{Node, inside}
use Rattle.node.specs.Find.{holds, find_vr}
use Rattle.node.proofs.Tests.{holds_more, present-more}
use Rattle.basics.specs.Tags
use Rattle.basics.specs.Vr.{DS}
use Rattle.element.specs.Elements.{value_at, the_item, function_in}
use Rattle.element.specs.Frames.{shared_item, frame_item, group_of}
use Rattle.rules.specs.Frame as rules
use Rattle.rules.specs.All as list
use Rattle.conformance.specs.declared.Finding.TheVariants.{Accepted}
use Rattle.conformance.specs.Judging.{finding_of}
use Rattle.conformance.proofs.First.{holds-accepted}
use Rattle.display.proofs.Objects.{width-number}
use Rattle.thousandths.specs.Number.{decimal_of_before, least_width_before, all_decimals_before, all_widths_before, factor, scaled}
use Rattle.thousandths.specs.Rule30.{is_window_before, has_window_before, is_voi_before, item30_before, rule30_before, rule_at_before}
use Rattle.thousandths.specs.Kept.{AcceptedBefore}
use Rattle.thousandths.proofs.Numbers.{numbers}

-- ---- A test that asks more

all_more : (p q : List ℕ → Bool) → ((v : List ℕ) → p v ≡ true → q v ≡ true) → (vs : List (List ℕ)) → all p vs ≡ true → all q vs ≡ true
unfolding all
all_more p q h [] e = refl
all_more p q h (v ∷ vs) e =
    let b = and_both (p v) (all p vs) e in
    rw (h v b.0, all_more p q h vs b.1)

-- ---- Numbers and widths

pub number-scaled : (s : Option Signed) → is_number s ≡ true → is_number (scaled s) ≡ true
number-scaled (Some (signed.Plus n)) e = refl
number-scaled (Some (signed.Minus n)) e = refl
number-scaled None e = e

least-scaled : (f : Option Function) → current.least_width f ≤ factor * least_width_before f
least-scaled (Some function.Linear) = omega arith
least-scaled (Some function.Exact) = omega arith
least-scaled None = omega arith

width-scaled : (f : Option Function) (s : Option Signed) → is_width (least_width_before f) s ≡ true → is_width (current.least_width f) (scaled s) ≡ true
width-scaled f (Some (signed.Plus n)) e =
    le-leb (current.least_width f) (factor * n) (omega (arith, least-scaled f, leb-true (least_width_before f) n e))
width-scaled f (Some (signed.Minus n)) e = e
width-scaled f None e = e

number-now : (v : List ℕ) → is_number (decimal_of_before v) ≡ true → is_number (current.decimal_of v) ≡ true
number-now v e = ap is_number (numbers v e) ∙ number-scaled (decimal_of_before v) e

width-now : (f : Option Function) (v : List ℕ) → is_width (least_width_before f) (decimal_of_before v) ≡ true
    → is_width (current.least_width f) (current.decimal_of v) ≡ true
width-now f v e = ap (is_width (current.least_width f)) (numbers v (width-number (least_width_before f) (decimal_of_before v) e))
    ∙ width-scaled f (decimal_of_before v) e

-- ---- Rule 30

window-now : (f : Option Function) (c w : List ℕ) → is_window_before f c w ≡ true → rules.is_window f c w ≡ true
unfolding is_window_before rules.is_window all_decimals_before all_widths_before current.all_decimals current.all_widths
window-now f c w e =
    let k = and_both (is_function f)
    (eqb (length (values_of c)) (length (values_of w)) && (all_decimals_before c && all_widths_before (least_width_before f) w)) e in
    let a = and_both (eqb (length (values_of c)) (length (values_of w)))
    (all_decimals_before c && all_widths_before (least_width_before f) w) k.1 in
    let b = and_both (all_decimals_before c) (all_widths_before (least_width_before f) w) a.1 in
    rw (
      k.0,
      a.0,
      all_more (λ d. is_number (decimal_of_before d)) (λ d. is_number (current.decimal_of d)) number-now (values_of c) b.0,
      all_more (λ d. is_width (least_width_before f) (decimal_of_before d)) (λ d. is_width (current.least_width f) (current.decimal_of d))
          (width-now f) (values_of w) b.1,
    )

module _ (ns : List Node) where
  has-now : (is : List ℕ) → has_window_before ns is ≡ true → rules.has_window ns is ≡ true
  unfolding has_window_before rules.has_window
  has-now is e =
      holds_more (find_vr ns Tags.WindowCenter DS is) _ _
      (λ c. holds_more (find_vr ns Tags.WindowWidth DS is) (λ w. is_window_before (function_in ns is) (value_at ns c) (value_at ns w))
      (λ w. rules.is_window (function_in ns is) (value_at ns c) (value_at ns w))
      (λ w. window-now (function_in ns is) (value_at ns c) (value_at ns w)))
      e

  voi-now : (g : ℕ) → is_voi_before ns g ≡ true → rules.is_voi ns g ≡ true
  unfolding is_voi_before rules.is_voi
  voi-now g e = holds_more (the_item ns g) (λ j. has_window_before ns (inside ns j)) (λ j. rules.has_window ns (inside ns j))
      (λ j. has-now (inside ns j)) e

  item-now : (s i : ℕ) → item30_before ns s i ≡ true → rules.item30 ns s i ≡ true
  unfolding item30_before rules.item30
  item-now s i e = present-more (group_of ns Tags.FrameVOILUTSequence s i) (is_voi_before ns) (rules.is_voi ns) voi-now e

  rule-now : (f : ℕ) → rule30_before ns f ≡ true → rules.rule30 ns f ≡ true
  unfolding rule30_before rules.rule30
  rule-now f e =
      holds_more (shared_item ns) (λ s. holds (frame_item ns f) (λ i. item30_before ns s i))
      (λ s. holds (frame_item ns f) (λ i. rules.item30 ns s i))
      (λ s. holds_more (frame_item ns f) (λ i. item30_before ns s i) (λ i. rules.item30 ns s i) (λ i. item-now s i)) e

  -- ---- The rule list

  thirty : (f : ℕ) → list.rule_at ns 30 f ≡ rules.rule30 ns f
  unfolding list.rule_at list.rule_list
  thirty f = refl

  pub held : (f : ℕ) → rule_at_before ns 30 f ≡ true → rule30_before ns f ≡ true
  unfolding rule_at_before
  held f e = e

  at-now : (rule f : ℕ) → rule_at_before ns rule f ≡ true → list.rule_at ns rule f ≡ true
  unfolding rule_at_before
  at-now rule f e = go (eqb rule 30) refl e
    where
      go : (t : Bool) → eqb rule 30 ≡ t → cond t (rule30_before ns f) (list.rule_at ns rule f) ≡ true → list.rule_at ns rule f ≡ true
      go true q e = rw (eqb-true rule 30 q) (thirty f ∙ rule-now f e)
      go false q e = e

  pub accepted : AcceptedBefore ns → finding_of ns ≡ Accepted
  accepted a = holds-accepted ns (λ rule l h f from below. at-now rule f (a rule l (omega arith) f from below))
