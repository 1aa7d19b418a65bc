-- An item takes only frames that are free, so after each the free frames are left to the items that follow, and after the last nothing is
-- left.
use Rattle.std.specs.Prelude.{Option, Some, None}
use mathlib.Core.Path.{◌≡◌, refl, sym, ap, ◌∙◌, subst}
use mathlib.Core.Bool.{Bool, true, false, cond}
use mathlib.Core.List.{List, [], ◌∷◌}
use mathlib.Core.Logic.{dite}
use Prim.Native.Nat.{ℕ, ◌+◌, ◌-◌, ◌≤◌, ◌<◌, max}
use native.Mathlib.Nat.{zero-max}
use native.Mathlib.Decide.{ℕ_discrete}
use native.Mathlib.Omega.{arith}
use lib.Dec.{leb}
use lib.ListN.{length, get_or}
use borrow.Author.Tests.{eq-eqb, ne_eqb, le-leb}
use Rattle.node.specs.Nodes.{Node}
use Rattle.steps.specs.Steps.{is_in_pairs, range_holds, first_holding}
use Rattle.steps.proofs.Laws.{holding-lacks, holding-here, holding-next}
use Rattle.ranges.specs.Internal.{mark_of, far_of, taken_by, Cleared, Marked, Covered, CoveredBy, CoveredAll, Tried, item_of, AllFound}
use Rattle.ranges.specs.Internal.{left_of, LeftToFind}
use Rattle.ranges.proofs.Reach.{in_reach, far-marks, far-first}

-- ---- Tests that answer or not

same_test : {o : Option Bool} {a b : Bool} → o ≡ Some a → o ≡ Some b → a ≡ b
same_test e f = cc

-- ---- Covering

pub covered-pairs : (n item : ℕ) (l marked0 marked1 before after : List ℕ) → Cleared (n + 1) marked0 → Marked l marked0 marked1
    → Covered n item marked1 before after → CoveredBy (λ f. is_in_pairs f l) n item before after
covered-pairs n item l marked0 marked1 before after z m h =
    record {
      each = λ f low high. h.each f low high
          ∙ ap (λ (t : Bool). taken_by (get_or before f 0) t item) (ap (leb f) (far-marks marked1 l n f marks high) ∙ sym (in_reach f l low));
    }
  where
    marks : (i : ℕ) → i ≤ n → get_or marked1 i 0 ≡ mark_of i l
    marks i k = m.each i ∙ (ap (λ (x : ℕ). max x (mark_of i l)) (z.each i (omega arith)) ∙ zero-max (mark_of i l))

pub covered-all : (n item : ℕ) (reach before after : List ℕ) → n < 65536 → get_or reach 0 0 ≡ 65535 → Covered n item reach before after
    → CoveredAll n item before after
covered-all n item reach before after few e h =
    record {
      each = λ f low high. h.each f low high
          ∙ ap (λ (t : Bool). taken_by (get_or before f 0) t item) (le-leb f (far_of reach f) (omega (arith, far-first reach f, e, high)));
    }

taken-kept : (old : ℕ) (t : Bool) (item : ℕ) → (old ≡ 0 → ⊥) → taken_by old t item ≡ old
unfolding taken_by
taken-kept old t item n = rw (ne_eqb old 0 n)

taken_free : (old : ℕ) (t : Bool) (item : ℕ) → old ≡ 0 → taken_by old t item ≡ cond t item 0
unfolding taken_by
taken_free old t item e = rw (eq-eqb old 0 e)

pub tried-by : (holds : ℕ → Bool) (o : ℕ → Option Bool) (n item : ℕ) (before after : List ℕ) → ((f : ℕ) → o f ≡ Some (holds f))
    → CoveredBy holds n item before after → Tried o n item before after
tried-by holds o n item before after s h =
    record {
      each = λ f low high t e. h.each f low high ∙ ap (λ (b : Bool). taken_by (get_or before f 0) b item) (same_test (s f) e);
      kept = λ f low high free. h.each f low high ∙ taken-kept (get_or before f 0) (holds f) item free;
    }

pub tried_same : (o q : ℕ → Option Bool) (n item : ℕ) (before after : List ℕ) → ((f : ℕ) → q f ≡ o f) → Tried o n item before after
    → Tried q n item before after
tried_same o q n item before after s h =
    record { each = λ f low high t e. h.each f low high t (sym (s f) ∙ e); kept = h.kept }

-- ---- One item after the other

pub left_end : (ns : List Node) (n : ℕ) (all which is : List ℕ) → is ≡ [] → LeftToFind ns n all is which → LeftToFind ns n all [] which
left_end ns n all which is h l = subst (λ (rest : List ℕ). LeftToFind ns n all rest which) h l

module _ (ns : List Node) (n : ℕ) (all before after is : List ℕ) (item : ℕ) (rest : List ℕ) (h : is ≡ item ∷ rest) (k : item < length ns)
    (held : AllFound ns n all) (l : LeftToFind ns n all is before)
    (t : Tried (λ f. range_holds ns f item) n (item + 1) before after) where
  module _ (f : ℕ) (low : 1 ≤ f) (high : f ≤ n) where
    kept : (get_or before f 0 ≡ 0 → ⊥)
        → (left_of ns f rest (get_or after f 0) ≡ first_holding ns f all) × (get_or after f 0 ≤ length ns)
    kept free =
        let same = t.kept f low high free in
        let now : left_of ns f is (get_or before f 0)
        ≡ Some (Some (get_or before f 0 - 1)) = rw (ne_eqb (get_or before f 0) 0 free) in
        let then : left_of ns f rest (get_or before f 0)
        ≡ Some (Some (get_or before f 0 - 1)) = rw (ne_eqb (get_or before f 0) 0 free) in
        (ap (left_of ns f rest) same ∙ (then ∙ (sym now ∙ l.each f low high)), omega (arith, same, l.below f low high))

    free : get_or before f 0 ≡ 0 → (o : Option Bool) → range_holds ns f item ≡ o
        → (left_of ns f rest (get_or after f 0) ≡ first_holding ns f all) × (get_or after f 0 ≤ length ns)
    free z None q = absurd
        (held.each f low high (sym (ap (left_of ns f is) (sym z) ∙ l.each f low high) ∙ holding-lacks ns f is item rest h q))
    free z (Some true) q =
        let w = t.each f low high true q ∙ taken_free (get_or before f 0) true (item + 1) z in
        let here : item + 1 - 1 ≡ item = omega arith in (
          ap (left_of ns f rest) w
              ∙ (rw (ne_eqb (item + 1) 0 (λ p. omega (arith, p)), here) (sym (holding-here ns f is item rest h q))
              ∙ (ap (left_of ns f is) (sym z) ∙ l.each f low high)),
          omega (arith, w, k),
        )
    free z (Some false) q =
        let w = t.each f low high false q ∙ taken_free (get_or before f 0) false (item + 1) z in (
          ap (left_of ns f rest) w
              ∙ (sym (holding-next ns f is item rest h q) ∙ (ap (left_of ns f is) (sym z) ∙ l.each f low high)),
          omega (arith, w),
        )

    both : (left_of ns f rest (get_or after f 0) ≡ first_holding ns f all) × (get_or after f 0 ≤ length ns)
    both = dite (ℕ_discrete (get_or before f 0) 0) (λ z. free z (range_holds ns f item) refl) kept

  pub left-next : LeftToFind ns n all rest after
  left-next = record { each = λ f low high. (both f low high).0; below = λ f low high. (both f low high).1 }

-- Nothing is left.
left-none : (ns : List Node) (f w : ℕ) → left_of ns f [] w ≡ Some (item_of w)
unfolding first_holding
left-none ns f w = dite (ℕ_discrete w 0) (λ z. rw (eq-eqb w 0 z)) (λ n. rw (ne_eqb w 0 n))

pub left-all : (ns : List Node) (n : ℕ) (all which : List ℕ) → LeftToFind ns n all [] which → (f : ℕ) → 1 ≤ f → f ≤ n
    → first_holding ns f all ≡ Some (item_of (get_or which f 0))
left-all ns n all which l f low high = sym (l.each f low high) ∙ left-none ns f (get_or which f 0)
