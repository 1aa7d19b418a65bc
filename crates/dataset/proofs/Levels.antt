-- A sequence that is read has a level below it: check 8 refuses it elsewhere, and every header of an element passes check 8.
use mathlib.Core.Path.{◌≡◌, refl, subst}
use mathlib.Core.Bool.{Bool, true, false}
use Prim.Native.Nat.{ℕ, ◌≤◌}
use native.Mathlib.Omega.{arith}
use borrow.Author.Tests.{eqb-false}
use mathlib.Core.List.{List}
use Rattle.std.specs.Prelude.{Result, Ok, Err}
use Rattle.dataset.specs.declared.Fault.{Fault}
use Rattle.dataset.specs.declared.Cursor.{Cursor}
use Rattle.dataset.specs.declared.Head.{Head}
use Rattle.dataset.specs.declared.Head.TheVariants as head
use Rattle.basics.specs.Vr.{SQ}
use Rattle.dataset.specs.Header.{when, header_by, delimiter_by, nested_by, defined_by, long_by, typed_at, tagged_at, element_at}

abbrev Leveled : ℕ → Result Head Fault → Type 0
Leveled levels (Ok (head.Header tag vr v)) = vr ≡ SQ → 1 ≤ levels
Leveled levels (Ok (head.End tag vr next)) = Unit {0}
Leveled levels (Err fault) = Unit {0}

module _ (levels : ℕ) where
  by-test : (t : Bool) (a b : Result Head Fault) → (t ≡ true → Leveled levels a) → (t ≡ false → Leveled levels b) → Leveled levels (when t a b)
  unfolding when
  by-test true a b p q = p refl
  by-test false a b p q = q refl

  delimiter-leveled : (c : Cursor) (tag due len : ℕ) → Leveled levels (delimiter_by c tag due len)
  unfolding delimiter_by
  delimiter-leveled c tag due len =
      by-test _ _ _ (λ _. by-test _ _ _ (λ _. by-test _ _ _ (λ _. tt) (λ _. tt)) (λ _. tt)) (λ _. tt)

  level-leveled : (tag vr : ℕ) (v : Cursor) → Leveled levels (nested_by tag vr levels v)
  unfolding nested_by
  level-leveled tag vr v =
      by-test _ _ _ (λ _. by-test _ _ _ (λ _. tt) (λ n _. let m : levels ≡ 0 → ⊥ = eqb-false levels 0 n in omega (arith, m)))
      (λ n e. absurd (eqb-false vr SQ n e))

  defined-leveled : (c : Cursor) (tag vr start len : ℕ) → Leveled levels (defined_by c tag vr start len levels)
  unfolding defined_by
  defined-leveled c tag vr start len = by-test _ _ _ (λ _. tt) (λ _. by-test _ _ _ (λ _. tt) (λ _. level-leveled tag vr _))

  long-leveled : (c : Cursor) (tag vr start len : ℕ) → Leveled levels (long_by c tag vr start len levels)
  unfolding long_by
  long-leveled c tag vr start len =
      by-test _ _ _ (λ _. by-test _ _ _ (λ _. level-leveled tag vr _) (λ _. tt)) (λ _. defined-leveled c tag vr start len)

  typed-leveled : (s : List ℕ) (c : Cursor) (tag vr form short : ℕ) → Leveled levels (typed_at s c tag vr form short levels)
  unfolding typed_at
  typed-leveled s c tag vr form short =
      by-test _ _ _ (λ _. tt)
      (λ _. by-test _ _ _ (λ _. defined-leveled c tag vr _ short)
      (λ _. by-test _ _ _ (λ _. tt) (λ _. by-test _ _ _ (λ _. long-leveled c tag vr _ _) (λ _. tt))))

  tagged-leveled : (s : List ℕ) (c : Cursor) (tag least : ℕ) → Leveled levels (tagged_at s c tag least levels)
  unfolding tagged_at
  tagged-leveled s c tag least =
      by-test _ _ _ (λ _. delimiter-leveled c tag _ _) (λ _. by-test _ _ _ (λ _. tt) (λ _. typed-leveled s c tag _ _ _))

  element-leveled : (s : List ℕ) (c : Cursor) (least : ℕ) → Leveled levels (element_at s c least levels)
  unfolding header_by
  element-leveled s c least =
      by-test _ _ _ (λ _. by-test _ _ _ (λ _. tt) (λ _. tt)) (λ _. by-test _ _ _ (λ _. tt) (λ _. tagged-leveled s c _ least))

  pub sequence-level : (s : List ℕ) (c : Cursor) (least : ℕ) {tag vr : ℕ} {v : Cursor} → element_at s c least levels ≡ Ok (head.Header tag vr v)
      → vr ≡ SQ → 1 ≤ levels
  sequence-level s c least {tag} {vr} {v} e = subst (λ (h : Result Head Fault). Leveled levels h) e (element-leveled s c least)
