-- The forms of VRs. What is said of every listed VR, and of every second letter after a first one, is a test that antt computes.
use mathlib.Core.Path.{◌≡◌, refl, sym, ap, ◌∙◌, subst}
use mathlib.Core.Bool.{Bool, true, false, ◌&&◌}
use mathlib.Core.List.{List, [], ◌∷◌}
use Prim.Native.Nat.{ℕ, zero, suc, ◌+◌, ◌*◌, ◌/◌, ◌%◌, ◌^◌, ◌<◌}
use native.Mathlib.Omega.{arith}
use native.Mathlib.Nat.{zero-div}
use lib.Dec.{T, eqb, eqb→eq}
use borrow.Author.Tests.{ne_eqb, eqb-false}
use Rattle.basics.specs.Vr.{form_of, listed, long_vrs, short_vrs}
use Rattle.basics.specs.Internal.{FormsAfter}

split : (a b : Bool) → T (a && b) → T a × T b
split true b t = (tt, t)
split false b t = absurd t

-- Every number of the list passes the test.
abbrev pub all_pass : (ℕ → Bool) → List ℕ → Bool
all_pass test [] = true
all_pass test (k ∷ ks) = test k && all_pass test ks

unlisted : (test : ℕ → Bool) (x : ℕ) → test x ≡ false → (ks : List ℕ) → T (all_pass test ks) → listed ks x ≡ false
unfolding listed
unlisted test x f [] t = refl
unlisted test x f (k ∷ ks) t =
    let b = split (test k) (all_pass test ks) t in
    rw (ne_eqb x k (λ e. subst T (sym (subst (λ (y : ℕ). test x ≡ test y) e refl) ∙ f) b.0)) (unlisted test x f ks b.1)

-- A number that fails a test which every listed VR passes has no form.
pub no-form : (test : ℕ → Bool) (x : ℕ) → T (all_pass test long_vrs) → T (all_pass test short_vrs) → test x ≡ false → 0 ≡ form_of x
unfolding form_of
no-form test x l s f = rw (unlisted test x f long_vrs l, unlisted test x f short_vrs s)

-- The two bits are right for each second letter below n.
abbrev pub all_forms : ℕ → ℕ → ℕ → Bool
all_forms first forms zero = true
all_forms first forms (suc n) = eqb (forms / 2 ^ (2 * n) % 4) (form_of (first * 256 + 64 + n)) && all_forms first forms n

-- What a letter below n is, from what the last letter and those below it are.
letter : (P : ℕ → Type 0) (k n : ℕ) → k < suc n → P n → (k < n → P k) → P k
letter P k n h p q = go (eqb k n) refl
  where
    go : (e : Bool) → eqb k n ≡ e → P k
    go true e = subst P (sym (eqb→eq k n (subst T (sym e) tt))) p
    go false e = q (omega (arith, eqb-false k n e))

below : (first forms n : ℕ) → T (all_forms first forms n) → (k : ℕ) → k < n → forms / 2 ^ (2 * k) % 4 ≡ form_of (first * 256 + 64 + k)
below first forms zero t k h = absurd (omega arith)
below first forms (suc n) t k h =
    let b = split (eqb (forms / 2 ^ (2 * n) % 4) (form_of (first * 256 + 64 + n))) (all_forms first forms n) t in
    letter (λ (j : ℕ). forms / 2 ^ (2 * j) % 4 ≡ form_of (first * 256 + 64 + j)) k n h
    (eqb→eq (forms / 2 ^ (2 * n) % 4) (form_of (first * 256 + 64 + n)) b.0) (below first forms n b.1 k)

pub forms-of : (x first forms : ℕ) → x ≡ first → T (all_forms first forms 32) → FormsAfter x forms
forms-of x first forms e t k h = rw e (below first forms 32 t k h)

-- ---- A first letter of no listed VR

-- x is no number of the list.
abbrev pub Outside : List ℕ → ℕ → Type 0
Outside [] x = Unit {0}
Outside (k ∷ ks) x = (x ≡ k → ⊥) × Outside ks x

outside : (ks : List ℕ) (x : ℕ) → Outside ks x → listed ks x ≡ false
unfolding listed
outside [] x o = refl
outside (k ∷ ks) x o = rw (ne_eqb x k o.0) (outside ks x o.1)

-- The VR begins with one of the letters.
abbrev pub begins : List ℕ → ℕ → Bool
begins letters vr = listed letters (vr / 256)

pub no-forms : (letters : List ℕ) (x : ℕ) → Outside letters x → T (all_pass (begins letters) long_vrs) → T (all_pass (begins letters) short_vrs)
    → FormsAfter x 0
no-forms letters x o l s k h =
    let y : ℕ = x * 256 + 64 + k in
    let e : y / 256 ≡ x = omega arith in
    ap (λ (z : ℕ). z % 4) (zero-div (2 ^ (2 * k))) ∙ no-form (begins letters) y l s (ap (listed letters) e ∙ outside letters x o)
