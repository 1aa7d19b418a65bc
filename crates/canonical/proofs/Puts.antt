-- Bytes put right after other bytes are put as one run, because each store leaves all before it as it was.
use mathlib.Core.Path.{◌≡◌, refl, sym, ap, ◌∙◌}
use mathlib.Core.Bool.{Bool, true, false, cond}
use Prim.Native.Nat.{ℕ, zero, suc, ◌+◌, ◌/◌, ◌%◌, ◌^◌, ◌≤◌, ◌<◌}
use native.Mathlib.Nat.{add-zero, div-one, div-div-eq-div-mul, pow-suc}
use Rattle.std.specs.Int.{byte_at, bytes_low_first}
use native.Mathlib.Omega.{arith}
use borrow.Author.Tests.{eq-eqb, ne_eqb, eqb-true}
use mathlib.Core.List.{List, ◌++◌}
use lib.ListN.{length, get_or, set, take, drop, drop_of_length-le, length-set}
use lib.Seq.{sets, drop-cons}
use lib.Dec.{eqb}
use Rattle.basics.specs.Vr.{form_of}
use Rattle.dataset.proofs.Buffer.{sets-append}
use Rattle.canonical.specs.Internal.{Put}
use Rattle.canonical.specs.Written.{letters, length_of, header, head_size}
use Rattle.basics.specs.Bytes.{le}

-- ---- Bytes put, one by one: what is left to put, put, comes to the whole

pub record Left (target₀ : List ℕ) (at : ℕ) (value target : List ℕ) (i : ℕ) : Type 0 where
  pub high : i ≤ length value
  pub kept : length target ≡ length target₀
  pub rest : sets target (at + i) (drop i value) ≡ sets target₀ at value

pub value-first : (target value : List ℕ) (at : ℕ) → Left target at value target 0
value-first target value at = record { high = omega arith; kept = refl; rest = rw (add-zero at) }

pub value-next : {target₀ target value : List ℕ} {at i : ℕ} → Left target₀ at value target i → i < length value
    → Left target₀ at value (set target (at + i) (get_or value i 0)) (i + 1)
value-next {target₀} {target} {value} {at} {i} l h =
    let a : at + (i + 1) ≡ suc (at + i) = omega arith in
    let b : i + 1 ≡ suc i = omega arith in
    record {
      high = omega arith;
      kept = length-set target (at + i) (get_or value i 0) ∙ l.kept;
      rest = rw (a, b) (ap (λ (x : List ℕ). sets target (at + i) x) (sym (drop-cons value i 0 h)) ∙ l.rest);
    }

pub value-last : {target₀ target value : List ℕ} {at i : ℕ} → Left target₀ at value target i → length value ≤ i
    → Put target₀ target at value
value-last {target₀} {target} {value} {at} {i} l h =
    record { is = ap (λ (x : List ℕ). sets target (at + i) x) (sym (drop_of_length-le value h)) ∙ l.rest; kept = l.kept }

byte-at : (i x : ℕ) → byte_at i x ≡ x / 256 ^ i % 256
byte-at zero x = rw div-one
byte-at (suc i) x = refl

bytes-low : (n i x : ℕ) → bytes_low_first i n x ≡ le n (x / 256 ^ i)
unfolding le
bytes-low zero i x = refl
bytes-low (suc n) i x =
    rw (byte-at i x, bytes-low n (suc i) x, div-div-eq-div-mul x (256 ^ i) 256, pow-suc 256 i)

low-bytes : (k n x : ℕ) → k ≤ n → take k (le n x) ≡ le k x
unfolding le
low-bytes zero n x h = refl
low-bytes (suc k) zero x h = absurd (omega arith)
low-bytes (suc k) (suc n) x h = rw (low-bytes k n (x / 256) (omega arith))

-- The lowest bytes of the eight that a number has.
pub number-low : {bytes : List ℕ} (k x : ℕ) → k ≤ 8 → bytes ≡ bytes_low_first 0 8 x → take k bytes ≡ le k x
number-low k x h e = rw (e, bytes-low 8 0 x, div-one x) (low-bytes k 8 x h)

-- ---- A header

pub form-long : (vr : ℕ) → head_size vr ≡ 12 → form_of vr ≡ 2
unfolding head_size
form-long vr = go (eqb (form_of vr) 2) refl
  where
    go : (b : Bool) → eqb (form_of vr) 2 ≡ b → ◌≡◌ {A = ℕ} (cond b 12 8) 12 → form_of vr ≡ 2
    go true e h = eqb-true (form_of vr) 2 e
    go false e h = absurd (omega (arith, h))

pub put_then : {t t₁ t₂ : List ℕ} {at p : ℕ} {xs ys : List ℕ} → Put t t₁ at xs → Put t₁ t₂ p ys → p ≡ at + length xs
    → Put t t₂ at (xs ++ ys)
put_then {t} {t₁} {t₂} {at} {p} {xs} {ys} a b e =
    record {
      is = b.is ∙ ap (λ (l : List ℕ). sets l p ys) a.is ∙ ap (λ (k : ℕ). sets (sets t at xs) k ys) e ∙ sym (sets-append xs t at ys);
      kept = b.kept ∙ a.kept;
    }

module _ (vr size : ℕ) {t t₁ : List ℕ} {at : ℕ} where
  pub item-puts : vr ≡ 0 → Put t t₁ at (le 4 size) → Put t t₁ at (length_of vr size)
  unfolding length_of
  item-puts z a = rw (eq-eqb vr 0 z) a

  module _ (n : vr ≡ 0 → ⊥) (a : Put t t₁ at (letters vr)) {t₂ : List ℕ} where
    pub short-puts : (form_of vr ≡ 2 → ⊥) → Put t₁ t₂ (at + 2) (le 2 size) → Put t t₂ at (length_of vr size)
    unfolding length_of letters
    short-puts f b = rw (ne_eqb vr 0 n, ne_eqb (form_of vr) 2 f) (put_then a b refl)

    pub long-puts : form_of vr ≡ 2 → Put t₁ t₂ (at + 2) (le 2 0) → {t₃ : List ℕ} → Put t₂ t₃ (at + 4) (le 4 size)
        → Put t t₃ at (length_of vr size)
    unfolding length_of letters le
    long-puts f b e = rw (ne_eqb vr 0 n, f) (put_then a (put_then b e (omega arith)) refl)

pub header-puts : (tag vr size : ℕ) {t t₁ t₂ t₃ : List ℕ} {at : ℕ} → Put t t₁ at (le 2 (tag / 65536))
    → Put t₁ t₂ (at + 2) (le 2 (tag % 65536))
    → Put t₂ t₃ (at + 4) (length_of vr size) → Put t t₃ at (header tag vr size)
unfolding header le
header-puts tag vr size a b e = put_then a (put_then b e (omega arith)) refl
