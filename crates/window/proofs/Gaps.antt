-- Integers as differences of naturals, so that a claim on integers becomes one that `omega` reads.
use mathlib.Core.Path.{◌≡◌, refl, sym, ap, ◌∙◌}
use mathlib.Core.Bool.{Bool, true, false, not, cond}
use Prim.Native.Nat.{ℕ, zero, suc, ◌+◌, ◌*◌, ◌-◌, ◌≤◌, ◌<◌}
use native.Mathlib.Nat.{mul-add}
use native.Mathlib.Omega.{arith}
use lib.Dec.{ltb, leb}
use lib.IntN.{ℤ, pos, negsuc, neg_ℤ, sub_ℕ, ◌+ℤ◌, ◌-ℤ◌, ◌*ℤ◌}
use lib.Signed.{le_z, lt_z}
use borrow.Author.Tests.{ltb-true, ltb-false, lt-ltb, le-ltb, le-leb, lt-leb, leb-true, leb-false}

-- z is a - b.
abbrev Between : ℤ → ℕ → ℕ → Type 0
Between (pos m) a b = a ≡ m + b
Between (negsuc m) a b = a + suc m ≡ b

pub record Gap (z : ℤ) (a b : ℕ) : Type 0 where
  pub is : Between z a b

-- Two naturals with the same difference serve as well.
pub shift : {z : ℤ} {a b : ℕ} → Gap z a b → (c d : ℕ) → a + d ≡ c + b → Gap z c d
shift {z = pos m} g c d e = record { is = omega arith }
shift {z = negsuc m} g c d e = record { is = omega arith }

pub whole : (n : ℕ) → Gap (pos n) n 0
whole n = record { is = omega arith }

subtract : (m n : ℕ) → Gap (sub_ℕ m n) m n
subtract m n = go (ltb m n) refl
  where
    go : (t : Bool) → ltb m n ≡ t → Gap (cond t (negsuc (n - suc m)) (pos (m - n))) m n
    go true e = record { is = omega (arith, ltb-true m n e) }
    go false e = record { is = omega (arith, ltb-false m n e) }

pub plus : {y z : ℤ} {a b c d : ℕ} → Gap y a b → Gap z c d → Gap (y +ℤ z) (a + c) (b + d)
plus {y = pos m} {z = pos n} g h = record { is = omega arith }
plus {y = pos m} {z = negsuc n} {a = a} {b = b} {c = c} {d = d} g h = shift (subtract m (suc n)) (a + c) (b + d) (omega arith)
plus {y = negsuc m} {z = pos n} {a = a} {b = b} {c = c} {d = d} g h = shift (subtract n (suc m)) (a + c) (b + d) (omega arith)
plus {y = negsuc m} {z = negsuc n} g h = record { is = omega arith }

pub turned : {z : ℤ} {a b : ℕ} → Gap z a b → Gap (neg_ℤ z) b a
turned {z = pos zero} g = record { is = omega arith }
turned {z = pos (suc m)} g = record { is = omega arith }
turned {z = negsuc m} g = record { is = omega arith }

pub less : {y z : ℤ} {a b c d : ℕ} → Gap y a b → Gap z c d → Gap (y -ℤ z) (a + d) (b + c)
less g h = plus g (turned h)

pub gap : (a b : ℕ) → Gap (pos a -ℤ pos b) a b
gap a b = shift (less (whole a) (whole b)) a b (omega arith)

pub times : (k : ℕ) {z : ℤ} {a b : ℕ} → Gap z a b → Gap (pos k *ℤ z) (k * a) (k * b)
times k {z = pos m} {a = a} {b = b} g = record { is = ap (λ (n : ℕ). k * n) g.is ∙ mul-add k m b }
times k {z = negsuc m} {a = a} {b = b} g = turned {z = pos (k * suc m)} (record { is = ap (λ (n : ℕ). k * n) e ∙ mul-add k (suc m) a })
  where
    e : b ≡ suc m + a
    e = omega arith

-- What the number is.
pub value : {z : ℤ} {a b : ℕ} → Gap z a b → b ≤ a → z ≡ pos (a - b)
value {z = pos m} g h = ap pos (omega arith)
value {z = negsuc m} g h = absurd (omega arith)

-- ---- The tests, as tests of naturals

pub same-leb : (k l m n : ℕ) → (k ≤ l → m ≤ n) → (l < k → n < m) → leb k l ≡ leb m n
same-leb k l m n f g = go (leb k l) refl
  where
    go : (t : Bool) → leb k l ≡ t → leb k l ≡ leb m n
    go true e = e ∙ sym (le-leb m n (f (leb-true k l e)))
    go false e = e ∙ sym (lt-leb m n (g (leb-false k l e)))

pub le_test : {y z : ℤ} {a b c d : ℕ} → Gap y a b → Gap z c d → le_z y z ≡ leb (a + d) (c + b)
le_test {y = pos m} {z = pos n} {a = a} {b = b} {c = c} {d = d} g h = same-leb m n (a + d) (c + b) (λ k. omega arith) (λ k. omega arith)
le_test {y = pos m} {z = negsuc n} {a = a} {b = b} {c = c} {d = d} g h = sym (lt-leb (a + d) (c + b) (omega arith))
le_test {y = negsuc m} {z = pos n} {a = a} {b = b} {c = c} {d = d} g h = sym (le-leb (a + d) (c + b) (omega arith))
le_test {y = negsuc m} {z = negsuc n} {a = a} {b = b} {c = c} {d = d} g h = same-leb n m (a + d) (c + b) (λ k. omega arith)
    (λ k. omega arith)

ltb-leb : (m n : ℕ) → ltb m n ≡ not (leb n m)
ltb-leb m n = go (leb n m) refl
  where
    go : (t : Bool) → leb n m ≡ t → ltb m n ≡ not (leb n m)
    go true e = le-ltb m n (leb-true n m e) ∙ ap not (sym e)
    go false e = lt-ltb m n (leb-false n m e) ∙ ap not (sym e)

pub lt_z-le_z : (y z : ℤ) → lt_z y z ≡ not (le_z z y)
lt_z-le_z (pos m) (pos n) = ltb-leb m n
lt_z-le_z (pos m) (negsuc n) = refl
lt_z-le_z (negsuc m) (pos n) = refl
lt_z-le_z (negsuc m) (negsuc n) = ltb-leb n m

-- ---- The tests, from an order of naturals

module _ {y z : ℤ} {a b c d : ℕ} (g : Gap y a b) (h : Gap z c d) where
  pub le_yes : a + d ≤ c + b → le_z y z ≡ true
  le_yes k = le_test g h ∙ le-leb (a + d) (c + b) k

  pub le-no : c + b < a + d → le_z y z ≡ false
  le-no k = le_test g h ∙ lt-leb (a + d) (c + b) k

  pub lt_yes : a + d < c + b → lt_z y z ≡ true
  lt_yes k = lt_z-le_z y z ∙ ap not (le_test h g ∙ lt-leb (c + b) (a + d) k)

  pub lt_no : c + b ≤ a + d → lt_z y z ≡ false
  lt_no k = lt_z-le_z y z ∙ ap not (le_test h g ∙ le-leb (c + b) (a + d) k)
