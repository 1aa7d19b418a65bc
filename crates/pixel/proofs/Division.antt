-- An average by a multiplication and a division by a power of two, after Granlund and Montgomery: a number below 2^24 is
-- divided by d, up to 128, where it is multiplied by 2^32 / d + 1 and the product is divided by 2^32.
use mathlib.Core.Path.{◌≡◌, sym, ◌∙◌, ap}
use Prim.Native.Nat.{ℕ, ◌+◌, ◌*◌, ◌/◌, ◌≤◌, ◌<◌}
use native.Mathlib.Nat.{le_trans, le_of_eq, lt_of_le_of_lt, mul-le-mul, mul-le-mul_left, mul-le-mul_right, mul_assoc, mul_right_comm}
use native.Mathlib.Nat.{mul_comm, mul-add, add-mul, one-mul, lt_of_mul-lt-mul_right, div-mul-le_self, lt-div-mul-add, div-eq_of_lt-le}
use native.Mathlib.Nat.{div-lt_iff_lt-mul}
use native.Mathlib.Omega.{arith}
use Rattle.pixel.specs.Pixel.{average_of}

module _ (p d x : ℕ) (some : 0 < d) (small : x * d < p) where
  -- The factor times d passes p by at most d.
  above : p ≤ (p / d + 1) * d
  above = rw (add-mul (p / d) 1 d, one-mul d) (omega (arith, lt-div-mul-add {a = p} {b = d} some))

  close : (p / d + 1) * d ≤ p + d
  close = rw (add-mul (p / d) 1 d, one-mul d) (omega (arith, div-mul-le_self p d))

  low : x / d * p ≤ x * (p / d + 1)
  low =
      le_trans (mul-le-mul_left (x / d) above)
      (le_trans (le_of_eq (sym (mul_assoc (x / d) (p / d + 1) d) ∙ mul_right_comm (x / d) (p / d + 1) d))
      (mul-le-mul_right (p / d + 1) (div-mul-le_self x d)))

  -- Both sides times d.
  next : x * p + p ≤ (x / d + 1) * p * d
  next =
      let a : x + 1 ≤ (x / d + 1) * d = rw (add-mul (x / d) 1 d, one-mul d) (omega (arith, lt-div-mul-add {a = x} {b = d} some)) in
      let b : (x + 1) * p ≤ (x / d + 1) * d * p = mul-le-mul_right p a in
      let e : (x + 1) * p ≡ x * p + p = add-mul x 1 p ∙ ap (λ (y : ℕ). x * p + y) (one-mul p) in
      let f : (x / d + 1) * d * p ≡ (x / d + 1) * p * d = mul_right_comm (x / d + 1) d p in
      omega arith

  high : x * (p / d + 1) < (x / d + 1) * p
  high =
      let a : x * (p / d + 1) * d ≡ x * ((p / d + 1) * d) = mul_assoc x (p / d + 1) d in
      let b : x * ((p / d + 1) * d) ≤ x * (p + d) = mul-le-mul_left x close in
      let e : x * (p + d) ≡ x * p + x * d = mul-add x p d in
      let h : x * p + p ≤ (x / d + 1) * p * d = next in
      lt_of_mul-lt-mul_right d (omega arith)

  pub quotient : x * (p / d + 1) / p ≡ x / d
  quotient = div-eq_of_lt-le p low high

-- The average of n samples, with their sum.
module _ (sum n : ℕ) (some : 1 ≤ n) (few : n ≤ 64) where
  pub product : sum ≤ 4194240 → (2 * sum + n) * (4294967296 / (2 * n) + 1) ≤ 18014261078917056
  product h =
      let a : 4294967296 / (2 * n)
      < 2147483649 = (div-lt_iff_lt-mul {k = 2 * n} {x = 4294967296} {y = 2147483649} (omega arith)).1 (omega arith) in
      mul-le-mul {n₁ = 2 * sum + n} {m₁ = 4294967296 / (2 * n) + 1} {n₂ = 8388544} {m₂ = 2147483649} (omega arith) (omega arith)

  pub by_product : sum ≤ 4194240 → (2 * sum + n) * (4294967296 / (2 * n) + 1) / 4294967296 ≡ average_of sum n
  unfolding average_of
  by_product h = quotient 4294967296 (2 * n) (2 * sum + n) (omega arith)
      (lt_of_le_of_lt (mul-le-mul {n₁ = 2 * sum + n} {m₁ = 2 * n} {n₂ = 8388544} {m₂ = 128} (omega arith) (omega arith)) (omega arith))

  -- An average is not above what none of the samples is above.
  pub average-most : (low : ℕ) → sum ≤ n * low → average_of sum n ≤ low
  unfolding average_of
  average-most low h =
      let a : (low + 1) * (2 * n) ≡ 2 * (n * low) + 2 * n = omega arith in
      let b : (2 * sum + n) / (2 * n)
      < low + 1 = (div-lt_iff_lt-mul {k = 2 * n} {x = 2 * sum + n} {y = low + 1} (omega arith)).1 (omega arith) in
      omega arith

  pub average-fits : sum ≤ 4194240 → average_of sum n ≤ 4194240
  average-fits h =
      let a : 4194240 * 1 ≤ 4194240 * n = mul-le-mul_left 4194240 some in
      average-most 4194240 (omega (arith, mul_comm n 4194240))
