-- A product of two numbers up to 4 fits.
use Prim.Native.Nat.{ℕ, ◌*◌, ◌≤◌, ◌<◌}
use native.Mathlib.Nat.{mul-le-mul}
use native.Mathlib.Omega.{arith}
use borrow.Author.Rules.{rules}
use Rattle.pixel.proofs.weights.Goals as goal

few : {a b : ℕ} → a ≤ 4 → b ≤ 4 → a * b < 4294967296
few {a} {b} h k = omega (arith, mul-le-mul {n₁ = a} {m₁ = b} {n₂ = 4} {m₂ = 4} h k)

pub overflow_mul-result : goal.overflow_mul-result
overflow_mul-result c =
    record { fits = few (search rules) (search rules) }

pub overflow_mul-result-2 : goal.overflow_mul-result-2
overflow_mul-result-2 c =
    record { fits = few (search rules) (search rules) }

pub overflow_mul-result-3 : goal.overflow_mul-result-3
overflow_mul-result-3 c =
    record { fits = few (search rules) (search rules) }

pub overflow_mul-result-4 : goal.overflow_mul-result-4
overflow_mul-result-4 c =
    record { fits = few (search rules) (search rules) }
