-- The square root derivation of source document 002, 14 bits to 8, scaled so that p stands for p × p / 4 (document 02,
-- Q-8).
use Rattle.std.specs.Prelude.{ℕ, zero, suc, ◌+◌, ◌*◌, ◌/◌, ◌%◌, cond, leb}

-- The largest p up to `from` with p × p ≤ t.
unfoldable pub largest_by : ℕ → ℕ → ℕ
largest_by zero t = zero
largest_by (suc p) t = cond (leb (suc p * suc p) t) (suc p) (largest_by p t)

-- The largest p with p × p ≤ t; it is never above t.
unfoldable pub root_of : ℕ → ℕ
root_of t = largest_by t t

-- A 14-bit cell: the lowest 14 bits of a number.
abbrev pub cell : ℕ → ℕ
cell v = v % 16384

-- What cell v becomes: the largest p with p × p ≤ 4v.
unfoldable pub root_level : ℕ → ℕ
root_level v = root_of (4 * cell v)

-- The entry of level p: p × p / 4, rounded up.
unfoldable pub root_entry : ℕ → ℕ
root_entry p = (p * p + 3) / 4
