-- What is claimed about the square root derivation (document 02, Q-8), over the definitions of SquareRoot. The root is the largest number
-- whose square is at most t, among all numbers. What a cell becomes fits 8 bits. Each level p but 1 comes back as p through its entry,
-- and no cell becomes 1. A cell v, that is the lowest 14 bits of a number, minus the entry of what it becomes is 0 to 127. The statement
-- does not depend on how the entries are kept. Proved in proofs/Derivation.
use Rattle.std.specs.Prelude.{◌≡◌, ℕ, ◌-◌, ◌≤◌, ◌*◌}
use Rattle.squareroot.specs.SquareRoot.{cell, root_of, root_level, root_entry}

-- p is the largest number with p × p ≤ t.
pub record Largest (t p : ℕ) : Type 0 where
  pub under : p * p ≤ t
  pub most : (q : ℕ) → q * q ≤ t → q ≤ p

-- The cell minus the entry of what it becomes is 0 to 127: it is not below that entry, and not more than 127 above it.
pub record NearEntry (v : ℕ) : Type 0 where
  pub under : root_entry (root_level v) ≤ cell v
  pub near : cell v - root_entry (root_level v) ≤ 127

pub record Derivation : Type 0 where
  -- The definition of the root is what its name says.
  pub largest : (t : ℕ) → Largest t (root_of t)
  -- 14 bits become 8.
  pub eight : (v : ℕ) → root_level v ≤ 255
  -- Each p but 1 comes back as p through its entry.
  pub back : (p : ℕ) → p ≤ 255 → (p ≡ 1 → ⊥) → root_level (root_entry p) ≡ p
  -- No cell becomes 1.
  pub never-one : (v : ℕ) → root_level v ≡ 1 → ⊥
  -- Every cell is at most 127 above its entry.
  pub near : (v : ℕ) → NearEntry v
