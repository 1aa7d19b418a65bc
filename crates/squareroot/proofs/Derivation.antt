-- The claims of specs/Derivation: a level's square and the next square enclose four times its cell, and four times an entry is the
-- level's square or up to three more.
use mathlib.Core.Path.{◌≡◌, refl}
use Prim.Native.Nat.{ℕ, zero, suc, ◌+◌, ◌*◌, ◌≤◌, ◌<◌}
use native.Mathlib.Nat.{mod-eq_of_lt}
use native.Mathlib.Omega.{arith}
use Rattle.squareroot.specs.SquareRoot.{root_of, cell, root_level, root_entry}
use Rattle.squareroot.specs.Derivation.{Largest, NearEntry, Derivation}
use Rattle.squareroot.proofs.Roots.{square, under, root-low, root-high, root_is_lem}

largest : (t : ℕ) → Largest t (root_of t)
largest t = record { under = root-low t; most = λ q h. under t (root_of t) q h (root-high t) }

eight : (v : ℕ) → root_level v ≤ 255
unfolding root_level
eight v = under 65535 255 (root_of (4 * cell v)) (omega (arith, root-low (4 * cell v))) (omega arith)

level-low : (v : ℕ) → root_level v * root_level v ≤ 4 * cell v
unfolding root_level
level-low v = root-low (4 * cell v)

level-high : (v : ℕ) → 4 * cell v < (root_level v + 1) * (root_level v + 1)
unfolding root_level
level-high v = root-high (4 * cell v)

-- Four times an entry is a square's, or up to three more.
entry-low : (p : ℕ) → p * p ≤ 4 * root_entry p
unfolding root_entry
entry-low p = omega arith

entry-high : (p : ℕ) → 4 * root_entry p ≤ p * p + 3
unfolding root_entry
entry-high p = omega arith

back_by : (p : ℕ) → p ≤ 255 → 4 * root_entry p < (p + 1) * (p + 1) → root_level (root_entry p) ≡ p
unfolding root_level
back_by p h k =
    let a : p * p ≤ 255 * 255 = square p 255 h in
    let b : root_entry p < 16384 = omega (arith, entry-high p) in
    rw (mod-eq_of_lt b) (root_is_lem (4 * root_entry p) p (entry-low p) k)

back : (p : ℕ) → p ≤ 255 → (p ≡ 1 → ⊥) → root_level (root_entry p) ≡ p
back zero h k = back_by zero h (omega (arith, entry-high zero, entry-low zero))
back (suc zero) h k = absurd (k refl)
back (suc (suc p)) h k = back_by (suc (suc p)) h (omega (arith, entry-high (suc (suc p))))

never-one : (v : ℕ) → root_level v ≡ 1 → ⊥
unfolding root_level
never-one v e =
    let a : 1 * 1 ≤ 4 * cell v = rw e at (root-low (4 * cell v)) in
    let b : 4 * cell v < 2 * 2 = rw e at (root-high (4 * cell v)) in
    omega arith

near : (v : ℕ) → NearEntry v
near v =
    let a : root_level v * root_level v ≤ 4 * cell v = level-low v in
    let b : 4 * cell v < (root_level v + 1) * (root_level v + 1) = level-high v in
    let d : root_level v ≤ 255 = eight v in
    record { under = omega (arith, entry-high (root_level v)); near = omega (arith, entry-low (root_level v)) }

pub derivation : Derivation
derivation = record { largest = largest; eight = eight; back = back; never-one = never-one; near = near }
