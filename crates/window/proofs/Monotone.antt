-- Why a greater x never gets a smaller y: t - 2C + W grows with x, so a higher case of step 6 applies or the same one, and in
-- the third case the dividend grows while the divisor stays.
use mathlib.Core.Path.{◌≡◌, refl, sym, ◌∙◌}
use mathlib.Core.Bool.{Bool, true, false, cond}
use Prim.Native.Nat.{ℕ, ◌+◌, ◌*◌, ◌-◌, ◌/◌, ◌≤◌, ◌<◌}
use native.Mathlib.Nat.{le-div_iff_mul-le, div-mul-le_self, le_trans}
use native.Mathlib.Omega.{arith}
use lib.Dec.{ltb, leb}
use lib.IntN.{pos}
use borrow.Author.Tests.{le-leb, ltb-true, ltb-false, leb-true, leb-false}
use Rattle.value.specs.Number.{unit}
use Rattle.window.specs.declared.Window.{Window}
use Rattle.window.specs.Window.{taken_off, level_of}
use Rattle.window.specs.Internal.{above, ramp_of}
use Rattle.window.specs.Monotone.{Monotone}
use Rattle.window.proofs.Gaps.{times, le_test}
use Rattle.window.proofs.Laws.{quotient-small, over, under, integer-gap, raised, lowered, levelled, level-is}

quotient-grows : (a b k : ℕ) → 0 < k → a ≤ b → a / k ≤ b / k
quotient-grows a b k h l = (le-div_iff_mul-le {k = k} {x = a / k} {y = b} h).1 (le_trans (div-mul-le_self a k) l)

ramp-grows : (e c d w : ℕ) → 0 < c → c ≤ d → ramp_of e c w ≤ ramp_of e d w
unfolding ramp_of
ramp-grows e c d w z l = go (ltb (2 * w) (c + 2 * e)) (ltb (2 * w) (d + 2 * e)) refl refl
  where
    go : (s t : Bool) → ltb (2 * w) (c + 2 * e) ≡ s → ltb (2 * w) (d + 2 * e) ≡ t
        → cond s 255 ((255 * c + w - e) / (2 * (w - e))) ≤ cond t 255 ((255 * d + w - e) / (2 * (w - e)))
    go true true p q = omega arith
    go true false p q = absurd (omega (arith, ltb-true (2 * w) (c + 2 * e) p, ltb-false (2 * w) (d + 2 * e) q))
    go false true p q = quotient-small e c w z (ltb-false (2 * w) (c + 2 * e) p)
    go false false p q =
        let h : d + 2 * e ≤ 2 * w = ltb-false (2 * w) (d + 2 * e) q in
        quotient-grows (255 * c + w - e) (255 * d + w - e) (2 * (w - e)) (omega arith) (omega arith)

levelled-grows : (window : Window) (p m q n : ℕ) → p + n ≤ q + m → levelled window p m ≤ levelled window q n
unfolding levelled raised lowered
levelled-grows window p m q n l = go (leb (raised window p) (lowered window m)) (leb (raised window q) (lowered window n)) refl refl
  where
    f : ℕ → ℕ
    f d = ramp_of (taken_off window.function) d (above window.width)

    go : (s t : Bool) → leb (raised window p) (lowered window m) ≡ s → leb (raised window q) (lowered window n) ≡ t
        → cond s 0 (f (raised window p - lowered window m)) ≤ cond t 0 (f (raised window q - lowered window n))
    go true t i j = omega arith
    go false true i j = absurd
        (omega (arith, l, leb-false (raised window p) (lowered window m) i, leb-true (raised window q) (lowered window n) j))
    go false false i j =
        let u : lowered window m < raised window p = leb-false (raised window p) (lowered window m) i in
        let v : lowered window n < raised window q = leb-false (raised window q) (lowered window n) j in
        ramp-grows (taken_off window.function) (raised window p - lowered window m) (raised window q - lowered window n)
        (above window.width) (omega arith) (omega (arith, l))

pub monotone : Monotone
unfolding level_of
monotone w x z h =
    let o = leb-true (over x + under z) (over z + under x) (sym (le_test (integer-gap x) (integer-gap z)) ∙ h) in
    record {
      y = pos (levelled w (2 * unit * over x) (2 * unit * under x));
      v = pos (levelled w (2 * unit * over z) (2 * unit * under z));
      is = level-is w (times (2 * unit) (integer-gap x));
      next = level-is w (times (2 * unit) (integer-gap z));
      rises = le-leb _ _
          (levelled-grows w (2 * unit * over x) (2 * unit * under x) (2 * unit * over z) (2 * unit * under z) (omega (arith, o)));
    }
