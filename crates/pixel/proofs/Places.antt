-- Rows and columns in quarters: the whole one below and the rest, from an offset that is never negative.
use Rattle.std.specs.Prelude.{Option, Some, None}
use mathlib.Core.Path.{◌≡◌, ◌∙◌, ap}
use Prim.Native.Nat.{ℕ, zero, suc, ◌+◌, ◌-◌, ◌*◌, ◌/◌, ◌%◌, ◌≤◌, ◌<◌, min}
use native.Mathlib.Nat.{div-add-mod', mod-lt}
use native.Mathlib.Omega.{arith}
use lib.IntN.{ℤ, pos, negsuc, nat_abs, ◌+ℤ◌}
use Rattle.value.specs.declared.Signed.{Signed}
use Rattle.value.specs.declared.Signed.TheVariants.{Plus, Minus}
use Rattle.window.proofs.Gaps.{Gap, shift, whole, plus, less, gap, times, value}
use Rattle.shift.specs.Shift.{largest_shift, largest_move}
use Rattle.shift.specs.Internal.{too_far}
use Rattle.shift.specs.Whole.{in_quarters}
use Rattle.pixel.specs.Pixel.{less_shift, whole_below, quarters_above, limited_to, place_of, rest_of}
use Rattle.pixel.specs.Whole.{moved_by}
use Rattle.pixel.specs.Internal.{farthest_move, shifted, OffsetOf}

-- ---- A number of quarters

pub fourths : (n : ℕ) → n % 4 < 4
fourths n = mod-lt n (omega arith)

module _ {z : ℤ} (x y a : ℕ) (few : a < 4) (g : Gap z (4 * x + a) (4 * y)) where
  -- x whole ones less y, and a quarters above.
  below-gap : Gap (whole_below z) x y
  below-gap = go z g
    where
      go : (z : ℤ) → Gap z (4 * x + a) (4 * y) → Gap (whole_below z) x y
      go (pos m) g = record { is = omega (arith, g.is, div-add-mod' m 4, fourths m) }
      go (negsuc m) g = record { is = omega (arith, g.is, div-add-mod' m 4, fourths m) }

  above-is : quarters_above z ≡ a
  above-is = ap nat_abs (value (less g (times 4 below-gap)) (omega arith)) ∙ rest
    where
      rest : 4 * x + a + 4 * y - (4 * y + 4 * x) ≡ a
      rest = omega arith

  below-limited : (size k : ℕ) → limited_to size (whole_below z +ℤ pos k) ≡ min (x + k - y) (size - 1)
  below-limited size k = go (whole_below z +ℤ pos k) (shift (plus below-gap (whole k)) (x + k) y (omega arith))
    where
      go : (w : ℤ) → Gap w (x + k) y → limited_to size w ≡ min (x + k - y) (size - 1)
      go (pos n) g =
          let e : x + k - y ≡ n = omega (arith, g.is) in
          rw e
      go (negsuc n) g = omega (arith, g.is)

-- ---- Row or column r less a shift

minus-gap : (n r : ℕ) → Gap (less_shift (Some (Minus n)) r) (4 * r + n) 0
minus-gap zero r = shift (less (whole (4 * r)) (whole 0)) (4 * r + 0) 0 (omega arith)
minus-gap (suc n) r = shift (less {z = negsuc n} {c = 0} {d = suc n} (whole (4 * r)) (record { is = omega arith })) (4 * r + suc n) 0
    (omega arith)

lacks-gap : (r : ℕ) → Gap (less_shift None r) (4 * r) 0
lacks-gap r = shift (less (whole (4 * r)) (whole 0)) (4 * r) 0 (omega arith)

-- An offset d, that is the largest move less the shift.
module _ (m : Option Signed) (d : ℕ) (most : d ≤ farthest_move) (is : (r : ℕ) → Gap (less_shift m r) (4 * r + d) largest_move) where
  parts : (r : ℕ) → Gap (less_shift m r) (4 * (r + d / 4) + d % 4) (4 * largest_shift)
  parts r = shift (is r) (4 * (r + d / 4) + d % 4) largest_move (omega (arith, div-add-mod' d 4))

  offset-is : OffsetOf m d
  unfolding place_of rest_of
  offset-is =
      record {
        most = most;
        places = λ size r k. below-limited (r + d / 4) largest_shift (d % 4) (fourths d) (parts r) size k ∙ same size r k;
        above = λ r. above-is (r + d / 4) largest_shift (d % 4) (fourths d) (parts r);
      }
    where
      same : (size r k : ℕ) → min (r + d / 4 + k - largest_shift) (size - 1) ≡ shifted (d / 4 + k) size r
      same size r k =
          let e : r + d / 4 + k ≡ r + (d / 4 + k) = omega arith in
          rw e

pub offset-plus : (n : ℕ) → n < too_far → OffsetOf (Some (Plus n)) (largest_move - n)
offset-plus n h = offset-is (Some (Plus n)) (largest_move - n) (omega arith)
    (λ r. shift (gap (4 * r) n) (4 * r + (largest_move - n)) largest_move (omega arith))

pub offset-minus : (n : ℕ) → n < too_far → OffsetOf (Some (Minus n)) (largest_move + n)
offset-minus n h = offset-is (Some (Minus n)) (largest_move + n) (omega arith)
    (λ r. shift (minus-gap n r) (4 * r + (largest_move + n)) largest_move (omega arith))

pub offset-none : OffsetOf None largest_move
offset-none = offset-is None largest_move (omega arith) (λ r. shift (lacks-gap r) (4 * r + largest_move) largest_move (omega arith))

-- ---- Whole moves, of any size

abbrev Whole : Option Signed → ℕ → ℕ → Type 0
Whole m size r = (place_of (in_quarters m) size r 0 ≡ moved_by m size r) × (rest_of (in_quarters m) r ≡ 0)

whole_by_lem : (m : Option Signed) (size r x y : ℕ) → min (x + 0 - y) (size - 1) ≡ moved_by m size r
    → Gap (less_shift (in_quarters m) r) (4 * x + 0) (4 * y) → Whole m size r
unfolding place_of rest_of
whole_by_lem m size r x y e g = (below-limited x y 0 (omega arith) g size 0 ∙ e, above-is x y 0 (omega arith) g)

pub whole-place : (m : Option Signed) (size r : ℕ) → r < size → Whole m size r
whole-place (Some (Plus n)) size r h = whole_by_lem (Some (Plus n)) size r r n (omega arith) (shift (gap (4 * r) (4 * n)) (4 * r + 0) (4 * n) (omega arith))
whole-place (Some (Minus n)) size r h = whole_by_lem (Some (Minus n)) size r (r + n) 0 (rw-min (r + n) (size - 1))
    (shift (minus-gap (4 * n) r) (4 * (r + n) + 0) (4 * 0) (omega arith))
  where
    rw-min : (a b : ℕ) → min (a + 0 - 0) b ≡ min a b
    rw-min a b =
        let e : a + 0 - 0 ≡ a = omega arith in
        rw e
whole-place None size r h = whole_by_lem None size r r 0 (omega arith) (shift (lacks-gap r) (4 * r + 0) (4 * 0) (omega arith))

pub moved-below : (m : Option Signed) (size r : ℕ) → r < size → moved_by m size r < size
moved-below (Some (Plus n)) size r h = omega arith
moved-below (Some (Minus n)) size r h = omega arith
moved-below None size r h = h

-- A place is one of the picture's.
pub place-below : (m : Option Signed) (size r k : ℕ) → r < size → place_of m size r k < size
unfolding place_of
place-below m size r k h = go (whole_below (less_shift m r) +ℤ pos k)
  where
    go : (z : ℤ) → limited_to size z < size
    go (pos n) = omega arith
    go (negsuc n) = omega arith

-- There are at most three quarters above.
pub rest_below : (m : Option Signed) (r : ℕ) → rest_of m r < 4
unfolding rest_of
rest_below m r = go (less_shift m r)
  where
    go : (z : ℤ) → quarters_above z < 4
    go (pos n) = rw (above-is {z = pos n} (n / 4) 0 (n % 4) (fourths n) (record { is = omega (arith, div-add-mod' n 4) })) (fourths n)
    go (negsuc n) =
        let h : 3 - n % 4 < 4 = omega (arith, fourths n) in
        rw (above-is {z = negsuc n} 0 (n / 4 + 1) (3 - n % 4) h (record { is = omega (arith, div-add-mod' n 4, fourths n) })) h
