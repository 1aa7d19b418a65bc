-- The levels of a window: which case of step 6 applies, in naturals; no level lacks, and each is at most 255.
use Rattle.std.specs.Prelude.{Option, Some, None}
use mathlib.Core.Path.{◌≡◌, refl, sym, ap, ◌∙◌}
use mathlib.Core.Bool.{Bool, true, false, cond, false≢true}
use mathlib.Core.List.{List}
use Prim.Native.Nat.{ℕ, zero, suc, ◌+◌, ◌*◌, ◌-◌, ◌/◌, ◌^◌, ◌≤◌, ◌<◌}
use native.Mathlib.Nat.{div-lt_iff_lt-mul, pow-le-pow_right, pow-suc}
use native.Mathlib.Omega.{arith}
use lib.Dec.{ltb, leb}
use lib.IntN.{ℤ, pos, negsuc, ◌+ℤ◌, ◌-ℤ◌, ◌*ℤ◌}
use lib.ListN.{length, get_or, set, length-set}
use lib.Seq.{get_or-set_same, get_or-set_other}
use lib.Signed.{le_z, lt_z}
use borrow.Author.Tests.{ltb-true, ltb-false, lt-ltb, leb-true, leb-false}
use Rattle.value.specs.declared.Signed.{Signed}
use Rattle.value.specs.declared.Signed.TheVariants as signed
use Rattle.value.specs.declared.Function.{Function}
use Rattle.value.specs.declared.Function.TheVariants as function
use Rattle.value.specs.Number.{unit, size_limit, least_width, is_width, number_or0}
use Rattle.value.specs.Internal.{SizeBelow}
use Rattle.window.specs.declared.Window.{Window}
use Rattle.window.specs.Window.{integer, floor, taken_off, level_by, level_at, level_of, shade_of, cell_of, shaded}
use Rattle.window.specs.Internal.{Ruled, Drawable, Filled, above, below, ramp_of, shade_at, shade_places}
use Rattle.window.proofs.Gaps.{Gap, whole, gap, plus, less, times, value, le_yes, le-no, lt_yes, lt_no}

-- ---- A window's sizes

-- What a function takes off the width is no more than the width, and the width is above 0.
pub record Widths (w : Window) : Type 0 where
  pub wide : taken_off w.function ≤ above w.width
  pub some : 0 < above w.width

pub record Sizes (w : Window) : Type 0 where
  pub widths : Widths w
  pub narrow : above w.width < size_limit
  pub high : above w.center < size_limit
  pub low : below w.center < size_limit

is_wide : (least : ℕ) (s : Option Signed) → is_width least s ≡ true → least ≤ above s
is_wide least (Some (signed.Plus n)) e = leb-true least n e
is_wide least (Some (signed.Minus n)) e = absurd (false≢true e)
is_wide least None e = absurd (false≢true e)

off-least : (f : Option Function) → (taken_off f ≤ least_width f) × (0 < least_width f)
off-least (Some function.Linear) = (omega arith, omega arith)
off-least (Some function.Exact) = (omega arith, omega arith)
off-least None = (omega arith, omega arith)

pub widths : (w : Window) → Ruled w → Widths w
widths w r =
    let h = is_wide (least_width w.function) w.width r.wide in
    let o = off-least w.function in
    record { wide = omega (arith, o.0, h); some = omega (arith, o.1, h) }

above-small : (s : Option Signed) → SizeBelow size_limit s → above s < size_limit
above-small (Some (signed.Plus n)) h = h
above-small (Some (signed.Minus n)) h = omega arith
above-small None h = omega arith

below-small : (s : Option Signed) → SizeBelow size_limit s → below s < size_limit
below-small (Some (signed.Plus n)) h = omega arith
below-small (Some (signed.Minus n)) h = h
below-small None h = omega arith

pub sizes : (w : Window) → Drawable w → Sizes w
sizes w d = record {
  widths = widths w d.ruled;
  narrow = above-small w.width d.narrow;
  high = above-small w.center d.near;
  low = below-small w.center d.near;
}

-- A signed number as a difference; a width as a natural.
pub signed-gap : (s : Option Signed) → Gap (integer s) (above s) (below s)
signed-gap (Some (signed.Plus n)) = whole n
signed-gap (Some (signed.Minus zero)) = whole 0
signed-gap (Some (signed.Minus (suc n))) = record { is = omega arith }
signed-gap None = whole 0

width_is : (s : Option Signed) → 0 < above s → integer s ≡ pos (above s)
width_is (Some (signed.Plus n)) h = refl
width_is (Some (signed.Minus n)) h = absurd (omega arith)
width_is None h = absurd (omega arith)

width-below : (s : Option Signed) → 0 < above s → below s ≡ 0
width-below (Some (signed.Plus n)) h = refl
width-below (Some (signed.Minus n)) h = absurd (omega arith)
width-below None h = absurd (omega arith)

-- ---- The third case

-- It is at most 255.
pub quotient-small : (e d w : ℕ) → 0 < d → d + 2 * e ≤ 2 * w → (255 * d + w - e) / (2 * (w - e)) ≤ 255
quotient-small e d w z h = fewer ((div-lt_iff_lt-mul {k = 2 * (w - e)} {x = 255 * d + w - e} {y = 256} (omega arith)).1 (omega arith))
  where
    fewer : {q : ℕ} → q < 256 → q ≤ 255
    fewer l = omega arith

pub ramp-small : (e d w : ℕ) → 0 < d → ramp_of e d w ≤ 255
unfolding ramp_of
ramp-small e d w z = go (ltb (2 * w) (d + 2 * e)) refl
  where
    go : (t : Bool) → ltb (2 * w) (d + 2 * e) ≡ t → cond t 255 ((255 * d + w - e) / (2 * (w - e))) ≤ 255
    go true p = omega arith
    go false p = quotient-small e d w z (ltb-false _ _ p)

-- ---- The cases of step 6

module _ {t c : ℤ} {p m a b : ℕ} (e w : ℕ) (t-is : Gap t p m) (c-is : Gap c a b) (wide : e ≤ w) where
  module _ (u n : ℕ) (u-is : u ≡ p + 2 * b + w) (n-is : n ≡ m + 2 * a) where
    first_holds : u ≤ n → le_z t (pos 2 *ℤ c -ℤ pos w) ≡ true
    first_holds h = le_yes t-is (less (times 2 c-is) (whole w)) (omega arith)

    first-fails : n < u → le_z t (pos 2 *ℤ c -ℤ pos w) ≡ false
    first-fails h = le-no t-is (less (times 2 c-is) (whole w)) (omega arith)

    second_holds : n < u → 2 * w < u - n + 2 * e → lt_z (pos 2 *ℤ c +ℤ pos w -ℤ pos 2 *ℤ pos e) t ≡ true
    second_holds h k = lt_yes (less (plus (times 2 c-is) (whole w)) (whole (2 * e))) t-is (omega arith)

    second-fails : n < u → u - n + 2 * e ≤ 2 * w → lt_z (pos 2 *ℤ c +ℤ pos w -ℤ pos 2 *ℤ pos e) t ≡ false
    second-fails h k = lt_no (less (plus (times 2 c-is) (whole w)) (whole (2 * e))) t-is (omega arith)

    divisor : pos 2 *ℤ (pos w -ℤ pos e) ≡ pos (2 * (w - e))
    divisor = ap (λ z. pos 2 *ℤ z) (value (gap w e) wide)

    dividend : n < u → pos 255 *ℤ (t -ℤ pos 2 *ℤ c +ℤ pos w) +ℤ pos w -ℤ pos e ≡ pos (255 * (u - n) + w - e)
    dividend h =
        value
        (less (plus (times 255 (plus (less t-is (times 2 c-is)) (whole w))) (whole w)) (whole e))
        (omega arith)
        ∙ ap pos (omega arith)

    pub third : n < u → floor (pos 255 *ℤ (t -ℤ pos 2 *ℤ c +ℤ pos w) +ℤ pos w -ℤ pos e) (pos 2 *ℤ (pos w -ℤ pos e))
        ≡ pos ((255 * (u - n) + w - e) / (2 * (w - e)))
    third h = rw (dividend h, divisor)

    pub level-none : u ≤ n → level_by (pos e) c (pos w) t ≡ Some (pos 0)
    level-none h = rw (first_holds h)

    level-full : n < u → 2 * w < u - n + 2 * e → level_by (pos e) c (pos w) t ≡ Some (pos 255)
    level-full h k = rw (first-fails h, second_holds h k)

    level-part : n < u → u - n + 2 * e ≤ 2 * w → level_by (pos e) c (pos w) t ≡ Some (pos ((255 * (u - n) + w - e) / (2 * (w - e))))
    level-part h k =
        let z : lt_z (pos 0) (pos 2 *ℤ (pos w -ℤ pos e)) ≡ true = ap (lt_z (pos 0)) divisor ∙ lt-ltb 0 (2 * (w - e)) (omega arith) in
        rw (first-fails h, second-fails h k, z) (ap Some (third h))

    pub level-ramp : n < u → level_by (pos e) c (pos w) t ≡ Some (pos (ramp_of e (u - n) w))
    unfolding ramp_of
    level-ramp h = go (ltb (2 * w) (u - n + 2 * e)) refl
      where
        go : (b : Bool) → ltb (2 * w) (u - n + 2 * e) ≡ b
            → level_by (pos e) c (pos w) t ≡ Some (pos (cond b 255 ((255 * (u - n) + w - e) / (2 * (w - e)))))
        go true q = level-full h (ltb-true (2 * w) (u - n + 2 * e) q)
        go false q = level-part h (ltb-false (2 * w) (u - n + 2 * e) q)

-- ---- Windows

module _ (window : Window) (widths : Widths window) {x : ℤ} {p m : ℕ} (x-is : Gap x p m) where
  module _ (u n : ℕ) (u-is : u ≡ 2 * unit * p + 2 * below window.center + above window.width)
      (n-is : n ≡ 2 * unit * m + 2 * above window.center) where
    pub window-none : u ≤ n → level_of window x ≡ Some (pos 0)
    unfolding level_of
    window-none h = rw (width_is window.width widths.some) (level-none (taken_off window.function) (above window.width)
        (times (2 * unit) x-is) (signed-gap window.center) widths.wide u n u-is n-is h)

    pub window-ramp : n < u → level_of window x ≡ Some (pos (ramp_of (taken_off window.function) (u - n) (above window.width)))
    unfolding level_of
    window-ramp h = rw (width_is window.width widths.some) (level-ramp (taken_off window.function) (above window.width)
        (times (2 * unit) x-is) (signed-gap window.center) widths.wide u n u-is n-is h)

-- A level that does not lack, and is at most 255.
pub record Leveled (window : Window) (x : ℤ) : Type 0 where
  pub y : ℕ
  pub is : level_of window x ≡ Some (pos y)
  pub small : y ≤ 255

pub over : ℤ → ℕ
over (pos n) = n
over (negsuc n) = 0

pub under : ℤ → ℕ
under (pos n) = 0
under (negsuc n) = suc n

pub integer-gap : (x : ℤ) → Gap x (over x) (under x)
unfolding over under
integer-gap (pos n) = whole n
integer-gap (negsuc n) = record { is = omega arith }

-- ---- Windows of every width

-- Where the width is no more than what the function takes off, the level goes from 0 to 255 at once.
module _ {t c w : ℤ} {p m a b g h : ℕ} (e : ℕ) (t-is : Gap t p m) (c-is : Gap c a b) (w-is : Gap w g h) where
  step-none : p + 2 * b + g ≤ m + 2 * a + h → level_by (pos e) c w t ≡ Some (pos 0)
  step-none l = rw (le_yes t-is (less (times 2 c-is) w-is) (omega arith))

  step-full : g ≤ e + h → m + 2 * a + h < p + 2 * b + g → level_by (pos e) c w t ≡ Some (pos 255)
  step-full k l =
      rw (le-no t-is (less (times 2 c-is) w-is) (omega arith), lt_yes (less (plus (times 2 c-is) w-is) (whole (2 * e))) t-is (omega arith))

ramp-full : (e d w : ℕ) → w ≤ e → 0 < d → ramp_of e d w ≡ 255
unfolding ramp_of
ramp-full e d w h k = rw (lt-ltb (2 * w) (d + 2 * e) (omega arith))

-- Where the cases part, as naturals: with t = p - m, t - 2C + W is raised - lowered.
unfoldable pub raised : Window → ℕ → ℕ
raised window p = p + 2 * below window.center + above window.width

unfoldable pub lowered : Window → ℕ → ℕ
lowered window m = m + 2 * above window.center + below window.width

-- The level in naturals.
unfoldable pub levelled : Window → ℕ → ℕ → ℕ
levelled window p m =
    cond (leb (raised window p) (lowered window m)) 0
    (ramp_of (taken_off window.function) (raised window p - lowered window m) (above window.width))

module _ (window : Window) {t : ℤ} {p m : ℕ} (t-is : Gap t p m) where
  above-none : lowered window m < raised window p
      → level_at window t ≡ Some (pos (ramp_of (taken_off window.function) (raised window p - lowered window m) (above window.width)))
  unfolding raised lowered
  above-none l = go (leb (above window.width) (taken_off window.function)) refl
    where
      go : (s : Bool) → leb (above window.width) (taken_off window.function) ≡ s
          → level_at window t
          ≡ Some (pos (ramp_of (taken_off window.function) (raised window p - lowered window m) (above window.width)))
      go true q =
          let narrow = leb-true (above window.width) (taken_off window.function) q in
          step-full (taken_off window.function) t-is (signed-gap window.center) (signed-gap window.width) (omega (arith, narrow)) l
          ∙ ap (λ (y : ℕ). Some (pos y)) (sym
          (ramp-full (taken_off window.function) (raised window p - lowered window m) (above window.width) narrow (omega arith)))
      go false q =
          let wide : taken_off window.function
          < above window.width = leb-false (above window.width) (taken_off window.function) q in
          let None = width-below window.width (omega arith) in
          rw (width_is window.width (omega arith))
          (level-ramp (taken_off window.function) (above window.width) t-is (signed-gap window.center) (omega arith)
          (raised window p) (lowered window m) refl (omega (arith, None)) l)

  pub level-is : level_at window t ≡ Some (pos (levelled window p m))
  unfolding levelled raised lowered
  level-is = go (leb (raised window p) (lowered window m)) refl
    where
      go : (s : Bool) → leb (raised window p) (lowered window m) ≡ s
          → level_at window t
          ≡ Some (pos (cond s 0 (ramp_of (taken_off window.function) (raised window p - lowered window m) (above window.width))))
      go true e = step-none (taken_off window.function) t-is (signed-gap window.center) (signed-gap window.width)
          (leb-true (raised window p) (lowered window m) e)
      go false e = above-none (leb-false (raised window p) (lowered window m) e)

pub level-small : (window : Window) (p m : ℕ) → levelled window p m ≤ 255
unfolding levelled
level-small window p m = go (leb (raised window p) (lowered window m)) refl
  where
    go : (s : Bool) → leb (raised window p) (lowered window m) ≡ s
        → cond s 0 (ramp_of (taken_off window.function) (raised window p - lowered window m) (above window.width)) ≤ 255
    go true e = omega arith
    go false e =
        let l : lowered window m < raised window p = leb-false (raised window p) (lowered window m) e in
        ramp-small (taken_off window.function) (raised window p - lowered window m) (above window.width) (omega arith)

-- Every x has a level, in every window.
pub leveled : (window : Window) (x : ℤ) → Leveled window x
unfolding level_of
leveled window x = record {
  y = levelled window (2 * unit * over x) (2 * unit * under x);
  is = level-is window (times (2 * unit) (integer-gap x));
  small = level-small window (2 * unit * over x) (2 * unit * under x);
}

-- ---- Tables

pub filled_more : (f : ℕ → ℕ) (n : ℕ) (s : List ℕ) → Filled f n s → n < shade_places → Filled f (n + 1) (set s n (f n))
filled_more f n s t l = record { size = length-set s n (f n) ∙ t.size; value = each }
  where
    inside : n < length s
    inside = omega (arith, t.size)

    apart : (i : ℕ) → i < n → i ≡ n → ⊥
    apart i h e = omega arith

    last : {i : ℕ} → i < n + 1 → n ≤ i → i ≡ n
    last h k = omega arith

    each : (i : ℕ) → i < n + 1 → get_or (set s n (f n)) i 0 ≡ f i
    each i h = go (ltb i n) refl
      where
        go : (b : Bool) → ltb i n ≡ b → get_or (set s n (f n)) i 0 ≡ f i
        go true e = get_or-set_other s n i (f n) 0 (apart i (ltb-true i n e)) ∙ t.value i (ltb-true i n e)
        go false e = rw (last h (ltb-false i n e)) (get_or-set_same s n (f n) 0 inside)

pub power_small : (n k : ℕ) → n ≤ k → 2 ^ n ≤ 2 ^ k
power_small n k h = pow-le-pow_right {n = 2} (omega arith) {i = n} {j = k} h

pub power-twice : (n : ℕ) → 2 ^ (n + 1) ≡ 2 ^ n + 2 ^ n
power-twice n =
    let e : n + 1 ≡ suc n = omega arith in
    rw (e, pow-suc 2 n) (omega arith)

-- The shade of a level.
abbrev pub shade_number : Bool → ℕ → ℕ
shade_number inverse y = cond inverse (255 - y) y

pub shaded-is : (inverse : Bool) (y : ℕ) → y ≤ 255 → shaded inverse (Some (pos y)) ≡ Some (shade_number inverse y)
unfolding shade_of
shaded-is true y h = ap cell_of (value (gap 255 y) h)
shaded-is false y h = refl

-- A place of the table, by its level.
pub shade-is : (window : Window) (stored : ℕ) (inverse : Bool) (i y : ℕ) → y ≤ 255
    → level_of window (pos (i + 2 ^ (stored - 1)) -ℤ pos (2 ^ stored - 1)) ≡ Some (pos y)
    → shade_at window stored inverse i ≡ shade_number inverse y
unfolding shade_at
shade-is window stored inverse i y h e = ap (λ (o : Option ℤ). number_or0 (shaded inverse o)) e ∙ ap number_or0 (shaded-is inverse y h)
