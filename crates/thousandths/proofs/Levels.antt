-- A window that is scaled, with everything in it, gives the same level.
use Rattle.std.specs.Prelude.{Option, Some, None}
use mathlib.Core.Path.{◌≡◌, sym, ap, ◌∙◌}
use mathlib.Core.Bool.{not}
use Prim.Native.Nat.{ℕ, zero, suc, ◌+◌, ◌-◌, ◌*◌, ◌/◌, ◌^◌}
use native.Mathlib.Nat.{div-div-eq-div-mul}
use native.Mathlib.Omega.{arith}
use lib.IntN.{ℤ, pos, negsuc, nat_abs, ◌+ℤ◌, ◌-ℤ◌, ◌*ℤ◌}
use lib.Signed.{le_z, lt_z}
use Rattle.value.specs.declared.Signed.{Signed}
use Rattle.value.specs.declared.Signed.TheVariants as signed
use Rattle.value.specs.declared.Function.{Function}
use Rattle.value.specs.declared.Function.TheVariants as function
use Rattle.value.specs.Number as current
use Rattle.window.specs.declared.Window.{Window}
use Rattle.window.specs.Window as window
use Rattle.window.specs.Window.{integer, floor, level_by}
use Rattle.window.proofs.Gaps.{Gap, shift, whole, plus, less, times, same-leb, le_test, lt_z-le_z}
use Rattle.window.proofs.Laws.{signed-gap, over, under, integer-gap}
use Rattle.thousandths.specs.Number.{unit_before, factor, scaled}
use Rattle.thousandths.specs.Step6.{full_window_before, taken_off_before, level_at_before, level_of_before, level_half_before}

-- The second integer is `factor` times the first.
record Scaled (y z : ℤ) : Type 0 where
  pub a : ℕ
  pub b : ℕ
  pub one : Gap y a b
  pub thousand : Gap z (factor * a) (factor * b)

of-plus : {x y u v : ℤ} → Scaled x y → Scaled u v → Scaled (x +ℤ u) (y +ℤ v)
of-plus s t = record {
  a = s.a + t.a;
  b = s.b + t.b;
  one = plus s.one t.one;
  thousand = shift (plus s.thousand t.thousand) _ _ (omega arith);
}

of-less : {x y u v : ℤ} → Scaled x y → Scaled u v → Scaled (x -ℤ u) (y -ℤ v)
of-less s t = record {
  a = s.a + t.b;
  b = s.b + t.a;
  one = less s.one t.one;
  thousand = shift (less s.thousand t.thousand) _ _ (omega arith);
}

of_two : {x y : ℤ} → Scaled x y → Scaled (pos 2 *ℤ x) (pos 2 *ℤ y)
of_two s = record { a = 2 * s.a; b = 2 * s.b; one = times 2 s.one; thousand = shift (times 2 s.thousand) _ _ (omega arith) }

of-255 : {x y : ℤ} → Scaled x y → Scaled (pos 255 *ℤ x) (pos 255 *ℤ y)
of-255 s = record { a = 255 * s.a; b = 255 * s.b; one = times 255 s.one; thousand = shift (times 255 s.thousand) _ _ (omega arith) }

of-whole : (n : ℕ) → Scaled (pos n) (pos (factor * n))
of-whole n = record { a = n; b = 0; one = whole n; thousand = whole (factor * n) }

-- ---- The tests

same-le : {x y u v : ℤ} → Scaled x y → Scaled u v → le_z x u ≡ le_z y v
same-le s t =
    le_test s.one t.one
    ∙ same-leb (s.a + t.b) (t.a + s.b) (factor * s.a + factor * t.b) (factor * t.a + factor * s.b) (λ h. omega arith)
    (λ h. omega arith)
    ∙ sym (le_test s.thousand t.thousand)

same-lt : {x y u v : ℤ} → Scaled x y → Scaled u v → lt_z x u ≡ lt_z y v
same-lt {x = x} {y = y} {u = u} {v = v} s t = lt_z-le_z x u ∙ ap not (same-le t s) ∙ sym (lt_z-le_z y v)

-- ---- The quotient

scaled-pos : (n : ℕ) (z : ℤ) → Scaled (pos n) z → z ≡ pos (factor * n)
scaled-pos n (pos m) s = ap pos (omega (arith, s.one.is, s.thousand.is))
scaled-pos n (negsuc m) s = absurd (omega (arith, s.one.is, s.thousand.is))

scaled-neg : (n : ℕ) (z : ℤ) → Scaled (negsuc n) z → z ≡ negsuc (factor * n + (factor - 1))
scaled-neg n (pos m) s = absurd (omega (arith, s.one.is, s.thousand.is))
scaled-neg n (negsuc m) s = ap negsuc (omega (arith, s.one.is, s.thousand.is))

scaled-size : (y z : ℤ) → Scaled y z → nat_abs z ≡ factor * nat_abs y
scaled-size (pos n) z s = ap nat_abs (scaled-pos n z s)
scaled-size (negsuc n) z s = ap nat_abs (scaled-neg n z s) ∙ omega arith

quotient : (n m d : ℕ) → m / factor ≡ n → m / (factor * d) ≡ n / d
quotient n m d e = sym (div-div-eq-div-mul m factor d) ∙ ap (λ (x : ℕ). x / d) e

same-floor : {x y u v : ℤ} → Scaled x y → Scaled u v → floor y v ≡ floor x u
same-floor {x = pos n} {y = y} {u = u} {v = v} s t = rw (scaled-pos n y s, scaled-size u v t)
    (ap pos (quotient n (factor * n) (nat_abs u) (omega arith)))
same-floor {x = negsuc n} {y = y} {u = u} {v = v} s t = rw (scaled-neg n y s, scaled-size u v t)
    (ap negsuc (quotient n (factor * n + (factor - 1)) (nat_abs u) (omega arith)))

-- ---- The level

level-scaled : {e o c d w v t q : ℤ} → Scaled e o → Scaled c d → Scaled w v → Scaled t q → level_by o d v q ≡ level_by e c w t
level-scaled se sc sw st =
    rw (
      ← same-le st (of-less (of_two sc) sw),
      ← same-lt (of-less (of-plus (of_two sc) sw) (of_two se)) st,
      ← same-lt (of-whole 0) (of_two (of-less sw se)),
      same-floor (of-less (of-plus (of-255 (of-plus (of-less st (of_two sc)) sw)) sw) se) (of_two (of-less sw se)),
    )

scaled-off : (f : Option Function) → Scaled (pos (taken_off_before f)) (pos (window.taken_off f))
scaled-off (Some function.Linear) = of-whole unit_before
scaled-off (Some function.Exact) = of-whole 0
scaled-off None = of-whole unit_before

scaled-signed : (s : Option Signed) → Scaled (integer s) (integer (scaled s))
scaled-signed (Some (signed.Plus n)) = of-whole n
scaled-signed (Some (signed.Minus zero)) = of-whole 0
scaled-signed (Some (signed.Minus (suc n))) = record {
  a = 0;
  b = suc n;
  one = record { is = omega arith };
  thousand = shift (signed-gap (Some (signed.Minus (factor * suc n)))) 0 (factor * suc n) (omega arith);
}
scaled-signed None = of-whole 0

scaled-place : (x : ℤ) → Scaled (pos (2 * unit_before) *ℤ x) (pos (2 * current.unit) *ℤ x)
scaled-place x = record {
  a = 2 * unit_before * over x;
  b = 2 * unit_before * under x;
  one = times (2 * unit_before) (integer-gap x);
  thousand = shift (times (2 * current.unit) (integer-gap x)) _ _ (omega arith);
}

-- The same window, in millionths.
abbrev pub scaled_window : Window → Window
scaled_window w = record { center = scaled w.center; width = scaled w.width; function = w.function }

same_at : (w : Window) {t q : ℤ} → Scaled t q → window.level_at (scaled_window w) q ≡ level_at_before w t
same_at w st = level-scaled (scaled-off w.function) (scaled-signed w.center) (scaled-signed w.width) st

pub same-level : (w : Window) (x : ℤ) → window.level_of (scaled_window w) x ≡ level_of_before w x
unfolding window.level_of level_of_before
same-level w x = same_at w (scaled-place x)

pub same_half : (w : Window) (x : ℤ) → window.level_half (scaled_window w) x ≡ level_half_before w x
unfolding window.level_half level_half_before
same_half w x = same_at w (of-plus (scaled-place x) (of-whole unit_before))

pub same_full : (stored : ℕ) → window.full_window stored ≡ scaled_window (full_window_before stored)
unfolding window.full_window full_window_before
same_full stored =
    ap (λ (n : ℕ). record { center = Some (signed.Plus n); width = Some (signed.Plus (current.unit * 2 ^ stored)); function = Some function.Linear })
    (omega arith)
    ∙ ap (λ (n : ℕ).
    record { center = Some (signed.Plus (factor * (unit_before * 2 ^ stored / 2))); width = Some (signed.Plus n); function = Some function.Linear })
    (omega arith)
