-- What painting leaves in the image buffer is the picture that the steps give: each place of the table of shades is the
-- level of the x that the cell has there.
use Rattle.std.specs.Prelude.{Option, Some}
use mathlib.Core.Path.{◌≡◌, refl, sym, ap, ◌∙◌}
use mathlib.Core.Bool.{Bool}
use mathlib.Core.List.{List, [], ◌∷◌, ◌++◌, append_assoc}
use Prim.Native.Nat.{ℕ, zero, suc, ◌+◌, ◌-◌, ◌^◌, ◌≤◌, ◌<◌}
use native.Mathlib.Omega.{arith}
use lib.ListN.{length, length-append, drop, get_or, set}
use lib.Seq.{drop-cons, set_at}
use lib.IntN.{ℤ, pos, negsuc, ◌+ℤ◌, ◌-ℤ◌}
use lib.Pow.{pow_pos}
use borrow.Author.Tests.{le-leb}
use Rattle.shift.specs.declared.Moves.{Moves}
use Rattle.pixel.specs.declared.Geometry.{Geometry}
use Rattle.pixel.specs.Pixel.{samples_of, sample_at, blended_at}
use Rattle.pixel.specs.Internal.{painted, native_shade, masked_shade}
use Rattle.pixel.proofs.Laws.{sample-most, half-low}
use Rattle.pixel.proofs.Blend.{are-inside, blended-most}
use Rattle.window.specs.declared.Window.{Window}
use Rattle.window.specs.Window.{level_of, shaded}
use Rattle.window.specs.Internal.{Drawable, shade_at, Filled}
use Rattle.window.proofs.Laws.{power-twice, leveled, shaded-is, shade-is}
use Rattle.window.proofs.Gaps.{Gap, shift, whole, plus, gap}
use Rattle.steps.specs.Given.{collect}
use Rattle.steps.specs.Steps.{native_cell, masked_cell}
use Rattle.display.proofs.Lacking.{some_bits}

-- ---- Painted cells are collected cells

-- The cells that f gives, painted, are those that are collected, with the image untouched beyond them.
pub record Collected (F : ℕ → Option ℕ) (f : ℕ → ℕ) (n : ℕ) (image : List ℕ) : Type 0 where
  pub l : List ℕ
  pub is : collect F n ≡ Some l
  pub size : length l ≡ n
  pub image-is : painted f n image ≡ l ++ drop n image

pub collected : (F : ℕ → Option ℕ) (f : ℕ → ℕ) (n : ℕ) (image : List ℕ) → n ≤ length image → ((i : ℕ) → i < n → F i ≡ Some (f i))
    → Collected F f n image
unfolding collect painted
collected F f zero image h e = record { l = []; is = refl; size = refl; image-is = refl }
collected F f (suc n) image h e =
    let c = collected F f n image (omega arith) (λ i k. e i (omega arith)) in
    record {
      l = c.l ++ (f n ∷ []);
      is = rw (c.is, e n (omega arith));
      size = simp length-append (omega (arith, c.size));
      image-is =
          ap (λ (s : List ℕ). set s n (f n)) (c.image-is ∙ ap (λ (s : List ℕ). c.l ++ s) (drop-cons image n 0 (omega arith)))
          ∙ set_at c.l (get_or image n 0) (drop (suc n) image) (f n) n c.size
          ∙ sym (append_assoc c.l (f n ∷ []) (drop (suc n) image));
    }

-- ---- The place of a cell in the table

same : (y z : ℤ) (a b : ℕ) → Gap y a b → Gap z a b → y ≡ z
same (pos m) (pos n) a b p q = ap pos (omega (arith, p.is, q.is))
same (pos m) (negsuc n) a b p q = absurd (omega (arith, p.is, q.is))
same (negsuc m) (pos n) a b p q = absurd (omega (arith, p.is, q.is))
same (negsuc m) (negsuc n) a b p q = ap negsuc (omega (arith, p.is, q.is))

-- The shade at a place whose x is the cell's.
shade-cell : (w : Window) → Drawable w → (stored : ℕ) (inverse : Bool) (i : ℕ) (x : ℤ)
    → pos (i + 2 ^ (stored - 1)) -ℤ pos (2 ^ stored - 1) ≡ x
    → shaded inverse (level_of w x) ≡ Some (shade_at w stored inverse i)
shade-cell w d stored inverse i x e =
    let l = leveled w x in
    ap (shaded inverse) l.is ∙ shaded-is inverse l.y l.small
    ∙ ap Some (sym (shade-is w stored inverse i l.y l.small (rw e l.is)))

module _ (g : Geometry) (v : List ℕ) (f : ℕ) (low : 1 ≤ g.stored) (w : Window) (d : Drawable w) (inverse : Bool)
    (table : List ℕ) (t : Filled (shade_at w g.stored inverse) (2 ^ (g.stored + 1) - 1) table) where
  pub native-is : (i : ℕ) → native_cell g v f w inverse i ≡ Some (native_shade table g v f i)
  unfolding native_cell native_shade
  native-is i =
      let s : ℕ = sample_at g v f i in
      let p : ℕ = 2 ^ (g.stored - 1) in
      let q : ℕ = 2 ^ g.stored - 1 in
      let h : p ≤ q = half-low g.stored low in
      let m : s ≤ q = sample-most g v f i in
      let k : s + (q - p) < 2 ^ (g.stored + 1) - 1 = omega (arith, power-twice g.stored, pow_pos g.stored) in
      let x : pos (s + (q - p) + p) -ℤ pos q ≡ pos s = same (pos (s + (q - p) + p) -ℤ pos q) (pos s) (s + (q - p) + p) q
      (gap (s + (q - p) + p) q) (shift (whole s) (s + (q - p) + p) q (omega arith)) in
      shade-cell w d g.stored inverse (s + (q - p)) (pos s) x ∙ ap Some (sym (t.value (s + (q - p)) k))

  pub masked-is : (ks : List ℕ) (mv : Moves) → 1 ≤ length ks → length ks ≤ 64 → (i : ℕ) → i < samples_of g
      → masked_cell g v f ks mv w inverse i ≡ Some (masked_shade table g v f ks mv i)
  unfolding masked_cell masked_shade
  masked-is ks mv one few i inside =
      let s : ℕ = sample_at g v f i in
      let a : ℕ = blended_at g v ks mv i in
      let p : ℕ = 2 ^ (g.stored - 1) in
      let q : ℕ = 2 ^ g.stored - 1 in
      let h : p ≤ q = half-low g.stored low in
      let m : s ≤ q = sample-most g v f i in
      let n : a ≤ q = blended-most g mv i v ks one few in
      let k : s + q - a < 2 ^ (g.stored + 1) - 1 = omega (arith, power-twice g.stored, pow_pos g.stored) in
      let x : pos (s + q - a + p) -ℤ pos q ≡ pos s -ℤ pos a +ℤ pos p =
      same (pos (s + q - a + p) -ℤ pos q) (pos s -ℤ pos a +ℤ pos p) (s + q - a + p) q (gap (s + q - a + p) q)
      (shift (plus (gap s a) (whole p)) (s + q - a + p) q (omega arith)) in
      rw (le-leb 1 (length ks) one, are-inside g mv i inside, some_bits g.stored low)
      (shade-cell w d g.stored inverse (s + q - a) (pos s -ℤ pos a +ℤ pos p) x ∙ ap Some (sym (t.value (s + q - a) k)))
