-- The TO_LINEAR item by its search; places of entries; what a LUT that rule 39 lets pass has.
use Rattle.std.specs.Prelude.{Some, None}
use Rattle.std.specs.Bool.{then_some}
use mathlib.Core.Path.{◌≡◌, refl, sym, ap, ◌∙◌}
use mathlib.Core.Bool.{Bool, true, false, cond, ◌&&◌}
use mathlib.Core.List.{List}
use Prim.Native.Nat.{ℕ, zero, suc, ◌+◌, ◌-◌, ◌*◌, ◌≤◌, ◌<◌}
use native.Mathlib.Nat.{mul-le-mul}
use native.Mathlib.Omega.{arith}
use lib.ListN.{length}
use lib.Dec.{eqb, ltb}
use borrow.Author.Tests.{eqb-true, eqb-false, ltb-true, ltb-false, le-leb}
use Rattle.basics.specs.Bytes.{le16}
use Rattle.basics.proofs.Tests.{and_both}
use Rattle.node.specs.Nodes.{Node, members}
use Rattle.element.specs.Elements.{first}
use Rattle.pixel.specs.declared.Geometry.{Geometry}
use Rattle.pixel.specs.Pixel.{samples_of, sample_at, cell_at}
use Rattle.pixel.specs.Internal.{Shaped}
use Rattle.pixel.proofs.Laws.{sample-cell, frame-facts, native-run, painted-more, painted-length}
use Rattle.rules.specs.Intensity.{linear_among, entry_count, is_lut}
use Rattle.intensity.specs.Internal.{Stops}
use Rattle.intensity.proofs.Laws.{linear-here, no-linear}
use Rattle.linear.specs.Internal.{MapReady}
use Rattle.linear.specs.Mapping.{place_among, entry_place, entry_at, entry_of}

-- ---- The first TO_LINEAR item

module _ (ns : List Node) (from to k : ℕ) (at : Stops ns from to k) where
  pub first-here : k < to → first (linear_among ns (members ns from to)) ≡ Some k
  first-here h = ap first (sym at.same ∙ linear-here ns k to h (at.stands h))

  pub first-none : to ≤ k → first (linear_among ns (members ns from to)) ≡ None
  first-none h = ap first (no-linear ns from to k at h)

  pub first-is : then_some (ltb k to) k ≡ first (linear_among ns (members ns from to))
  first-is = go (ltb k to) refl
    where
      go : (t : Bool) → ltb k to ≡ t → then_some t k ≡ first (linear_among ns (members ns from to))
      go true e = sym (first-here (ltb-true k to e))
      go false e = sym (first-none (ltb-false k to e))

-- ---- Places

-- A place is one of the entries.
pub place-most : (from count x : ℕ) → 1 ≤ count → place_among from count x < count
unfolding place_among
place-most from count x h = go (ltb x from) refl (ltb x (from + count)) refl
  where
    go : (a : Bool) → ltb x from ≡ a → (b : Bool) → ltb x (from + count) ≡ b → cond a 0 (cond b (x - from) (count - 1)) < count
    go true p b q = omega arith
    go false p true q = omega (arith, ltb-true x (from + count) q, ltb-false x from p)
    go false p false q = omega arith

-- ---- A LUT that rule 39 lets pass

pub record Lut (d t : List ℕ) : Type 0 where
  pub three : length d ≡ 6
  pub bits : le16 d 4 ≡ 16
  pub two : length t ≡ 2 * entry_count d

module _ (d t : List ℕ) (e : is_lut d t ≡ true) where
  pub lut-is : Lut d t
  unfolding is_lut
  lut-is =
      let a = and_both (eqb (length d) 6) (eqb (le16 d 4) 16 && eqb (length t) (2 * entry_count d)) e in
      let b = and_both (eqb (le16 d 4) 16) (eqb (length t) (2 * entry_count d)) a.1 in
      record { three = eqb-true _ _ a.0; bits = eqb-true _ _ b.0; two = eqb-true _ _ b.1 }

at_least : (n : ℕ) → (n ≡ 0 → ⊥) → 1 ≤ n
at_least zero h = absurd (h refl)
at_least (suc n) h = omega arith

count-least : (d : List ℕ) → 1 ≤ entry_count d
count-least d = go (eqb (le16 d 0) 0) refl
  where
    go : (b : Bool) → eqb (le16 d 0) 0 ≡ b → 1 ≤ cond b 65536 (le16 d 0)
    go true e = omega arith
    go false e = at_least (le16 d 0) (eqb-false (le16 d 0) 0 e)

-- No entry of it is lacking.
pub entry-is : (d t : List ℕ) → is_lut d t ≡ true → (x : ℕ) → entry_of d t x ≡ Some (entry_at d t x)
unfolding entry_of entry_place
entry-is d t e x =
    let l = lut-is d t e in
    let p : place_among (le16 d 2) (entry_count d) x < entry_count d = place-most (le16 d 2) (entry_count d) x (count-least d) in
    rw (le-leb (2 * place_among (le16 d 2) (entry_count d) x + 2) (length t) (omega (arith, l.two)))

-- The entry of sample i, by the answers on the way.
pub cell-entry : (g : Geometry) (v : List ℕ) (f : ℕ) (d t : List ℕ) (i x from count place r : ℕ)
    → x ≡ cell_at g v ((f - 1) * samples_of g + i)
    → from ≡ le16 d 2 → count ≡ entry_count d → place ≡ place_among from count x → r ≡ le16 t (2 * place) → r ≡ entry_at d t (sample_at g v f i)
unfolding entry_at entry_place
cell-entry g v f d t i x from count place r a b c e h =
    rw (sample-cell g v f i, ← a, ← b, ← c, ← e) h

pub samples-few : (g : Geometry) → Shaped g → samples_of g ≤ 4294836225
samples-few g h = mul-le-mul {n₁ = g.rows} {m₁ = g.columns} {n₂ = 65535} {m₂ = 65535} h.rows-most h.columns-most

-- The cells of a frame lie in its pixel bytes, and the entries in the LUT.
module _ (g : Geometry) (v d t values : List ℕ) (f : ℕ) (m : MapReady v g f d t values) where
  pub low-frame : 1 ≤ f
  low-frame = (frame-facts g v f m.inside).0

  pub first-fits : (f - 1) * samples_of g ≤ length v
  first-fits = (native-run g v f m.shape.width m.inside).1

  pub cell-fits : (i : ℕ) → i < samples_of g → (f - 1) * samples_of g + i < length v
  cell-fits i h = ((native-run g v f m.shape.width m.inside).0 i h).1

  pub cell-inside : (i : ℕ) → i < samples_of g → ((f - 1) * samples_of g + i) * g.width + g.width ≤ length v
  cell-inside i h = ((native-run g v f m.shape.width m.inside).0 i h).0

  pub three : length d ≡ 6
  three = (lut-is d t m.lut).three

  pub two : length t ≡ 2 * entry_count d
  two = (lut-is d t m.lut).two

pub ruleset cells = (low-frame, first-fits, cell-fits, cell-inside, three, two, painted-more, painted-length)
