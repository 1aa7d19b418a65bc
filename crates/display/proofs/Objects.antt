-- An accepted object gives the steps what they need, because every rule holds at its frames, and a rule that holds found
-- each element that it reads.
use Rattle.std.specs.Prelude.{Option, Some, None}
use mathlib.Core.Path.{◌≡◌, refl, sym, ◌∙◌, subst}
use mathlib.Core.Bool.{Bool, true, false, ◌&&◌, ◌||◌}
use mathlib.Core.List.{List, [], ◌∷◌}
use mathlib.Core.Logic.{◌⊎◌, inl, inr}
use Prim.Native.Nat.{ℕ, ◌*◌, ◌/◌, ◌%◌, ◌^◌, ◌≤◌, ◌<◌}
use native.Mathlib.Nat.{mul-le-mul_right, mul_assoc, one-le-pow}
use native.Mathlib.Omega.{arith}
use lib.Dec.{eqb, leb}
use lib.ListN.{length, get_or}
use borrow.Author.Tests.{le-leb, leb-true, eqb-true}
use Rattle.basics.specs.Bytes.{same_bytes}
use Rattle.value.specs.declared.Signed.{Signed}
use Rattle.value.specs.declared.Signed.TheVariants as signed
use Rattle.value.specs.Text.{ascii, values_of, value_of, is_single, trim_start, trim_end}
use Rattle.value.specs.Words.{is_word, word_at, is_function}
use Rattle.value.specs.Number.{unit, all, all_decimals, all_widths, decimal_of, is_number, least_width, is_width}
use Rattle.value.proofs.Laws.{decimal_of-below}
use Rattle.value.proofs.Parts.{values-some}
use Rattle.basics.proofs.Tests.{false-is-true, and_both, or-either}
use Rattle.node.specs.Nodes.{Node, node_at, root, inside}
use Rattle.node.specs.Find.{holds, if_present, find, find_vr}
use Rattle.node.proofs.Tests.{same-is, holds-is}
use Rattle.basics.specs.Tags
use Rattle.basics.specs.Vr.{CS, DS, OB, OW}
use Rattle.element.specs.Elements.{value_at, us_in, the_item, function_in}
use Rattle.element.specs.Frames.{frames_of, group_of}
use Rattle.rules.specs.Root.{photometric_is, bits_fit, rule10, rule11, rule12, rule15}
use Rattle.rules.specs.Frame.{item30, is_voi, has_window, is_window, rule30}
use Rattle.rules.specs.Pixels.{padded, is_pixel_vr, is_pixel_data, rule38}
use Rattle.conformance.specs.declared.Finding.TheVariants.{Accepted}
use Rattle.conformance.specs.Judging.{finding_of}
use Rattle.pixel.specs.declared.Geometry.{Geometry}
use Rattle.pixel.specs.Pixel.{is_frame}
use Rattle.window.specs.declared.Window.{Window}
use Rattle.window.specs.Window.{full_window}
use Rattle.window.specs.Internal.{Drawable}
use Rattle.window.proofs.Laws.{power_small}
use Rattle.steps.specs.Steps.{geometry_of, pixels_of, group_for, window_in, window_on, window_for, inverse_of}
use Rattle.display.proofs.Accepted.{SmallRoot, Object, GivesWindow}
use Rattle.display.proofs.Rules.{at-items, group-is, r10, r11, r12, r15, r30, r38}

-- ---- Rules 10 to 12, 15 and 38: the object

-- The bits that rule 12 permits, in bytes to a cell.
record Bits (a b : ℕ) : Type 0 where
  cell : (a / 8 ≡ 1) ⊎ (a / 8 ≡ 2)
  bytes : (leb 8 a && eqb (a % 8) 0) ≡ true
  low : 1 ≤ b
  high : b ≤ 16
  fits : b ≤ 8 * (a / 8)

bits : (a b : ℕ) → bits_fit a b ≡ true → Bits a b
unfolding bits_fit
bits a b e = go (or-either (eqb a 8 && eqb b 8) (eqb a 16 && (leb 9 b && leb b 16)) e)
  where
    go : ((eqb a 8 && eqb b 8) ≡ true) ⊎ ((eqb a 16 && (leb 9 b && leb b 16)) ≡ true) → Bits a b
    go (inl p) =
        let q = and_both (eqb a 8) (eqb b 8) p in
        let x : a ≡ 8 = eqb-true a 8 q.0 in
        let y : b ≡ 8 = eqb-true b 8 q.1 in
        record { cell = inl (rw x); bytes = rw x; low = omega arith; high = omega arith; fits = rw x (omega arith) }
    go (inr p) =
        let q = and_both (eqb a 16) (leb 9 b && leb b 16) p in
        let t = and_both (leb 9 b) (leb b 16) q.1 in
        let x : a ≡ 16 = eqb-true a 16 q.0 in
        let y : 9 ≤ b = leb-true 9 b t.0 in
        let z : b ≤ 16 = leb-true b 16 t.1 in
        record { cell = inr (rw x); bytes = rw x; low = omega arith; high = omega arith; fits = rw x (omega arith) }

-- The VR is one of the two that the steps read.
pixel-vr : (vr a : ℕ) → is_pixel_vr vr a ≡ true → (eqb vr OW || eqb vr OB) ≡ true
unfolding is_pixel_vr
pixel-vr vr a e = go (eqb vr OW) (eqb vr OB) (eqb a 8) e
  where
    go : (x y z : Bool) → (x || (y && z)) ≡ true → (x || y) ≡ true
    go true y z h = refl
    go false y z h = (and_both y z h).0

-- Frames up to n, of r × c cells of w bytes, in a length that is padded.
frames-inside : (k n r c w l : ℕ) → k ≤ n → l ≡ padded (n * r * c * w) → k * (r * c) * w ≤ l
frames-inside k n r c w l h e =
    let p : k * (r * c) ≤ n * (r * c) = mul-le-mul_right (r * c) h in
    let q : k * (r * c) * w ≤ n * (r * c) * w = mul-le-mul_right w p in
    let m : n * (r * c) ≡ n * r * c = sym (mul_assoc n r c) in
    let z : k * (r * c) * w ≤ n * r * c * w = rw m at q in
    rw e (omega arith)

-- The photometric word is single.
single : (v word : List ℕ) → is_word v word ≡ true → is_single v ≡ true
unfolding is_word
single v word e = (and_both (is_single v) (word_at v 0 word) e).0

-- And it has a letter.
no-letter : (c : ℕ) (word : List ℕ) → is_word [] (c ∷ word) ≡ false
unfolding is_word word_at values_of trim_end trim_start same_bytes
no-letter c word = refl

lettered : (v word : List ℕ) → is_word [] word ≡ false → is_word v word ≡ true → leb 1 (length v) ≡ true
lettered [] word n e = absurd (false-is-true (sym n ∙ e))
lettered (c ∷ v) word n e = le-leb 1 (length (c ∷ v)) (omega arith)

inverse-is : (ns : List Node) (i : ℕ) → find_vr ns Tags.PhotometricInterpretation CS (root ns) ≡ Some i → leb 1 (length (value_at ns i)) ≡ true
    → is_single (value_at ns i) ≡ true → inverse_of ns ≡ Some (is_word (value_at ns i) (ascii "MONOCHROME1"))
unfolding inverse_of
inverse-is ns i e l h = rw (e, l, h)

photometric-of : (ns : List Node) → rule10 ns ≡ true → (t : Bool) × (inverse_of ns ≡ Some t)
unfolding rule10 photometric_is
photometric-of ns e = go (or-either (photometric_is ns (ascii "MONOCHROME1")) (photometric_is ns (ascii "MONOCHROME2")) e)
  where
    word : (w : List ℕ) → is_word [] w ≡ false
        → holds (find_vr ns Tags.PhotometricInterpretation CS (root ns)) (λ i. is_word (value_at ns i) w) ≡ true
        → (t : Bool) × (inverse_of ns ≡ Some t)
    word w n h =
        let a = holds-is (find_vr ns Tags.PhotometricInterpretation CS (root ns)) (λ i. is_word (value_at ns i) w) h in (
          is_word (value_at ns a.0) (ascii "MONOCHROME1"),
          inverse-is ns a.0 a.1.0 (lettered (value_at ns a.0) w n a.1.1) (single (value_at ns a.0) w a.1.1),
        )

    go : (photometric_is ns (ascii "MONOCHROME1") ≡ true) ⊎ (photometric_is ns (ascii "MONOCHROME2") ≡ true)
        → (t : Bool) × (inverse_of ns ≡ Some t)
    go (inl h) = word (ascii "MONOCHROME1") (no-letter 0x4D (ascii "ONOCHROME1")) h
    go (inr h) = word (ascii "MONOCHROME2") (no-letter 0x4D (ascii "ONOCHROME2")) h

-- What the rules found of the elements that the steps read.
record Facts (ns : List Node) : Type 0 where
  n : ℕ
  r : ℕ
  c : ℕ
  a : ℕ
  b : ℕ
  p : ℕ
  count : frames_of ns ≡ Some n
  some-frame : 1 ≤ n
  few-frames : n ≤ 65535
  rows : us_in ns Tags.Rows (root ns) ≡ Some r
  some-row : 1 ≤ r
  columns : us_in ns Tags.Columns (root ns) ≡ Some c
  some-column : 1 ≤ c
  allocated : us_in ns Tags.BitsAllocated (root ns) ≡ Some a
  stored : us_in ns Tags.BitsStored (root ns) ≡ Some b
  cells : Bits a b
  pixels : find ns Tags.PixelData (root ns) ≡ Some p
  vr : (eqb (node_at ns p).vr OW || eqb (node_at ns p).vr OB) ≡ true
  size : length (value_at ns p) ≡ padded (n * r * c * (a / 8))

module _ (ns : List Node) where
  facts : rule11 ns ≡ true → rule12 ns ≡ true → rule15 ns ≡ true → rule38 ns ≡ true → Facts ns
  unfolding rule11 rule12 rule15 rule38 is_pixel_data
  facts e11 e12 e15 e38 =
      let n₀ = holds-is (frames_of ns) _ e38 in
      let r₀ = holds-is (us_in ns Tags.Rows (root ns)) _ n₀.1.1 in
      let c₀ = holds-is (us_in ns Tags.Columns (root ns)) _ r₀.1.1 in
      let a₀ = holds-is (us_in ns Tags.BitsAllocated (root ns)) _ c₀.1.1 in
      let p₀ = holds-is (find ns Tags.PixelData (root ns)) _ a₀.1.1 in
      let x₀ = and_both (is_pixel_vr (node_at ns p₀.0).vr a₀.0) _ p₀.1.1 in
      let n₁ = holds-is (frames_of ns) _ e15 in
      let f₁ = and_both (leb 1 n₁.0) (leb n₁.0 65535) n₁.1.1 in
      let n-is : n₁.0 ≡ n₀.0 = same-is n₁.1.0 n₀.1.0 in
      let low : 1 ≤ n₁.0 = leb-true _ _ f₁.0 in
      let high : n₁.0 ≤ 65535 = leb-true _ _ f₁.1 in
      let g₁ = and_both (holds (us_in ns Tags.Rows (root ns)) (λ r. leb 1 r)) _ e11 in
      let r₁ = holds-is (us_in ns Tags.Rows (root ns)) _ g₁.0 in
      let c₁ = holds-is (us_in ns Tags.Columns (root ns)) _ g₁.1 in
      let r-is : r₁.0 ≡ r₀.0 = same-is r₁.1.0 r₀.1.0 in
      let c-is : c₁.0 ≡ c₀.0 = same-is c₁.1.0 c₀.1.0 in
      let a₁ = holds-is (us_in ns Tags.BitsAllocated (root ns)) _ e12 in
      let b₁ = holds-is (us_in ns Tags.BitsStored (root ns)) _ a₁.1.1 in
      let a-is : a₁.0 ≡ a₀.0 = same-is a₁.1.0 a₀.1.0 in
      record {
        n = n₀.0;
        r = r₀.0;
        c = c₀.0;
        a = a₀.0;
        b = b₁.0;
        p = p₀.0;
        count = n₀.1.0;
        some-frame = subst (λ (x : ℕ). 1 ≤ x) n-is low;
        few-frames = subst (λ (x : ℕ). x ≤ 65535) n-is high;
        rows = r₀.1.0;
        some-row = subst (λ (x : ℕ). 1 ≤ x) r-is (leb-true _ _ r₁.1.1);
        columns = c₀.1.0;
        some-column = subst (λ (x : ℕ). 1 ≤ x) c-is (leb-true _ _ c₁.1.1);
        allocated = a₀.1.0;
        stored = b₁.1.0;
        cells = bits a₀.0 b₁.0 (subst (λ (x : ℕ). bits_fit x b₁.0 ≡ true) a-is b₁.1.1);
        pixels = p₀.1.0;
        vr = pixel-vr (node_at ns p₀.0).vr a₀.0 x₀.0;
        size = eqb-true _ _ x₀.1;
      }

  module _ (k : Facts ns) where
    abbrev shape : Geometry
    shape = record { rows = k.r; columns = k.c; width = k.a / 8; stored = k.b }

    shape_is : geometry_of ns ≡ Some shape
    unfolding geometry_of
    shape_is = rw (k.rows, k.columns, k.allocated, k.stored, k.cells.bytes)

    pixels-found : pixels_of ns ≡ Some (value_at ns k.p)
    unfolding pixels_of
    pixels-found = rw (k.pixels, k.vr)

    inside-pixels : (f : ℕ) → 1 ≤ f → f ≤ k.n → is_frame shape (value_at ns k.p) f ≡ true
    unfolding is_frame
    inside-pixels f l h =
        rw (
          le-leb 1 f l,
          le-leb (f * (k.r * k.c) * (k.a / 8)) (length (value_at ns k.p))
              (frames-inside f k.n k.r k.c (k.a / 8) _ h k.size),
        )

fewer : {n : ℕ} → n < 65536 → n ≤ 65535
fewer h = omega arith

-- The first half of what the steps need.
pub object : (ns : List Node) → SmallRoot ns → finding_of ns ≡ Accepted → Object ns
object ns small ok =
    let k = facts ns (r11 ns ok) (r12 ns ok) (r15 ns ok) (r38 ns ok) in
    let t = photometric-of ns (r10 ns ok) in
    record {
      n = k.n;
      frames = k.count;
      some-frame = k.some-frame;
      few-frames = k.few-frames;
      g = shape ns k;
      geometry = shape_is ns k;
      width = k.cells.cell;
      stored_low = k.cells.low;
      stored-high = k.cells.high;
      stored-fits = k.cells.fits;
      rows-low = k.some-row;
      rows-high = fewer (small Tags.Rows k.r k.rows);
      columns-low = k.some-column;
      columns-high = fewer (small Tags.Columns k.c k.columns);
      v = value_at ns k.p;
      pixels = pixels-found ns k;
      inside = inside-pixels ns k;
      inverse = t.0;
      photometric = t.1;
    }

-- ---- Rule 30: the window

-- A test of every value holds of the first.
pub all_first : (p : List ℕ → Bool) (v : List ℕ) → all p (values_of v) ≡ true → p (value_of v 0) ≡ true
unfolding all
all_first p v e = go (values_of v) (values-some v) e
  where
    go : (vs : List (List ℕ)) → 0 < length vs → all p vs ≡ true → p (get_or vs 0 []) ≡ true
    go [] h q = absurd (omega arith)
    go (x ∷ vs) h q = (and_both (p x) (all p vs) q).0

pub width-number : (least : ℕ) (s : Option Signed) → is_width least s ≡ true → is_number s ≡ true
width-number least (Some (signed.Plus n)) e = refl
width-number least (Some (signed.Minus n)) e = absurd (false-is-true e)
width-number least None e = absurd (false-is-true e)

-- A window in a VOI item: the first centre and the first width.
abbrev first_of : List Node → ℕ → Option Signed
first_of ns i = decimal_of (value_of (value_at ns i) 0)

module _ (ns : List Node) (is : List ℕ) where
  window-is : (c w : ℕ) → find_vr ns Tags.WindowCenter DS is ≡ Some c → find_vr ns Tags.WindowWidth DS is ≡ Some w
      → is_number (first_of ns c) ≡ true
      → is_number (first_of ns w) ≡ true → is_function (function_in ns is) ≡ true
      → window_in ns is ≡ Some (record { center = first_of ns c; width = first_of ns w; function = function_in ns is })
  unfolding window_in
  window-is c w p q x y z = rw (p, q, x, y, z)

  window-in : has_window ns is ≡ true → (w : Window) × ((window_in ns is ≡ Some w) × Drawable w)
  unfolding has_window is_window all_decimals all_widths
  window-in e =
      let c = holds-is (find_vr ns Tags.WindowCenter DS is) _ e in
      let w = holds-is (find_vr ns Tags.WindowWidth DS is) _ c.1.1 in
      let f = and_both (is_function (function_in ns is)) _ w.1.1 in
      let t = and_both (eqb (length (values_of (value_at ns c.0))) (length (values_of (value_at ns w.0)))) _ f.1 in
      let u = and_both (all_decimals (value_at ns c.0)) (all_widths (least_width (function_in ns is)) (value_at ns w.0)) t.1 in
      let number : is_number (first_of ns c.0) ≡ true = all_first (λ d. is_number (decimal_of d)) (value_at ns c.0) u.0 in
      let wide : is_width (least_width (function_in ns is)) (first_of ns w.0)
      ≡ true = all_first (λ d. is_width (least_width (function_in ns is)) (decimal_of d)) (value_at ns w.0) u.1 in (
        record { center = first_of ns c.0; width = first_of ns w.0; function = function_in ns is },
        (
          window-is c.0 w.0 c.1.0 w.1.0 number (width-number (least_width (function_in ns is)) (first_of ns w.0) wide) f.0,
          record {
            ruled = record { number = number; function = f.0; wide = wide };
            near = decimal_of-below (value_of (value_at ns c.0) 0);
            narrow = decimal_of-below (value_of (value_at ns w.0) 0);
          },
        ),
      )

-- The full window.
pub full-drawable : (stored : ℕ) → stored ≤ 16 → Drawable (full_window stored)
unfolding full_window
full-drawable stored h =
    let b : 2 ^ stored ≤ 65536 = power_small stored 16 h in
    let c : 1 ≤ 2 ^ stored = one-le-pow stored 2 (omega arith) in
    record {
      ruled = record { number = refl; function = refl; wide = le-leb unit (unit * 2 ^ stored) (omega arith) };
      near = omega arith;
      narrow = omega arith;
    }

item-window : (ns : List Node) (stored g j : ℕ) (w : Window) → the_item ns g ≡ Some j → window_in ns (inside ns j) ≡ Some w
    → window_on ns stored (Some g) ≡ Some w
item-window ns stored g j w e h = rw e h

window_on_lem : (ns : List Node) (stored : ℕ) → stored ≤ 16 → (o : Option ℕ) → if_present o (is_voi ns) ≡ true
    → (w : Window) × ((window_on ns stored o ≡ Some w) × Drawable w)
unfolding is_voi
window_on_lem ns stored h None e = (full_window stored, (refl, full-drawable stored h))
window_on_lem ns stored h (Some g) e =
    let j = holds-is (the_item ns g) (λ i. has_window ns (inside ns i)) e in
    let w = window-in ns (inside ns j.0) j.1.1 in
    (w.0, (item-window ns stored g j.0 w.0 j.1.0 w.1.0, w.1.1))

group-window : (ns : List Node) (f stored : ℕ) (o : Option ℕ) (w : Window) → group_for ns f Tags.FrameVOILUTSequence ≡ Some o
    → window_on ns stored o ≡ Some w → window_for ns f stored ≡ Some w
unfolding window_for
group-window ns f stored o w e h = rw e h

-- The window of each frame.
pub windowed : (ns : List Node) → finding_of ns ≡ Accepted → (o : Object ns) (f : ℕ) → 1 ≤ f → f ≤ o.n → GivesWindow ns f o.g.stored
unfolding rule30 item30
windowed ns ok o f l h =
    let a = at-items ns f (item30 ns) (r30 ns ok o.n f o.frames l h) in
    let g = group_of ns Tags.FrameVOILUTSequence a.s a.i in
    let w = window_on_lem ns o.g.stored o.stored-high g a.holds in
    record {
      w = w.0;
      window = group-window ns f o.g.stored g w.0 (group-is ns f Tags.FrameVOILUTSequence a.s a.i a.shared a.item)
          w.1.0;
      drawable = w.1.1;
    }
