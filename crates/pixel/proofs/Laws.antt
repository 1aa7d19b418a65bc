-- Bounds of samples, sums and averages, where a sample takes its mask from, and a painted picture.
use mathlib.Core.Path.{◌≡◌, refl, sym, ◌∙◌, ap, subst}
use mathlib.Core.Bool.{true}
use mathlib.Core.List.{List, [], ◌∷◌, ◌++◌}
use mathlib.Core.Logic.{◌⊎◌, inl, inr, ⊎_elim}
use Prim.Native.Nat.{ℕ, zero, suc, ◌+◌, ◌-◌, ◌*◌, ◌/◌, ◌%◌, ◌^◌, ◌≤◌, ◌<◌, min}
use native.Mathlib.Numerals.{add-one}
use native.Mathlib.Nat.{eq-or-lt_of_le, le_of_suc-le-suc, mul-le-mul_right, le-mul_of_pos_right, mod-lt, mod-eq_of_lt, mul-add-div_right}
use native.Mathlib.Nat.{mul-add-mod_self_right, div-eq_of_lt, pow-le-pow_right, mul-le-mul, min-le_right, div-lt_iff_lt-mul, zero-add}
use native.Mathlib.Omega.{arith}
use borrow.Author.Tests.{leb-true}
use lib.Bits.{bit_and, and_mask}
use lib.Dec.{leb}
use lib.Pow.{pow_pos, pow-lt, le_ones}
use lib.ListN.{length, get_or, set, take, drop, length-set, length-drop, get_or-append}
use lib.Seq.{get_or-set_same, get_or-set_other, drop-cons, drop-length, get_or-append-add, length-take-le}
use Rattle.basics.proofs.Tests.{and_both}
use Rattle.basics.specs.Bytes.{le16, le_number}
use Rattle.value.specs.Number.{us_values}
use Rattle.shift.specs.Shift.{largest_shift}
use Rattle.pixel.specs.declared.Geometry.{Geometry}
use Rattle.pixel.specs.Pixel.{samples_of, is_frame, sample_at, sum_at, average_of, mask_at, cell_at}
use Rattle.pixel.specs.Internal.{painted, Masks, plain_place, mask_place, RowLies, painted_from, Summed, Spread, shifted}
use Rattle.pixel.specs.Internal.{row_shade}
use Rattle.pixel.specs.Internal.{edges, farthest, offset_shade}
use Rattle.pixel.proofs.Division.{average-most}

below_or_not : (a b : ℕ) → (a < b) ⊎ (b ≤ a)
below_or_not a zero = inr (omega arith)
below_or_not zero (suc b) = inl (omega arith)
below_or_not (suc a) (suc b) = ⊎_elim (λ l. inl (omega arith)) (λ l. inr (omega arith)) (below_or_not a b)

-- ---- Powers of two

pub power-most : (n : ℕ) → n ≤ 16 → 2 ^ n ≤ 65536
power-most n h = pow-le-pow_right {n = 2} (omega arith) {i = n} {j = 16} h

pub power-fits : (n : ℕ) → n ≤ 16 → 1 * 2 ^ n % 18446744073709551616 ≡ 2 ^ n
power-fits n h =
    let a : 2 ^ n ≤ 65536 = power-most n h in
    let e : 1 * 2 ^ n ≡ 2 ^ n = omega arith in
    rw e (mod-eq_of_lt (omega arith))

pub half-low : (n : ℕ) → 1 ≤ n → 2 ^ (n - 1) ≤ 2 ^ n - 1
half-low n h = le_ones n (pow-lt {i = n - 1} {j = n} (omega arith))

-- ---- Samples

-- The bytes of sample j.
pub one_byte : (b j l : ℕ) → b ≡ 1 → j * b + b ≤ l → j < l
one_byte b j l e h =
    let h' : j * 1 + 1 ≤ l = rw e at h in
    omega arith

pub two_bytes : (b j l : ℕ) → (b ≡ 1) ⊎ (b ≡ 2) → (b ≡ 1 → ⊥) → j * b + b ≤ l → 2 * j + 2 ≤ l
two_bytes b j l (inl e) n h = absurd (n e)
two_bytes b j l (inr e) n h =
    let h' : j * 2 + 2 ≤ l = rw e at h in
    omega arith

pub width_two : (b : ℕ) → (b ≡ 1) ⊎ (b ≡ 2) → (b ≡ 1 → ⊥) → b ≡ 2
width_two b (inl e) n = absurd (n e)
width_two b (inr e) n = e

pub width_some : (b : ℕ) → (b ≡ 1) ⊎ (b ≡ 2) → 1 ≤ b
width_some b (inl e) = omega arith
width_some b (inr e) = omega arith

kept-bits : (x low s : ℕ) → low ≡ 2 ^ s - 1 → bit_and x low ≡ x % 2 ^ s
kept-bits x low s e = ap (bit_and x) e ∙ and_mask x s

module _ (g : Geometry) (v : List ℕ) where
  pub cell-narrow : (low j : ℕ) → g.width ≡ 1 → low ≡ 2 ^ g.stored - 1 → bit_and (get_or v j 0) low ≡ cell_at g v j
  unfolding cell_at le_number
  cell-narrow low j e k =
      let a : j * 1 ≡ j = omega arith in
      let b : get_or v j 0 + 256 * 0 ≡ get_or v j 0 = omega arith in
      rw (e, a, b) (kept-bits (get_or v j 0) low g.stored k)

  pub cell-wide : (low j : ℕ) → g.width ≡ 2 → low ≡ 2 ^ g.stored - 1 → bit_and (le16 v (2 * j)) low ≡ cell_at g v j
  unfolding cell_at le_number le16
  cell-wide low j e k =
      let a : j * 2 ≡ 2 * j = omega arith in
      let b : get_or v (2 * j + 1) 0 + 256 * 0 ≡ get_or v (2 * j + 1) 0 = omega arith in
      rw (e, a, b) (kept-bits (get_or v (2 * j) 0 + 256 * get_or v (2 * j + 1) 0) low g.stored k)

  -- A sample is below 2^stored, that is at most 2^stored - 1.
  pub cell-most : (j : ℕ) → cell_at g v j ≤ 2 ^ g.stored - 1
  unfolding cell_at
  cell-most j = le_ones g.stored (mod-lt (le_number g.width v (j * g.width)) (pow_pos g.stored))

  pub sample-cell : (k i : ℕ) → sample_at g v k i ≡ cell_at g v ((k - 1) * samples_of g + i)
  unfolding sample_at cell_at
  sample-cell k i = refl

  pub sample-most : (k i : ℕ) → sample_at g v k i ≤ 2 ^ g.stored - 1
  sample-most k i = rw (sample-cell k i) (cell-most ((k - 1) * samples_of g + i))

  -- ---- Frames

  pub frame-facts : (k : ℕ) → is_frame g v k ≡ true → (1 ≤ k) × (k * samples_of g * g.width ≤ length v)
  unfolding is_frame
  frame-facts k h =
      let p : (leb 1 k ≡ true)
      × (leb (k * samples_of g * g.width) (length v) ≡ true) = and_both (leb 1 k) (leb (k * samples_of g * g.width) (length v)) h in
      (leb-true _ _ p.0, leb-true _ _ p.1)

-- Samples from `from` on, n of them, within l bytes.
pub run_at : (from n w l c : ℕ) → 1 ≤ w → (from + n) * w ≤ l → c < n → ((from + c) * w + w ≤ l) × (from + c < l)
run_at from n w l c some h t =
    let a : (from + c + 1) * w ≤ (from + n) * w = mul-le-mul_right w (omega arith) in
    let b : (from + c + 1) * w ≡ (from + c) * w + w = omega arith in
    let d : from + n ≤ (from + n) * w = le-mul_of_pos_right (from + n) some in
    (omega arith, omega arith)

-- The bytes of sample c of a row.
pub row_at : (v : List ℕ) (g : Geometry) → RowLies v g 0 → (c : ℕ) → c < g.columns → c * g.width + g.width ≤ length v
row_at v g r c h =
    let z : 0 + c ≡ c = omega arith in
    subst (λ (j : ℕ). j * g.width + g.width ≤ length v) z
    (run_at 0 g.columns g.width (length v) c (width_some g.width r.shape.width) r.inside h).0

-- The samples of a frame.
pub frame-run : (k n w l : ℕ) → 1 ≤ k → k * n * w ≤ l → ((k - 1) * n + n) * w ≤ l
frame-run zero n w l o h = absurd (omega arith)
frame-run (suc m) n w l o h =
    let e : suc m - 1 ≡ m = omega arith in
    let d : suc m * n ≡ m * n + n = omega arith in
    rw e (rw d at h)

-- The samples of a row of a frame.
pub row-run : (k rows columns w l r : ℕ) → 1 ≤ k → k * (rows * columns) * w ≤ l → r < rows
    → ((k - 1) * (rows * columns) + r * columns + columns) * w ≤ l
row-run k rows columns w l r o h t =
    let a : (r + 1) * columns ≤ rows * columns = mul-le-mul_right columns (omega arith) in
    let b : (r + 1) * columns ≡ r * columns + columns = omega arith in
    let d : ((k - 1) * (rows * columns) + r * columns + columns) * w
    ≤ ((k - 1) * (rows * columns) + rows * columns) * w = mul-le-mul_right w (omega arith) in
    let e : ((k - 1) * (rows * columns) + rows * columns) * w ≤ l = frame-run k (rows * columns) w l o h in
    omega arith

-- Both, of frame k.
pub native-run : (g : Geometry) (v : List ℕ) (k : ℕ) → (g.width ≡ 1) ⊎ (g.width ≡ 2) → is_frame g v k ≡ true
    → ((i : ℕ) → i < samples_of g → (((k - 1) * samples_of g + i) * g.width + g.width ≤ length v) × ((k - 1) * samples_of g + i < length v))
    × ((k - 1) * samples_of g ≤ length v)
native-run g v k b h =
    let f : (1 ≤ k) × (k * samples_of g * g.width ≤ length v) = frame-facts g v k h in
    let r : ((k - 1) * samples_of g + samples_of g) * g.width ≤ length v = frame-run k (samples_of g) g.width (length v) f.0 f.1 in
    let d : (k - 1) * samples_of g + samples_of g ≤ ((k - 1) * samples_of g + samples_of g)
    * g.width = le-mul_of_pos_right ((k - 1) * samples_of g + samples_of g) (width_some g.width b) in
    (λ i l. run_at ((k - 1) * samples_of g) (samples_of g) g.width (length v) i (width_some g.width b) r l, omega arith)

-- The samples of row r of frame k.
pub frame_row : (g : Geometry) (v : List ℕ) (k r : ℕ) → (g.width ≡ 1) ⊎ (g.width ≡ 2) → is_frame g v k ≡ true → r < g.rows
    → (((k - 1) * samples_of g + r * g.columns + g.columns) * g.width ≤ length v) × ((k - 1) * samples_of g + r * g.columns ≤ length v)
frame_row g v k r b h l =
    let f : (1 ≤ k) × (k * samples_of g * g.width ≤ length v) = frame-facts g v k h in
    let a : ((k - 1) * samples_of g + r * g.columns + g.columns) * g.width
    ≤ length v = row-run k g.rows g.columns g.width (length v) r f.0 f.1 l in
    let d : (k - 1) * samples_of g + r * g.columns + g.columns ≤ ((k - 1) * samples_of g + r * g.columns + g.columns)
    * g.width = le-mul_of_pos_right ((k - 1) * samples_of g + r * g.columns + g.columns) (width_some g.width b) in
    (a, omega arith)

-- A row's samples lie in the frame.
pub row-end : (g : Geometry) (r : ℕ) → r < g.rows → r * g.columns + g.columns ≤ samples_of g
row-end g r h =
    let a : (r + 1) * g.columns ≤ g.rows * g.columns = mul-le-mul_right g.columns (omega arith) in
    let b : (r + 1) * g.columns ≡ r * g.columns + g.columns = omega arith in
    omega arith

-- The place of a native sample in the table.
pub plain-place : (g : Geometry) (v : List ℕ) (j s p q : ℕ) → s ≡ cell_at g v j → p ≡ 2 ^ g.stored → q ≡ 2 ^ (g.stored - 1)
    → s + (p - 1 - q) ≡ plain_place g v j
unfolding plain_place
plain-place g v j s p q a b d = rw (a, b, d)

-- The place of a sample from whose value a mask value is taken.
pub mask-place : (g : Geometry) (v masks : List ℕ) (o j s p m : ℕ) → s ≡ cell_at g v j → p ≡ 2 ^ g.stored → m ≡ get_or masks (o + j) 0
    → s + (p - 1) - m ≡ mask_place g v masks o j
unfolding mask_place
mask-place g v masks o j s p m a b d = rw (a, b, d)

-- ---- Sums and averages of mask frames

module _ (g : Geometry) (v : List ℕ) where
  pub sum-most : (ks : List ℕ) (i : ℕ) → sum_at g v ks i ≤ length ks * (2 ^ g.stored - 1)
  unfolding sum_at
  sum-most [] i = omega arith
  sum-most (k ∷ ks) i =
      let a : sample_at g v k i ≤ 2 ^ g.stored - 1 = sample-most g v k i in
      let b : sum_at g v ks i ≤ length ks * (2 ^ g.stored - 1) = sum-most ks i in
      let e : suc (length ks) * (2 ^ g.stored - 1) ≡ length ks * (2 ^ g.stored - 1) + (2 ^ g.stored - 1) = omega arith in
      omega arith

  -- An average of samples is below 2^stored.
  pub mask-most : (ks : List ℕ) (i : ℕ) → 1 ≤ length ks → length ks ≤ 64 → mask_at g v ks i ≤ 2 ^ g.stored - 1
  unfolding mask_at
  mask-most ks i some few = average-most (sum_at g v ks i) (length ks) some few (2 ^ g.stored - 1) (sum-most ks i)

  pub sum_drop : (ks : List ℕ) (k i : ℕ) → k < length ks
      → sum_at g v (drop k ks) i ≡ sample_at g v (get_or ks k 0) i + sum_at g v (drop (k + 1) ks) i
  unfolding sum_at
  sum_drop ks k i h = rw (add-one k, drop-cons ks k 0)

pub sum_fits : (n s : ℕ) → n ≤ 64 → s ≤ 16 → n * (2 ^ s - 1) ≤ 4194240
sum_fits n s a b =
    let p : 2 ^ s ≤ 65536 = power-most s b in
    mul-le-mul {n₁ = n} {m₁ = 2 ^ s - 1} {n₂ = 64} {m₂ = 65535} a (omega arith)

-- ---- Where a sample takes its mask from

pub place-row : (r columns c : ℕ) → c < columns → (r * columns + c) / columns ≡ r
place-row r columns c h =
    let a : c / columns ≡ 0 = div-eq_of_lt h in
    let e : (r * columns + c) / columns ≡ r + c / columns = mul-add-div_right {m = columns} (omega arith) r c in
    omega arith

pub place-column : (r columns c : ℕ) → c < columns → (r * columns + c) % columns ≡ c
place-column r columns c h = mul-add-mod_self_right r columns c ∙ mod-eq_of_lt h

module _ (g : Geometry) (i : ℕ) (inside : i < samples_of g) where
  columns-some : 0 < g.columns
  columns-some = go g.columns inside
    where
      go : (n : ℕ) → i < g.rows * n → 0 < n
      go zero h = absurd (omega arith)
      go (suc n) h = omega arith

  pub row_below : i / g.columns < g.rows
  row_below = (div-lt_iff_lt-mul columns-some).1 inside

  pub column-below : i % g.columns < g.columns
  column-below = mod-lt i columns-some

  -- A cell of the picture.
  pub cell_below : (r c : ℕ) → r < g.rows → c < g.columns → r * g.columns + c < samples_of g
  cell_below r c hr hc =
      let a : (r + 1) * g.columns ≤ g.rows * g.columns = mul-le-mul_right g.columns (omega arith) in
      let b : (r + 1) * g.columns ≡ r * g.columns + g.columns = omega arith in
      omega arith

-- A row's shades are those of its samples.
pub row-offset : (table v line : List ℕ) (g : Geometry) (f : ℕ) (ks sums : List ℕ) (down right r n : ℕ) → right ≤ farthest → n ≡ length ks
    → Spread v g ks (shifted down g.rows r) sums → (c : ℕ) → c < g.columns → cell_at g line c ≡ sample_at g v f (r * g.columns + c)
    → row_shade table g line sums n right c ≡ offset_shade table g v f ks down right (r * g.columns + c)
unfolding row_shade offset_shade mask_at
row-offset table v line g f ks sums down right r n hr e s c hc cell =
    rw (cell, place-row r g.columns c hc, place-column r g.columns c hc, s.at (c + right) (omega arith), e)

-- The shade of a sample of a row, by its place in the table.
pub row-shade : (g : Geometry) (v table sums : List ℕ) (n right c s p a : ℕ) → s ≡ cell_at g v c → p ≡ 2 ^ g.stored
    → a ≡ average_of (get_or sums (c + right) 0) n → get_or table (s + (p - 1) - a) 0 ≡ row_shade table g v sums n right c
unfolding row_shade
row-shade g v table sums n right c s p a h k o = rw (h, k, o)

-- ---- Painting

-- A loop that is left has run to the end.
pub full : {i n : ℕ} → i ≤ n → n ≤ i → i ≡ n
full a b = omega arith

pub painted-more : (f : ℕ → ℕ) (i : ℕ) (s : List ℕ) → set (painted f i s) i (f i) ≡ painted f (i + 1) s
unfolding painted
painted-more f i s = rw (add-one i)

pub painted-length : (f : ℕ → ℕ) (n : ℕ) (s : List ℕ) → length (painted f n s) ≡ length s
unfolding painted
painted-length f zero s = refl
painted-length f (suc n) s = simp length-set (painted-length f n s)

-- What `painted` says, place by place: the first n places hold f's values, the others what they held.
pub painted-at : (f : ℕ → ℕ) (n : ℕ) (s : List ℕ) (k : ℕ) → n ≤ length s → k < n → get_or (painted f n s) k 0 ≡ f k
unfolding painted
painted-at f zero s k h l = absurd (omega arith)
painted-at f (suc n) s k h l = ⊎_elim at_n (before (painted-at f n s k (omega arith))) (eq-or-lt_of_le (le_of_suc-le-suc l))
  where
    ne : k < n → k ≡ n → ⊥
    ne l e = omega arith

    at_n : k ≡ n → get_or (set (painted f n s) n (f n)) k 0 ≡ f k
    at_n e = rw e (get_or-set_same (painted f n s) n (f n) 0 (rw (painted-length f n s) h))

    before : (k < n → get_or (painted f n s) k 0 ≡ f k) → k < n → get_or (set (painted f n s) n (f n)) k 0 ≡ f k
    before r l = get_or-set_other (painted f n s) n k (f n) 0 (ne l) ∙ r l

pub painted-beyond : (f : ℕ → ℕ) (n : ℕ) (s : List ℕ) (k : ℕ) → n ≤ k → get_or (painted f n s) k 0 ≡ get_or s k 0
unfolding painted
painted-beyond f zero s k h = refl
painted-beyond f (suc n) s k h = get_or-set_other (painted f n s) n k (f n) 0 ne ∙ painted-beyond f n s k (omega arith)
  where
    ne : k ≡ n → ⊥
    ne e = omega arith

pub painted_same : (f h : ℕ → ℕ) (n : ℕ) (s : List ℕ) → ((i : ℕ) → i < n → f i ≡ h i) → painted f n s ≡ painted h n s
unfolding painted
painted_same f h zero s e = refl
painted_same f h (suc n) s e = rw (e n (omega arith), painted_same f h n s (λ i l. e i (omega arith)))

-- What is added to each place.
pub added_more : (a : ℕ → ℕ) (i : ℕ) (s : List ℕ)
    → set (painted (λ c. get_or s c 0 + a c) i s) i (get_or (painted (λ c. get_or s c 0 + a c) i s) i 0 + a i)
    ≡ painted (λ c. get_or s c 0 + a c) (i + 1) s
added_more a i s =
    ap (λ (y : ℕ). set (painted (λ c. get_or s c 0 + a c) i s) i (y + a i)) (painted-beyond (λ c. get_or s c 0 + a c) i s i (omega arith))
    ∙ painted-more (λ c. get_or s c 0 + a c) i s

-- Each place changed by h.
pub changed-more : (h : ℕ → ℕ) (i : ℕ) (s : List ℕ)
    → set (painted (λ c. h (get_or s c 0)) i s) i (h (get_or (painted (λ c. h (get_or s c 0)) i s) i 0)) ≡ painted (λ c. h (get_or s c 0)) (i + 1) s
changed-more h i s =
    ap (λ (y : ℕ). set (painted (λ c. h (get_or s c 0)) i s) i (h y)) (painted-beyond (λ c. h (get_or s c 0)) i s i (omega arith))
    ∙ painted-more (λ c. h (get_or s c 0)) i s

-- The same from a place on.
pub from_more : (f : ℕ → ℕ) (at i : ℕ) (s : List ℕ) → set (painted_from f at i s) (at + i) (f i) ≡ painted_from f at (i + 1) s
unfolding painted_from
from_more f at i s = rw (add-one i)

pub from-length : (f : ℕ → ℕ) (at n : ℕ) (s : List ℕ) → length (painted_from f at n s) ≡ length s
unfolding painted_from
from-length f at zero s = refl
from-length f at (suc n) s = simp length-set (from-length f at n s)

pub painted-none : (f : ℕ → ℕ) (n : ℕ) (s : List ℕ) → painted f (0 * n) s ≡ s
unfolding painted
painted-none f n s =
    let z : 0 * n ≡ 0 = omega arith in
    rw z

-- What it says, place by place.
pub from-before : (f : ℕ → ℕ) (at n : ℕ) (s : List ℕ) (j : ℕ) → j < at → get_or (painted_from f at n s) j 0 ≡ get_or s j 0
unfolding painted_from
from-before f at zero s j h = refl
from-before f at (suc n) s j h = get_or-set_other (painted_from f at n s) (at + n) j (f n) 0 ne ∙ from-before f at n s j h
  where
    ne : j ≡ at + n → ⊥
    ne e = omega arith

pub from-after : (f : ℕ → ℕ) (at n : ℕ) (s : List ℕ) (j : ℕ) → at + n ≤ j → get_or (painted_from f at n s) j 0 ≡ get_or s j 0
unfolding painted_from
from-after f at zero s j h = refl
from-after f at (suc n) s j h = get_or-set_other (painted_from f at n s) (at + n) j (f n) 0 ne ∙ from-after f at n s j (omega arith)
  where
    ne : j ≡ at + n → ⊥
    ne e = omega arith

pub from_at : (f : ℕ → ℕ) (at n : ℕ) (s : List ℕ) (k : ℕ) → at + n ≤ length s → k < n → get_or (painted_from f at n s) (at + k) 0 ≡ f k
unfolding painted_from
from_at f at zero s k h l = absurd (omega arith)
from_at f at (suc n) s k h l = ⊎_elim at_n (before (from_at f at n s k (omega arith))) (eq-or-lt_of_le (le_of_suc-le-suc l))
  where
    ne : k < n → at + k ≡ at + n → ⊥
    ne l e = omega arith

    fits : at + n < length (painted_from f at n s)
    fits = rw (from-length f at n s) (omega arith)

    at_n : k ≡ n → get_or (set (painted_from f at n s) (at + n) (f n)) (at + k) 0 ≡ f k
    at_n e = rw e (get_or-set_same (painted_from f at n s) (at + n) (f n) 0 fits)

    before : (k < n → get_or (painted_from f at n s) (at + k) 0 ≡ f k) → k < n
        → get_or (set (painted_from f at n s) (at + n) (f n)) (at + k) 0 ≡ f k
    before r l = get_or-set_other (painted_from f at n s) (at + n) (at + k) (f n) 0 (ne l) ∙ r l

-- ---- Products of small numbers fit

module _ (k r c w : ℕ) (hk : k ≤ 65535) (hr : r ≤ 65535) (hc : c ≤ 65535) (hw : w ≤ 8191) where
  pub cells_fit : r * c ≤ 4294836225
  cells_fit = mul-le-mul {n₁ = r} {m₁ = c} {n₂ = 65535} {m₂ = 65535} hr hc

  pub frames-fit : k * (r * c) ≤ 281462092005375
  frames-fit = mul-le-mul {n₁ = k} {m₁ = r * c} {n₂ = 65535} {m₂ = 4294836225} hk cells_fit

  pub bytes_fit : k * (r * c) * w ≤ 2305455995616026625
  bytes_fit = mul-le-mul {n₁ = k * (r * c)} {m₁ = w} {n₂ = 281462092005375} {m₂ = 8191} frames-fit hw

-- ---- The sums of a row

-- A row behind the left edge, its first value put before it, and its last behind it.
module _ (columns : ℕ) (s : List ℕ) (some : 1 ≤ columns) (fits : columns + edges ≤ length s) where
  abbrev left : List ℕ
  left = painted_from (λ _. get_or s largest_shift 0) 0 largest_shift s

  abbrev whole : List ℕ
  whole = painted_from (λ _. get_or s (largest_shift + columns - 1) 0) (largest_shift + columns) (largest_shift + 1) left

  at_left : (j : ℕ) → j < largest_shift → get_or whole j 0 ≡ get_or s (largest_shift + min (j - largest_shift) (columns - 1)) 0
  at_left j l =
      let a : largest_shift + min (j - largest_shift) (columns - 1) ≡ largest_shift = omega arith in
      let b : get_or left (0 + j) 0 ≡ get_or s largest_shift 0 = from_at (λ _. get_or s largest_shift 0) 0 largest_shift s j (omega arith) l in
      from-before (λ _. get_or s (largest_shift + columns - 1) 0) (largest_shift + columns) (largest_shift + 1) left j (omega arith)
      ∙ ap (λ (i : ℕ). get_or left i 0) (sym (zero-add j)) ∙ b ∙ ap (λ (i : ℕ). get_or s i 0) (sym a)

  at-middle : (j : ℕ) → largest_shift ≤ j → j < largest_shift + columns
      → get_or whole j 0 ≡ get_or s (largest_shift + min (j - largest_shift) (columns - 1)) 0
  at-middle j h l =
      let a : largest_shift + min (j - largest_shift) (columns - 1) ≡ j = omega arith in
      from-before (λ _. get_or s (largest_shift + columns - 1) 0) (largest_shift + columns) (largest_shift + 1) left j l
      ∙ from-after (λ _. get_or s largest_shift 0) 0 largest_shift s j (omega arith)
      ∙ ap (λ (i : ℕ). get_or s i 0) (sym a)

  at_right : (j : ℕ) → largest_shift + columns ≤ j → j < columns + edges
      → get_or whole j 0 ≡ get_or s (largest_shift + min (j - largest_shift) (columns - 1)) 0
  at_right j h l =
      let a : largest_shift + min (j - largest_shift) (columns - 1) ≡ largest_shift + columns - 1 = omega arith in
      let e : largest_shift + columns + (j - (largest_shift + columns)) ≡ j = omega arith in
      let f : length left ≡ length s = from-length (λ _. get_or s largest_shift 0) 0 largest_shift s in
      ap (λ (i : ℕ). get_or whole i 0) (sym e)
      ∙ from_at (λ _. get_or s (largest_shift + columns - 1) 0) (largest_shift + columns) (largest_shift + 1) left (j - (largest_shift + columns))
      (omega arith) (omega arith)
      ∙ ap (λ (i : ℕ). get_or s i 0) (sym a)

  pub spread_at : (j : ℕ) → j < columns + edges → get_or whole j 0 ≡ get_or s (largest_shift + min (j - largest_shift) (columns - 1)) 0
  spread_at j l = ⊎_elim (at_left j) (λ h. ⊎_elim (at-middle j h) (λ m. at_right j m l) (below_or_not j (largest_shift + columns)))
      (below_or_not j largest_shift)

-- The sums of a row, put so into a list behind the left edge.
pub spread_row : (v : List ℕ) (g : Geometry) (ks : List ℕ) (row : ℕ) (sums s rest after : List ℕ) → 1 ≤ g.columns
    → g.columns ≤ length sums → largest_shift ≤ length s → Summed v g ks row sums
    → ((j : ℕ) → j < g.columns + edges
    → get_or after j 0 ≡ get_or (take largest_shift s ++ (sums ++ rest)) (largest_shift + min (j - largest_shift) (g.columns - 1)) 0)
    → Spread v g ks row after
spread_row v g ks row sums s rest after some fits room r
    a = record {
      at = λ j l.
          a j l ∙ part (min (j - largest_shift) (g.columns - 1)) (low j) ∙ r.at (min (j - largest_shift) (g.columns - 1)) (low j);
    }
  where
    low : (j : ℕ) → min (j - largest_shift) (g.columns - 1) < g.columns
    low j = omega (arith, min-le_right (j - largest_shift) (g.columns - 1))

    part : (c : ℕ) → c < g.columns → get_or (take largest_shift s ++ (sums ++ rest)) (largest_shift + c) 0 ≡ get_or sums c 0
    part c l =
        let e : length (take largest_shift s) ≡ largest_shift = length-take-le largest_shift s room in
        ap (λ (n : ℕ). get_or (take largest_shift s ++ (sums ++ rest)) (n + c) 0) (sym e)
        ∙ get_or-append-add (take largest_shift s) (sums ++ rest) c 0
        ∙ get_or-append sums rest 0 c (omega arith)

module _ (v : List ℕ) (g : Geometry) (ks : List ℕ) (row : ℕ) where
  -- Of no frame.
  pub summed-none : (n : ℕ) (s : List ℕ) → n ≡ length ks → g.columns ≤ length s
      → Summed v g (drop n ks) row (painted_from (λ _. 0) 0 g.columns s)
  unfolding sum_at
  summed-none n s e h = record {
    at = λ c l. ap (λ (j : ℕ). get_or (painted_from (λ _. 0) 0 g.columns s) j 0) (sym (zero-add c))
        ∙ from_at (λ _. 0) 0 g.columns s c (omega arith) l
        ∙ sym (ap (λ (t : List ℕ). sum_at g v t (row * g.columns + c)) (ap (λ (m : ℕ). drop m ks) e ∙ drop-length ks));
  }

  -- Of one frame more, in front.
  pub summed-more : (k x from : ℕ) (s : List ℕ) → 0 < k → k ≤ length ks → x ≡ get_or ks (k - 1) 0
      → from ≡ (x - 1) * samples_of g + row * g.columns → g.columns ≤ length s → Summed v g (drop k ks) row s
      → Summed v g (drop (k - 1) ks) row (painted (λ c. get_or s c 0 + cell_at g v (from + c)) g.columns s)
  summed-more k x from s some h ex ef fits before = record { at = λ c l. one c l }
    where
      same : k - 1 + 1 ≡ k
      same = omega arith

      one : (c : ℕ) → c < g.columns
          → get_or (painted (λ c. get_or s c 0 + cell_at g v (from + c)) g.columns s) c 0 ≡ sum_at g v (drop (k - 1) ks) (row * g.columns + c)
      one c l =
          let a : sum_at g v (drop (k - 1) ks) (row * g.columns + c) ≡ sample_at g v (get_or ks (k - 1) 0) (row * g.columns + c)
          + sum_at g v (drop (k - 1 + 1) ks) (row * g.columns + c) = sum_drop g v ks (k - 1) (row * g.columns + c) (omega arith) in
          let b : sum_at g v (drop (k - 1 + 1) ks) (row * g.columns + c)
          ≡ get_or s c 0 = ap (λ (m : ℕ). sum_at g v (drop m ks) (row * g.columns + c)) same ∙ sym (before.at c l) in
          let d : sample_at g v (get_or ks (k - 1) 0) (row * g.columns + c)
          ≡ cell_at g v ((x - 1) * samples_of g + (row * g.columns + c)) = rw (← ex) (sample-cell g v x (row * g.columns + c)) in
          let e : (x - 1) * samples_of g + (row * g.columns + c) ≡ from + c = rw ef (omega arith) in
          let f : cell_at g v ((x - 1) * samples_of g + (row * g.columns + c)) ≡ cell_at g v (from + c) = ap (cell_at g v) e in
          painted-at (λ c. get_or s c 0 + cell_at g v (from + c)) g.columns s c fits l ∙ omega arith

  pub summed-most : (k : ℕ) (s : List ℕ) → length ks ≤ 64 → g.stored ≤ 16 → Summed v g (drop k ks) row s → (c : ℕ) → c < g.columns
      → get_or s c 0 ≤ 4194240
  summed-most k s few high sums c l =
      let a : length (drop k ks) ≡ length ks - k = length-drop k ks in
      let b : sum_at g v (drop k ks) (row * g.columns + c)
      ≤ length (drop k ks) * (2 ^ g.stored - 1) = sum-most g v (drop k ks) (row * g.columns + c) in
      let d : length (drop k ks) * (2 ^ g.stored - 1) ≤ 4194240 = sum_fits (length (drop k ks)) g.stored (omega arith) high in
      let e : get_or s c 0 ≡ sum_at g v (drop k ks) (row * g.columns + c) = sums.at c l in
      omega arith

pub spread-most : (v : List ℕ) (g : Geometry) (ks : List ℕ) (row : ℕ) (s : List ℕ) (n : ℕ) → n ≡ length ks → Spread v g ks row s → (j : ℕ)
    → j < g.columns + edges → get_or s j 0 ≤ n * (2 ^ g.stored - 1)
spread-most v g ks row s n e sums j l = rw (sums.at j l, e) (sum-most g v ks (row * g.columns + min (j - largest_shift) (g.columns - 1)))

-- Number k of the mask frames.
pub mask-frame : (v : List ℕ) (g : Geometry) (ms : List ℕ) (k x : ℕ) → Masks v g ms → 0 < k → k ≤ length (us_values ms)
    → x ≡ get_or (us_values ms) (k - 1) 0 → is_frame g v x ≡ true
mask-frame v g ms k x m some h e = rw e (m.frames (k - 1) (omega arith))
