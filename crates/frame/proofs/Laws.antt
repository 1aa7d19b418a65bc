-- Frames lie one behind the other, and a part of a part is a part.
use mathlib.Core.Path.{◌≡◌, refl, sym, ◌∙◌, ap, subst}
use mathlib.Core.List.{List, [], ◌∷◌}
use Prim.Native.Nat.{ℕ, zero, suc, ◌+◌, ◌-◌, ◌*◌, ◌≤◌, ◌<◌}
use native.Mathlib.Nat.{le-mul_of_pos_right, mul-le-mul_right, mul_assoc}
use native.Mathlib.Omega.{arith}
use lib.ListN.{length, take, drop, length-take, length-drop}
use lib.Seq.{take-take, drop-drop}
use denote.Ref.{Bor}
use Rattle.frame.specs.declared.FrameView.{FrameView}
use Rattle.frame.specs.View.{Part, IsView, frame_size}
use Rattle.frame.specs.Internal.{Fits}

last_frame : (f s : ℕ) → 1 ≤ f → f * s ≡ (f - 1) * s + s
last_frame zero s h = absurd (omega arith)
last_frame (suc m) s h =
    let e : suc m - 1 ≡ m = omega arith in
    rw e (omega arith)

-- A frame's bytes end within the pixel bytes, and its size and number of samples are no larger than those.
pub frame-fits : (rows columns width f l : ℕ) → Fits rows columns width f l
    → ((f - 1) * frame_size rows columns width + frame_size rows columns width ≤ l)
    × ((frame_size rows columns width ≤ l) × (rows * columns ≤ l))
frame-fits rows columns width f l h =
    let e : f * frame_size rows columns width
    ≡ (f - 1) * frame_size rows columns width + frame_size rows columns width = last_frame f (frame_size rows columns width) h.first in
    let a : f * frame_size rows columns width ≤ l = h.inside in
    let b : rows * columns ≤ rows * columns * width = le-mul_of_pos_right (rows * columns) h.some in
    (omega arith, (omega arith, omega arith))

take_within : (a m n : ℕ) (xs : List ℕ) → a + m ≤ n → take m (drop a (take n xs)) ≡ take m (drop a xs)
take_within zero m n xs h = take-take m n xs (omega arith)
take_within (suc a) m zero xs h = absurd (omega arith)
take_within (suc a) m (suc n) [] h = refl
take_within (suc a) m (suc n) (x ∷ xs) h = take_within a m n xs (omega arith)

taken : (xs : List ℕ) (at n at' n' : ℕ) → at' + n' ≤ n → take n' (drop at' (take n (drop at xs))) ≡ take n' (drop (at + at') xs)
taken xs at n at' n' h = take_within at' n' n (drop at xs) h ∙ ap (take n') (drop-drop at' at xs)

part_length : (xs : List ℕ) (at n : ℕ) → at + n ≤ length xs → length (take n (drop at xs)) ≡ n
part_length xs at n h = simp (length-take, length-drop) (omega arith)

-- A part is as long as it says.
pub part-size : (s : Bor (List ℕ)) (at n : ℕ) (r : Bor (List ℕ)) → Part s at n r → length r.now ≡ n
part-size s at n r p = ap length p.bytes ∙ part_length s.now at n p.inside

-- A part of a part is a part.
pub part-part : (s : Bor (List ℕ)) (at n : ℕ) (r : Bor (List ℕ)) (at' n' : ℕ) (t : Bor (List ℕ)) → Part s at n r → Part r at' n' t
    → Part s (at + at') n' t
part-part s at n r at' n' t p q =
    let l : length r.now ≡ n = part-size s at n r p in
    let i : at' + n' ≤ length r.now = q.inside in
    let a : at + n ≤ length s.now = p.inside in
    record {
      inside = omega arith;
      block = q.block ∙ p.block;
      place = q.place ∙ ap (λ (x : ℕ). x + at') p.place ∙ omega arith;
      bytes = q.bytes ∙ (ap (λ (x : List ℕ). take n' (drop at' x)) p.bytes ∙ taken s.now at n at' n' (omega arith));
    }

-- A line of a view lies in it.
pub line-fits : (s : Bor (List ℕ)) (rows columns width f row : ℕ) (v : FrameView) → IsView s rows columns width f v → row < rows
    → row * (v.columns * width) + v.columns * width ≤ length v.samples.now
line-fits s rows columns width f row v h l =
    let n : length v.samples.now ≡ frame_size rows columns width = part-size s _ _ v.samples h.part in
    let a : (row + 1) * (columns * width) ≤ rows * (columns * width) = mul-le-mul_right (columns * width) (omega arith) in
    let b : (row + 1) * (columns * width) ≡ row * (columns * width) + columns * width = omega arith in
    let e : rows * (columns * width) ≡ rows * columns * width = sym (mul_assoc rows columns width) in
    rw h.columns_are (omega arith)

-- A line of a frame is a part of the pixel bytes.
pub line-part : (s : Bor (List ℕ)) (rows columns width f row : ℕ) (v : FrameView) (t : Bor (List ℕ)) → IsView s rows columns width f v
    → Part v.samples (row * (v.columns * width)) (v.columns * width) t
    → Part s ((f - 1) * frame_size rows columns width + row * (columns * width)) (columns * width) t
line-part s rows columns width f row v t h p =
    part-part s _ _ v.samples _ _ t h.part (subst (λ (c : ℕ). Part v.samples (row * (c * width)) (c * width) t) h.columns_are p)

-- A range that starts at a and has n places, where these are what a definition says.
pub part-range : (s r : Bor (List ℕ)) (a n at size : ℕ) → a ≡ at → n ≡ size → r.ref_ptr.0 ≡ s.ref_ptr.0 → r.ref_ptr.1 ≡ s.ref_ptr.1 + a
    → r.now ≡ take (a + n - a) (drop a s.now) → a + n ≤ length s.now → Part s at size r
part-range s r a n at size p q block place bytes inside =
    let e : a + n - a ≡ n = omega arith in
    subst (λ (x : ℕ). Part s at x r) q
    (subst (λ (x : ℕ). Part s x n r) p (record { inside = inside; block = block; place = place; bytes = rw e at bytes }))
