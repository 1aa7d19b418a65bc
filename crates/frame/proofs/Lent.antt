-- The view of a frame in the data set as lent: a part of the pixel bytes, which are a part of the data set; and a frame's cells
-- stand in its bytes as they do in all pixel bytes, f - 1 frames further on.
use mathlib.Core.Path.{◌≡◌, refl, sym, ap, ◌∙◌}
use mathlib.Core.List.{List}
use Prim.Native.Nat.{ℕ, zero, suc, ◌+◌, ◌-◌, ◌*◌, ◌%◌, ◌^◌, ◌≤◌, ◌<◌}
use native.Mathlib.Nat.{add-mul, mul_assoc, mul-le-mul_right}
use native.Mathlib.Omega.{arith}
use lib.ListN.{get_or, take, drop}
use lib.Seq.{get_or-take, get_or-drop}
use denote.Ref.{Bor}
use Rattle.basics.specs.Bytes.{le_number}
use Rattle.dataset.specs.Tree.{rows_of, row_at}
use Rattle.pixel.specs.declared.Geometry.{Geometry}
use Rattle.pixel.specs.Pixel.{samples_of, sample_at, cell_at}
use Rattle.pixel.proofs.Laws.{sample-cell}
use Rattle.frame.specs.declared.FrameView.{FrameView}
use Rattle.frame.specs.View.{Part, IsView, InDataSet, frame_size}
use Rattle.frame.proofs.Laws.{part-part}

le-part : (k : ℕ) (v : List ℕ) (at n p : ℕ) → p + k ≤ n → le_number k (take n (drop at v)) p ≡ le_number k v (at + p)
unfolding le_number
le-part zero v at n p h = refl
le-part (suc k) v at n p h =
    let a : get_or (take n (drop at v)) p 0 ≡ get_or v (at + p) 0 = get_or-take n (drop at v) p 0 (omega arith) ∙ get_or-drop at v p 0 in
    let b : le_number k (take n (drop at v)) (p + 1) ≡ le_number k v (at + (p + 1)) = le-part k v at n (p + 1) (omega arith) in
    let e : at + (p + 1) ≡ at + p + 1 = omega arith in
    rw (a, b, e)

-- A sample of a part that starts with sample j is sample j + c.
pub cell-part : (g : Geometry) (v : List ℕ) (j n c : ℕ) → c * g.width + g.width ≤ n
    → cell_at g (take n (drop (j * g.width) v)) c ≡ cell_at g v (j + c)
unfolding cell_at
cell-part g v j n c h =
    ap (λ (x : ℕ). x % 2 ^ g.stored)
    (le-part g.width v (j * g.width) n (c * g.width) h ∙ ap (le_number g.width v) (sym (add-mul j c g.width)))

-- What `value_part` and `view` say together: p is the row of the pixel bytes.
pub in-data-set : (bytes pixels : Bor (List ℕ)) (p : ℕ) (g : Geometry) (f : ℕ) (v : FrameView)
    → Part bytes (row_at (rows_of bytes.now) p).offset (row_at (rows_of bytes.now) p).size pixels
    → IsView pixels g.rows g.columns g.width f v → InDataSet bytes p g pixels.now f v
in-data-set bytes pixels p g f v a b =
    record { part = part-part bytes _ _ pixels _ _ v.samples a b.part; cells = λ i h. cell i h }
  where
    cell : (i : ℕ) → i < samples_of g → cell_at g v.samples.now i ≡ sample_at g pixels.now f i
    cell i h =
        let m : (i + 1) * g.width ≤ samples_of g * g.width = mul-le-mul_right g.width (omega arith) in
        let n : (i + 1) * g.width ≡ i * g.width + g.width = omega arith in
        let e : (f - 1) * frame_size g.rows g.columns g.width
        ≡ (f - 1) * samples_of g * g.width = sym (mul_assoc (f - 1) (samples_of g) g.width) in
        ap (λ (x : List ℕ). cell_at g x i)
        (b.part.bytes ∙ ap (λ (x : ℕ). take (frame_size g.rows g.columns g.width) (drop x pixels.now)) e)
        ∙ (cell-part g pixels.now ((f - 1) * samples_of g) (frame_size g.rows g.columns g.width) i (omega arith)
        ∙ sym (sample-cell g pixels.now f i))
