-- A blend weighs its neighbours by sixteen sixteenths, so it stays between them; on whole shifts all sixteen fall to the first.
use Prim.Native.Nat.{ℕ, ◌/◌, ◌%◌, min, max}
use native.Mathlib.Omega.{arith}
use Rattle.pixel.specs.Pixel.{mask_at, neighbour_of, blended_at}
use Rattle.pixel.specs.Whole.{source_of}
use Rattle.pixel.specs.Quarters.{AgreeCells, Between}
use Rattle.pixel.proofs.Laws.{row_below, column-below}
use Rattle.pixel.proofs.Places.{whole-place, rest_below}
use Rattle.pixel.proofs.Blend.{weights-total, blend-first, blend-least, blend-most}

pub agree : AgreeCells
unfolding blended_at neighbour_of source_of
agree g v ks m i inside =
    let r = whole-place m.vertical g.rows (i / g.columns) (row_below g i inside) in
    let c = whole-place m.horizontal g.columns (i % g.columns) (column-below g i inside) in
    rw (r.1, c.1, blend-first, r.0, c.0)

pub between : Between
unfolding blended_at
between g v ks m i =
    let t = weights-total _ _ (rest_below m.vertical (i / g.columns)) (rest_below m.horizontal (i % g.columns)) in
    let a : ℕ = mask_at g v ks (neighbour_of g m i 0 0) in
    let b : ℕ = mask_at g v ks (neighbour_of g m i 0 1) in
    let c : ℕ = mask_at g v ks (neighbour_of g m i 1 0) in
    let d : ℕ = mask_at g v ks (neighbour_of g m i 1 1) in
    record {
      low = blend-least _ _ t (min (min a b) (min c d)) (omega arith) (omega arith) (omega arith) (omega arith);
      high = blend-most _ _ t (max (max a b) (max c d))
          (record { first = omega arith; second = omega arith; third = omega arith; fourth = omega arith });
    }
