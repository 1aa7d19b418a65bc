-- Invariant: the sums are those of the mask frames from number k on.
use mathlib.Core.Path.{◌≡◌, refl, sym, ap, ◌∙◌}
use Prim.Native.Nat.{ℕ, ◌≤◌}
use native.Mathlib.Omega.{arith}
use lib.ListN.{length}
use Rattle.value.specs.Number.{us_values}
use Rattle.value.proofs.Laws.{us_values-length}
use Rattle.pixel.proofs.Laws.{cells_fit, frame-facts, frame_row, mask-frame, native-run, painted-length, from-length, summed-none}
use Rattle.pixel.proofs.Laws.{summed-more, summed-most}
use Rattle.pixel.proofs.sum_row.Goals as goal

none_left : {k : ℕ} → k ≤ 0 → k ≡ 0
none_left h = omega arith

pub overflow_mul-n : goal.overflow_mul-n
overflow_mul-n c =
    omega (
      arith,
      cells_fit 0 c.args.g.rows c.args.g.columns 0 (omega arith) c.requires.0.rows-most
          c.requires.0.columns-most (omega arith),
    )

pub overflow_mul-at : goal.overflow_mul-at
overflow_mul-at c =
    omega (
      arith,
      cells_fit 0 c.args.row c.args.g.columns 0 (omega arith)
          (omega (arith, c.requires.1.1.0, c.requires.0.rows-most)) c.requires.0.columns-most (omega arith),
    )

pub fill-requires : goal.fill-requires
fill-requires c =
    omega (arith, c.requires.1.1.1)

pub loop-k-init : goal.loop-k-init
loop-k-init c = (
  omega (arith, us_values-length c.args.masks.now),
  (
    refl,
    rw c.fill.ensures (summed-none
        c.args.pixels.now c.args.g (us_values c.args.masks.now) c.args.row _ _
        (sym (us_values-length c.args.masks.now)) c.requires.1.1.1),
  ),
)

pub us_value-requires : goal.us_value-requires
us_value-requires c =
    omega (arith, us_values-length c.args.masks.now, c.loop-k.invariant.0)

pub overflow_sub-us_value : goal.overflow_sub-us_value
overflow_sub-us_value c =
    omega (
      arith,
      (frame-facts c.args.g c.args.pixels.now c.us_value.result (mask-frame _ _ c.args.masks.now
          c.loop-k.k _ c.requires.1.0 c.loop-k-test.true c.loop-k.invariant.0
          c.us_value.ensures.value)).0,
    )

pub overflow_mul-us_value : goal.overflow_mul-us_value
overflow_mul-us_value c =
    omega (
      arith,
      (native-run c.args.g c.args.pixels.now c.us_value.result c.requires.0.width
          (mask-frame _ _ c.args.masks.now c.loop-k.k _ c.requires.1.0 c.loop-k-test.true
          c.loop-k.invariant.0 c.us_value.ensures.value)).1,
    )

pub overflow_add-us_value : goal.overflow_add-us_value
overflow_add-us_value c =
    omega (
      arith,
      (frame_row c.args.g c.args.pixels.now c.us_value.result c.args.row c.requires.0.width
          (mask-frame _ _ c.args.masks.now c.loop-k.k _ c.requires.1.0 c.loop-k-test.true
          c.loop-k.invariant.0 c.us_value.ensures.value) c.requires.1.1.0).1,
    )

pub add_row-requires : goal.add_row-requires
add_row-requires c = (
  record {
    shape = c.requires.0;
    inside = (frame_row c.args.g
        c.args.pixels.now
        c.us_value.result
        c.args.row
        c.requires.0.width
        (mask-frame _ _
        c.args.masks.now
        c.loop-k.k _
        c.requires.1.0
        c.loop-k-test.true c.loop-k.invariant.0 c.us_value.ensures.value)
        c.requires.1.1.0).0;
  },
  λ c' l. (
    omega (
      arith,
      c.loop-k.invariant.1.0,
      ap length c.fill.ensures ∙ from-length _ _ _ _,
      c.requires.1.1.1,
    ),
    omega (
      arith,
      summed-most
          c.args.pixels.now
          c.args.g
          (us_values c.args.masks.now)
          c.args.row
          c.loop-k.k _
          c.requires.1.0.few
          c.requires.0.stored-most
          c.loop-k.invariant.1.1 c' l,
    ),
  ),
)

pub loop-k-smaller : goal.loop-k-smaller
loop-k-smaller c =
    omega (arith, c.loop-k-test.true)

pub loop-k-preserved : goal.loop-k-preserved
loop-k-preserved c = (
  omega (arith, c.loop-k.invariant.0),
  (
    ap length c.add_row.ensures ∙ painted-length _ _ _ ∙ c.loop-k.invariant.1.0,
    rw c.add_row.ensures (summed-more c.args.pixels.now c.args.g
        (us_values c.args.masks.now) c.args.row c.loop-k.k c.us_value.result _ _
        c.loop-k-test.true c.loop-k.invariant.0 c.us_value.ensures.value refl
        (omega (arith, c.loop-k.invariant.1.0, ap length c.fill.ensures ∙ from-length _ _ _ _, c.requires.1.1.1))
        c.loop-k.invariant.1.1),
  ),
)

pub shape_of-sums : goal.shape_of-sums
shape_of-sums c =
    c.loop-k.invariant.1.0 ∙ ap length c.fill.ensures ∙ from-length _ _ _ _

pub returns : goal.returns
returns c =
    rw (none_left c.loop-k-test.false) at c.loop-k.invariant.1.1
