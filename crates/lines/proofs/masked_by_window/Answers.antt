-- Invariant: c levels are drawn.
use mathlib.Core.Path.{◌≡◌, refl, ap, ◌∙◌}
use Prim.Native.Nat.{ℕ, ◌-◌}
use native.Mathlib.Omega.{arith}
use lib.ListN.{length}
use lib.Pow.{pow_pos}
use Rattle.window.specs.Internal.{shade_at}
use Rattle.pixel.specs.Internal.{painted, mask_place}
use Rattle.pixel.proofs.Laws.{full, power-most, half-low, row_at, mask-place, painted-more, painted-length}
use Rattle.lines.proofs.Laws.{shade-at}
use Rattle.lines.proofs.masked_by_window.Goals as goal

pub overflow_sub-g : goal.overflow_sub-g
overflow_sub-g c =
    c.requires.0.row.shape.stored_some

pub power-half-requires : goal.power-half-requires
power-half-requires c =
    omega (arith, c.requires.0.row.shape.stored-most)

pub power-low-requires : goal.power-low-requires
power-low-requires c =
    c.requires.0.row.shape.stored-most

pub overflow_sub-low : goal.overflow_sub-low
overflow_sub-low c =
    omega (arith, c.power-low.ensures, pow_pos c.args.g.stored)

pub loop-c-init : goal.loop-c-init
unfolding painted
loop-c-init c =
    (omega arith, refl)

pub sample-requires : goal.sample-requires
sample-requires c =
    record {
      width = c.requires.0.row.shape.width;
      kept = ap (λ (x : ℕ). x - 1) c.power-low.ensures;
      inside = row_at c.args.line.now c.args.g c.requires.0.row c.loop-c.c c.loop-c-test.true;
    }

pub overflow_add-place : goal.overflow_add-place
overflow_add-place c =
    omega (
      arith,
      c.sample.ensures.1,
      power-most c.args.g.stored c.requires.0.row.shape.stored-most,
      c.power-low.ensures,
    )

pub offset_bounds-masks-s : goal.offset_bounds-masks-s
offset_bounds-masks-s c =
    omega (arith, c.requires.0.row.shape.columns-most, c.requires.0.most, c.loop-c-test.true)

pub bounds-masks-s : goal.bounds-masks-s
bounds-masks-s c =
    (c.requires.0.masked c.loop-c.c c.loop-c-test.true).0

pub overflow_sub-place : goal.overflow_sub-place
overflow_sub-place c =
    omega
    (arith, c.power-low.ensures, (c.requires.0.masked c.loop-c.c c.loop-c-test.true).1)

pub overflow_add-place-in-loop-c : goal.overflow_add-place-in-loop-c
overflow_add-place-in-loop-c c =
    omega (
      arith,
      c.sample.ensures.1,
      power-most c.args.g.stored c.requires.0.row.shape.stored-most,
      c.power-half.ensures,
      c.power-low.ensures,
      half-low c.args.g.stored c.requires.0.row.shape.stored_some,
    )

pub shade-requires : goal.shade-requires
shade-requires c = (
  c.requires.1,
  omega (
    arith,
    c.sample.ensures.1,
    power-most c.args.g.stored c.requires.0.row.shape.stored-most,
    c.power-half.ensures,
    c.power-low.ensures,
    half-low c.args.g.stored c.requires.0.row.shape.stored_some,
  ),
)

pub bounds-levels-c : goal.bounds-levels-c
bounds-levels-c c =
    omega (arith, ap length c.loop-c.invariant.1 ∙ painted-length _ _ _, c.requires.0.room, c.loop-c-test.true)

pub overflow_step-c : goal.overflow_step-c
overflow_step-c c =
    omega (arith, c.loop-c-test.true, c.requires.0.row.shape.columns-most)

pub loop-c-smaller : goal.loop-c-smaller
loop-c-smaller c =
    omega (arith, c.loop-c-test.true)

pub loop-c-preserved : goal.loop-c-preserved
loop-c-preserved c =
    let a = c.args in
    let e : c.shade.result
    ≡ shade_at a.window a.g.stored a.inverse (mask_place a.g a.line.now a.masks.now a.s c.loop-c.c) =
    c.shade.ensures ∙ shade-at a.window a.g.stored a.inverse _ c.power-half.result c.power-low.result _
    c.power-half.ensures c.power-low.ensures (mask-place a.g a.line.now a.masks.now a.s c.loop-c.c
    _ _ _ c.sample.ensures.0 c.power-low.ensures refl) in (
      omega (arith, c.loop-c-test.true),
      rw (c.loop-c.invariant.1, e) (painted-more
          (λ i. shade_at a.window a.g.stored a.inverse (mask_place a.g a.line.now a.masks.now a.s i)) _ _),
    )

pub shape_of-levels : goal.shape_of-levels
shape_of-levels c =
    ap length c.loop-c.invariant.1 ∙ painted-length _ _ _

pub returns : goal.returns
returns c =
    rw (full c.loop-c.invariant.0 c.loop-c-test.false) at c.loop-c.invariant.1
