-- Each cell is the level of its own sample, as the table would have it.
use mathlib.Core.Path.{◌≡◌, refl, ap, ◌∙◌}
use Prim.Native.Nat.{ℕ, ◌-◌}
use native.Mathlib.Omega.{arith}
use lib.ListN.{length}
use lib.Pow.{pow_pos}
use Rattle.window.specs.Internal.{shade_at}
use Rattle.pixel.specs.Internal.{painted, plain_place}
use Rattle.pixel.proofs.Laws.{full, power-most, half-low, run_at, width_some, plain-place, painted-more, painted-length}
use Rattle.lines.proofs.Laws.{shade-at}
use Rattle.lines.proofs.plain_by_window.Goals as goal

pub overflow_sub-g : goal.overflow_sub-g
overflow_sub-g c =
    c.requires.0.shape.stored_some

pub power-half-requires : goal.power-half-requires
power-half-requires c =
    omega (arith, c.requires.0.shape.stored-most)

pub power-low-requires : goal.power-low-requires
power-low-requires c =
    c.requires.0.shape.stored-most

pub overflow_sub-low : goal.overflow_sub-low
overflow_sub-low c =
    omega (arith, c.power-low.ensures, pow_pos c.args.g.stored)

pub overflow_sub-middle : goal.overflow_sub-middle
overflow_sub-middle c =
    omega (arith, c.power-half.ensures, c.power-low.ensures, half-low c.args.g.stored c.requires.0.shape.stored_some)

pub loop-c-init : goal.loop-c-init
unfolding painted
loop-c-init c =
    (omega arith, refl)

pub sample-requires : goal.sample-requires
sample-requires c =
    record {
      width = c.requires.0.shape.width;
      kept = ap (λ (x : ℕ). x - 1) c.power-low.ensures;
      inside = omega (
        arith,
        (run_at 0 c.args.g.columns c.args.g.width (length c.args.line.now)
            c.loop-c.c (width_some _ c.requires.0.shape.width) c.requires.0.inside c.loop-c-test.true).0,
      );
    }

pub overflow_add-place : goal.overflow_add-place
overflow_add-place c =
    omega (
      arith,
      c.sample.ensures.1,
      power-most c.args.g.stored c.requires.0.shape.stored-most,
      c.power-half.ensures,
      c.power-low.ensures,
      half-low c.args.g.stored c.requires.0.shape.stored_some,
    )

pub overflow_add-place-in-loop-c : goal.overflow_add-place-in-loop-c
overflow_add-place-in-loop-c c =
    omega (
      arith,
      c.sample.ensures.1,
      power-most c.args.g.stored c.requires.0.shape.stored-most,
      c.power-half.ensures,
      c.power-low.ensures,
      half-low c.args.g.stored c.requires.0.shape.stored_some,
    )

pub shade-requires : goal.shade-requires
shade-requires c = (
  c.requires.1.0,
  omega (
    arith,
    c.sample.ensures.1,
    power-most c.args.g.stored c.requires.0.shape.stored-most,
    c.power-half.ensures,
    c.power-low.ensures,
    half-low c.args.g.stored c.requires.0.shape.stored_some,
  ),
)

pub bounds-levels-c : goal.bounds-levels-c
bounds-levels-c c =
    omega (arith, ap length c.loop-c.invariant.1 ∙ painted-length _ _ _, c.requires.1.1, c.loop-c-test.true)

pub loop-c-smaller : goal.loop-c-smaller
loop-c-smaller c =
    omega (arith, c.loop-c-test.true)

pub loop-c-preserved : goal.loop-c-preserved
loop-c-preserved c =
    let a = c.args in
    let e : c.shade.result ≡ shade_at a.window a.g.stored a.inverse (plain_place a.g a.line.now c.loop-c.c) =
    c.shade.ensures ∙ shade-at a.window a.g.stored a.inverse _ c.power-half.result c.power-low.result _
    c.power-half.ensures c.power-low.ensures (plain-place a.g a.line.now c.loop-c.c _ _ _
    c.sample.ensures.0 c.power-low.ensures c.power-half.ensures) in (
      omega (arith, c.loop-c-test.true),
      rw (c.loop-c.invariant.1, e)
          (painted-more (λ i. shade_at a.window a.g.stored a.inverse (plain_place a.g a.line.now i)) _ _),
    )

pub shape_of-levels : goal.shape_of-levels
shape_of-levels c =
    ap length c.loop-c.invariant.1 ∙ painted-length _ _ _

pub returns : goal.returns
returns c =
    rw (full c.loop-c.invariant.0 c.loop-c-test.false) at c.loop-c.invariant.1
