-- Each turn writes the level of one place, and no later turn touches it.
use Prim.Native.Nat.{ℕ, ◌+◌, ◌-◌, ◌^◌}
use mathlib.Core.Path.{◌≡◌, sym, ap, ◌∙◌, subst}
use native.Mathlib.Omega.{arith}
use lib.IntN.{pos, ◌-ℤ◌}
use Rattle.value.specs.Number.{number_or0}
use Rattle.window.specs.Window.{level_of, shaded}
use Rattle.window.specs.Internal.{Filled, shade_at}
use Rattle.window.proofs.Laws.{filled_more, power_small}
use Rattle.lines.proofs.fill.Goals as goal

pub loop-i-init : goal.loop-i-init
loop-i-init c =
    (omega arith, record { size = c.requires.1.1.1; value = λ i h. absurd (omega arith) })

pub overflow_add-i : goal.overflow_add-i
overflow_add-i c =
    omega (arith, c.power-half.ensures.1.1, c.power-n.ensures.1.1, c.loop-i-test.true)

pub shade-requires : goal.shade-requires
shade-requires c = (
  c.requires.0,
  omega (
    arith,
    c.power-half.ensures.1.1,
    c.power-least.ensures.1.1,
    c.power-n.ensures.1.1,
    c.loop-i-test.true,
    power_small (c.args.stored - 1) 15 (omega arith),
    c.power-half.ensures.0,
  ),
)

pub bounds-table-i : goal.bounds-table-i
bounds-table-i c =
    omega (arith, c.loop-i.invariant.1.size, c.power-n.ensures.1.1, c.loop-i-test.true)

pub overflow_step-i : goal.overflow_step-i
overflow_step-i c =
    omega (arith, c.power-n.ensures.1.1, c.loop-i-test.true)

pub loop-i-smaller : goal.loop-i-smaller
loop-i-smaller c =
    omega (arith, c.loop-i-test.true)

pub loop-i-preserved : goal.loop-i-preserved
unfolding shade_at
loop-i-preserved c =
    let a = c.args in
    let i = c.loop-i.i in
    let e : c.shade.result ≡ shade_at a.window a.stored a.inverse i =
    c.shade.ensures
    ∙ ap (λ (h : ℕ). number_or0 (shaded a.inverse (level_of a.window (pos (i + h) -ℤ pos (c.power-least.result - 1)))))
    c.power-half.ensures.0
    ∙ ap (λ (l : ℕ). number_or0 (shaded a.inverse (level_of a.window (pos (i + 2 ^ (a.stored - 1)) -ℤ pos (l - 1)))))
    c.power-least.ensures.0 in (
      omega (arith, c.loop-i-test.true),
      rw e (filled_more (shade_at a.window a.stored a.inverse) i
          c.loop-i.table c.loop-i.invariant.1
          (omega (arith, c.power-n.ensures.1.1, c.loop-i-test.true))),
    )

pub shape_of-table : goal.shape_of-table
shape_of-table c =
    c.loop-i.invariant.1.size ∙ sym c.requires.1.1.1

pub returns : goal.returns
returns c =
    let a = c.args in
    subst (λ (k : ℕ). Filled (shade_at a.window a.stored a.inverse) k c.loop-i.table)
    (omega (arith, c.power-n.ensures.0, c.loop-i.invariant.0, c.loop-i-test.false)) c.loop-i.invariant.1
