-- Each term stands on the side where it is not negative, so that up - down is 2ux - 2C + W without a negative number.
use Rattle.std.specs.Prelude.{Some}
use mathlib.Core.Path.{sym, ap, ◌∙◌}
use Prim.Native.Nat.{ℕ, ◌+◌, ◌-◌, ◌*◌}
use native.Mathlib.Omega.{arith}
use lib.IntN.{pos}
use Rattle.value.specs.Number.{unit}
use Rattle.window.specs.Internal.{above, ramp_of}
use Rattle.window.proofs.Gaps.{gap}
use Rattle.window.proofs.Laws.{sizes, window-none, window-ramp}
use Rattle.window.proofs.level.Goals as goal

pub overflow_mul-up-3 : goal.overflow_mul-up-3
overflow_mul-up-3 c =
    omega (arith, (sizes c.args.window c.requires.0).low)

pub overflow_add-up : goal.overflow_add-up
overflow_add-up c =
    omega (arith, (sizes c.args.window c.requires.0).low)

pub overflow_add-up-2 : goal.overflow_add-up-2
overflow_add-up-2 c =
    omega (arith, (sizes c.args.window c.requires.0).low, (sizes c.args.window c.requires.0).narrow)

pub overflow_mul-down-3 : goal.overflow_mul-down-3
overflow_mul-down-3 c =
    omega (arith, (sizes c.args.window c.requires.0).high)

pub overflow_add-down : goal.overflow_add-down
overflow_add-down c =
    omega (arith, (sizes c.args.window c.requires.0).high)

pub ramp-requires : goal.ramp-requires
ramp-requires c =
    let s = sizes c.args.window c.requires.0 in
    omega (arith, s.widths.wide, s.narrow, s.high, s.low, c.taken_off-e.ensures.0, c.taken_off-e.ensures.1)

pub returns-then-up-down : goal.returns-then-up-down
returns-then-up-down c =
    let a = c.args in
    let s = sizes a.window c.requires.0 in
    let u = 2 * unit * a.plus + 2 * c.below.result + c.above-w.result in
    let n = 2 * unit * a.minus + 2 * c.above.result in
    (sym (window-none a.window s.widths (gap a.plus a.minus) u n (omega arith) (omega arith) c.if-up-down.true), omega arith)

pub returns-else-up-down : goal.returns-else-up-down
returns-else-up-down c =
    let a = c.args in
    let s = sizes a.window c.requires.0 in
    let u = 2 * unit * a.plus + 2 * c.below.result + c.above-w.result in
    let n = 2 * unit * a.minus + 2 * c.above.result in
    let e = c.ramp.ensures.0 ∙ ap (λ (w : ℕ). ramp_of c.taken_off-e.result (u - n) w) c.above-w.ensures
    ∙ ap (λ (o : ℕ). ramp_of o (u - n) (above a.window.width)) c.taken_off-e.ensures.0 in (
      ap (λ (y : ℕ). Some (pos y)) e
          ∙ sym (window-ramp a.window s.widths (gap a.plus a.minus) u n (omega arith) (omega arith) c.if-up-down.false),
      c.ramp.ensures.1,
    )
