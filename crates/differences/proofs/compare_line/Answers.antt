-- What was seen of the first k cells, with one cell more, is what is seen of the first k + 1.
use Prim.Native.Nat.{ℕ, ◌+◌, ◌≤◌}
use mathlib.Core.Bool.{not}
use lib.ListN.{length, get_or}
use Rattle.differences.specs.Differences.{within}
use Rattle.differences.specs.declared.Differing.{Differing}
use Rattle.differences.specs.Internal.{along}
use Rattle.differences.proofs.Places as places
use mathlib.Core.Path.{◌≡◌, refl, sym, ◌∙◌, subst}
use native.Mathlib.Omega.{arith}
use Rattle.differences.proofs.compare_line.Goals as goal

pub loop-k-init : goal.loop-k-init
loop-k-init c = (
  omega arith,
  (
    refl,
    places.along-none (λ j. not (within c.args.tolerance
        (get_or c.args.line.now j 0) (get_or c.args.cells.now (c.args.at + j) 0)))
        c.args.at c.args.sofar,
  ),
)

pub overflow_add-place : goal.overflow_add-place
overflow_add-place c =
    omega (arith, c.requires.inside, c.loop-k-test.true, c.loop-k.invariant.1.0)

pub bounds-cells-place : goal.bounds-cells-place
bounds-cells-place c =
    omega (arith, c.requires.inside, c.loop-k-test.true, c.loop-k.invariant.1.0)

pub look-found-requires : goal.look-found-requires
look-found-requires c = (
  subst (λ (d : Differing). d.count ≤ c.args.at + c.loop-k.k) (sym c.loop-k.invariant.1.1)
      (omega (
        arith,
        c.requires.few,
        places.along-most (λ j.
            not (within c.args.tolerance (get_or c.args.line.now j 0)
            (get_or c.args.cells.now (c.args.at + j) 0)))
            c.args.at c.loop-k.k c.args.sofar,
      )),
  omega (arith, c.requires.inside, c.loop-k-test.true, c.loop-k.invariant.1.0),
)

pub overflow_step-k : goal.overflow_step-k
overflow_step-k c =
    omega (arith, c.requires.inside, c.loop-k-test.true, c.loop-k.invariant.1.0)

pub loop-k-smaller : goal.loop-k-smaller
loop-k-smaller c =
    omega (arith, c.loop-k-test.true)

pub loop-k-preserved : goal.loop-k-preserved
loop-k-preserved c = (
  omega (arith, c.loop-k-test.true),
  (
    c.loop-k.invariant.1.0,
    places.along-next (λ j.
        not (within c.args.tolerance (get_or c.args.line.now j 0)
        (get_or c.args.cells.now (c.args.at + j) 0)))
        c.args.at c.loop-k.k c.args.sofar c.loop-k.found _ _ c.loop-k.invariant.1.1
        (c.is_off-off.ensures ∙ rw (c.from.ensures, c.from-in-loop-k.ensures)) c.look-found.ensures,
  ),
)

pub returns : goal.returns
returns c =
    let e : c.loop-k.k
    ≡ length c.args.line.now = omega (arith, c.loop-k-test.false, c.loop-k.invariant.0, c.loop-k.invariant.1.0) in
    subst (λ (n : ℕ). c.loop-k.found ≡ along (λ j.
    not (within c.args.tolerance (get_or c.args.line.now j 0) (get_or c.args.cells.now (c.args.at + j) 0)))
    c.args.at n c.args.sofar) e c.loop-k.invariant.1.1
