-- Invariant: the first j sums are averages, the others are untouched.
use native.Mathlib.Nat.{div-le_self}
use Rattle.pixel.proofs.Laws.{full, painted-length, painted-beyond, changed-more}
use mathlib.Core.Path.{refl, ap, ◌∙◌}
use mathlib.Core.List.{List}
use Prim.Native.Nat.{ℕ, ◌*◌}
use native.Mathlib.Omega.{arith}
use lib.ListN.{length, get_or}
use Rattle.pixel.specs.Pixel.{average_of}
use Rattle.pixel.specs.Internal.{painted}
use Rattle.pixel.proofs.Division.{average-fits}
use Rattle.pixel.proofs.average_all.Goals as goal

pub overflow_add-factor : goal.overflow_add-factor
overflow_add-factor c =
    omega (arith, div-le_self 4294967296 (2 * c.args.n))

pub loop-j-init : goal.loop-j-init
unfolding painted
loop-j-init c =
    (omega arith, refl)

pub offset_bounds-sums-j : goal.offset_bounds-sums-j
offset_bounds-sums-j c =
    omega (arith, c.requires.1.1.0)

pub bounds-sums-j : goal.bounds-sums-j
bounds-sums-j c =
    omega (arith, ap length c.loop-j.invariant.1 ∙ painted-length _ _ _, c.requires.1.1.0)

pub average-requires : goal.average-requires
average-requires c = (
  c.requires.0,
  (
    c.requires.1.0,
    (
      omega (
        arith,
        ap (λ (s : List ℕ). get_or s c.loop-j.j 0) c.loop-j.invariant.1 ∙ painted-beyond _ _ _ _ (omega arith),
        c.requires.1.1.1 c.loop-j.j c.loop-j-test.true,
      ),
      refl,
    ),
  ),
)

pub overflow_cast-sums-in-loop-j : goal.overflow_cast-sums-in-loop-j
overflow_cast-sums-in-loop-j c =
    omega (
      arith,
      c.average.ensures,
      average-fits (get_or c.loop-j.sums c.loop-j.j 0) c.args.n c.requires.0 c.requires.1.0
          (omega (
            arith,
            ap (λ (s : List ℕ). get_or s c.loop-j.j 0) c.loop-j.invariant.1 ∙ painted-beyond _ _ _ _ (omega arith),
            c.requires.1.1.1 c.loop-j.j c.loop-j-test.true,
          )),
    )

pub offset_bounds-sums-j-in-loop-j : goal.offset_bounds-sums-j-in-loop-j
offset_bounds-sums-j-in-loop-j c =
    omega (arith, c.requires.1.1.0)

pub bounds-sums-j-in-loop-j : goal.bounds-sums-j-in-loop-j
bounds-sums-j-in-loop-j c =
    omega (arith, ap length c.loop-j.invariant.1 ∙ painted-length _ _ _, c.requires.1.1.0)

pub loop-j-preserved : goal.loop-j-preserved
loop-j-preserved c = (
  omega arith,
  rw (c.average.ensures, c.loop-j.invariant.1)
      (changed-more (λ x. average_of x c.args.n) c.loop-j.j c.args.sums.now),
)

pub shape_of-sums : goal.shape_of-sums
shape_of-sums c =
    ap length c.loop-j.invariant.1 ∙ painted-length _ _ _

pub returns : goal.returns
returns c =
    rw (full c.loop-j.invariant.0 c.loop-j-test.false) at c.loop-j.invariant.1
