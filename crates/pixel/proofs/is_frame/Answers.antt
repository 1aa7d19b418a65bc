-- The products fit, and the two tests are the definition's.
use native.Mathlib.Omega.{arith}
use borrow.Author.Tests.{le-leb, lt-leb}
use Rattle.pixel.specs.Pixel.{is_frame}
use Rattle.pixel.proofs.Laws.{cells_fit, frames-fit, bytes_fit}
use Rattle.pixel.proofs.is_frame.Goals as goal

pub overflow_mul-result : goal.overflow_mul-result
overflow_mul-result c =
    omega (
      arith,
      cells_fit c.args.k c.args.g.rows c.args.g.columns
          c.args.g.width c.requires.number c.requires.rows
          c.requires.columns c.requires.width,
    )

pub overflow_mul-result-then-k-ge1 : goal.overflow_mul-result-then-k-ge1
overflow_mul-result-then-k-ge1 c =
    omega (
      arith,
      frames-fit c.args.k c.args.g.rows c.args.g.columns
          c.args.g.width c.requires.number c.requires.rows
          c.requires.columns c.requires.width,
    )

pub overflow_mul-result-then-k-ge1-2 : goal.overflow_mul-result-then-k-ge1-2
overflow_mul-result-then-k-ge1-2 c =
    omega (
      arith,
      bytes_fit c.args.k c.args.g.rows c.args.g.columns c.args.g.width c.requires.number
          c.requires.rows c.requires.columns c.requires.width,
    )

pub returns-then-k-ge1 : goal.returns-then-k-ge1
unfolding is_frame
returns-then-k-ge1 c =
    rw (le-leb _ _ c.if-k-ge1.true)

pub returns-else-k-ge1 : goal.returns-else-k-ge1
unfolding is_frame
returns-else-k-ge1 c =
    rw (lt-leb _ _ c.if-k-ge1.false)
