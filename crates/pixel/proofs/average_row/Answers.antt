-- The row's sums, then each of them averaged (`Blend`).
use Rattle.pixel.proofs.Blend.{spread-fits, averaged}
use mathlib.Core.Path.{sym}
use native.Mathlib.Omega.{arith}
use Rattle.value.specs.Number.{us_values}
use Rattle.value.proofs.Laws.{us_values-length}
use borrow.Author.Rules.{rules}
use Rattle.pixel.proofs.average_row.Goals as goal

pub average_all-requires : goal.average_all-requires
average_all-requires c = (
  omega (arith, us_values-length c.args.masks.now, c.requires.1.0.some),
  (
    omega (arith, us_values-length c.args.masks.now, c.requires.1.0.few),
    (
      search rules,
      spread-fits
          c.args.pixels.now c.args.g (us_values c.args.masks.now) c.args.row _ c.requires.1.0.few
          c.requires.0.stored-most c.mask_row.ensures,
    ),
  ),
)

pub returns : goal.returns
returns c =
    rw c.average_all.ensures (averaged c.args.pixels.now c.args.g (us_values c.args.masks.now)
    c.args.row _ _ (sym (us_values-length c.args.masks.now))
    (omega (arith, c.mask_row.auto.sums, c.requires.1.1.1)) c.mask_row.ensures)
