-- The way is ready for the first line, and draws the cells that the moves lead to.
use mathlib.Core.Path.{◌∙◌}
use native.Mathlib.Omega.{arith}
use Prim.Native.Nat.{ℕ}
use lib.ListN.{length-replicate}
use Rattle.pixel.specs.Pixel.{samples_of}
use Rattle.pixel.specs.Internal.{longest_row}
use Rattle.pixel.proofs.Laws.{painted_same}
use Rattle.lines.specs.Internal.{shades_of}
use Rattle.painting.proofs.paint_masked.Goals as goal

pub masked_way-way-requires : goal.masked_way-way-requires
masked_way-way-requires c =
    (c.requires.0.shape, (c.requires.1.0, (c.requires.1.1.0, omega (arith, length-replicate {A = ℕ} longest_row 0))))

pub paint_lines-requires : goal.paint_lines-requires
paint_lines-requires c = (
  c.requires.0,
  (
    c.requires.1.1.1.0,
    c.masked_way-way.ensures.ready _ (omega
        (arith, length-replicate {A = ℕ} longest_row 0)),
  ),
)

pub returns : goal.returns
returns c =
    c.paint_lines.ensures ∙ painted_same _ _ (samples_of c.args.g) c.args.image.now
    (λ i l. c.masked_way-way.ensures.shades (shades_of c.args.shades c.args.g.stored) c.args.frame i)
