-- The way is ready for the first line, and draws the cells that the moves lead to.
use mathlib.Core.Path.{ap, ◌∙◌}
use mathlib.Core.List.{List}
use native.Mathlib.Omega.{arith}
use Prim.Native.Nat.{ℕ}
use Rattle.pixel.specs.Pixel.{samples_of}
use Rattle.lines.specs.Internal.{shades_of}
use Rattle.lines.proofs.Lists.{up_to-same}
use Rattle.sheet.specs.Internal.{tallied}
use Rattle.sheet.proofs.count_masked.Goals as goal

pub masked_way-way-requires : goal.masked_way-way-requires
masked_way-way-requires c =
    (c.requires.0.shape, (c.requires.1.0, (c.requires.1.1.0, c.requires.0.below)))

pub count_lines-requires : goal.count_lines-requires
count_lines-requires c = (
  record {
    shape = c.requires.0.shape;
    inside = c.requires.0.inside;
    shaded = c.requires.0.shaded;
    above = c.requires.0.above;
    below = omega (arith, c.requires.0.below, c.lower-1.given);
    wide = c.requires.0.wide;
  },
  (c.masked_way-way.ensures.ready _ c.requires.0.above, c.requires.1.1.1),
)

pub returns : goal.returns
returns c =
    c.count_lines.ensures ∙ ap (λ (l : List ℕ). tallied l c.args.counts) (up_to-same _ _ (samples_of c.args.g)
    (λ i l. c.masked_way-way.ensures.shades (shades_of c.args.shades c.args.g.stored) c.args.frame i))
