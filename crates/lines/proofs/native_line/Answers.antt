-- The line's samples are the frame's, from a filled table as from the window.
use mathlib.Core.Path.{◌∙◌}
use native.Mathlib.Omega.{arith}
use Rattle.lines.proofs.Laws as laws
use Rattle.lines.proofs.native_line.Goals as goal

pub frame_line-line-requires : goal.frame_line-line-requires
frame_line-line-requires c = (
  laws.fits c.args.g c.args.pixels c.args.frame c.args.row c.requires.0.shape
      c.requires.0.inside,
  c.requires.0.lies,
)

pub plain_row-requires : goal.plain_row-requires
plain_row-requires c = (
  laws.line_row c.args.g c.requires.0.shape c.args.pixels c.args.frame c.args.row _
      c.frame_line-line.ensures,
  (omega (arith, (c.requires.1.shades c.if-shades.true).size), c.requires.0.room),
)

pub plain_by_window-requires : goal.plain_by_window-requires
plain_by_window-requires c = (
  laws.line_row c.args.g c.requires.0.shape c.args.pixels c.args.frame c.args.row _
      c.frame_line-line.ensures,
  (c.requires.1.drawable, c.requires.0.room),
)

pub returns-then-shades : goal.returns-then-shades
returns-then-shades c =
    c.plain_row.ensures ∙ laws.native-by-table c.args.g c.requires.0.shape c.args.pixels
    c.args.frame c.args.row _ c.frame_line-line.ensures c.args.shades c.args.table.now
    c.args.levels.now (c.requires.1.shades c.if-shades.true)

pub returns-else-shades : goal.returns-else-shades
returns-else-shades c =
    c.plain_by_window.ensures ∙ laws.native-by-window c.args.g c.requires.0.shape c.args.pixels
    c.args.frame c.args.row _ c.frame_line-line.ensures c.args.shades c.args.table.now
    c.args.levels.now
