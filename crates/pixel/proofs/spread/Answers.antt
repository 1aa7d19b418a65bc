-- Before the row, in it, and behind it (`Laws`).
use Rattle.pixel.proofs.Laws.{spread_at}
use Rattle.pixel.proofs.spread.Goals as goal

pub returns : goal.returns
returns c =
    rw (c.fill-2.ensures, c.fill.ensures)
    (spread_at c.args.columns c.args.sums.now c.requires.0 c.requires.1)
