-- A mark of 65,535 at frame 0 reaches every frame.
use native.Mathlib.Omega.{arith}
use lib.Seq.{get_or-set_same}
use Rattle.ranges.proofs.Items as items
use Rattle.ranges.proofs.cover_all.Goals as goal

pub returns : goal.returns
returns c =
    items.covered-all _ _ _ _ _ c.requires.few (get_or-set_same c.args.reach.now 0 65535 0 (omega (arith, c.requires.marks)))
    c.cover.ensures
