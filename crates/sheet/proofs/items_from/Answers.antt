-- Each step passes one item, so a - 1 steps lead to the item of frame a.
use Rattle.node.specs.Nodes.{nodes_of}
use Rattle.pixel.proofs.Laws.{full}
use Rattle.conformance.proofs.Loops.{along-more}
use native.Mathlib.Omega.{arith}
use Rattle.sheet.proofs.items_from.Goals as goal

pub loop-frame-init : goal.loop-frame-init
loop-frame-init c =
    (omega arith, (c.requires, c.frame_items-items.ensures))

pub advance-items-requires : goal.advance-items-requires
advance-items-requires c =
    c.loop-frame.invariant.1.1.inner

pub loop-frame-smaller : goal.loop-frame-smaller
loop-frame-smaller c =
    omega (arith, c.loop-frame-test.true)

pub loop-frame-preserved : goal.loop-frame-preserved
loop-frame-preserved c = (
  omega (arith, c.loop-frame.invariant.0),
  (
    omega (arith, c.loop-frame-test.true),
    along-more
        (nodes_of c.args.set.now) 1 c.loop-frame.frame c.loop-frame.invariant.0
        c.loop-frame.invariant.1.1 c.advance-items.ensures,
  ),
)

pub returns : goal.returns
returns c =
    rw (full c.loop-frame.invariant.1.0 c.loop-frame-test.false) at c.loop-frame.invariant.1.1
