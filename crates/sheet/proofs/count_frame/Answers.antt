-- Each masking leads to its own way of drawing; a mask of one frame is a list of that frame.
use Rattle.node.specs.Nodes.{nodes_of}
use Rattle.element.specs.Elements.{value_at}
use Rattle.display.specs.declared.Masking.{Masking}
use Rattle.display.specs.Internal.{MasksReady}
use Rattle.display.proofs.Paints.{pair-masks, pair_values}
use mathlib.Core.Path.{subst}
use Rattle.sheet.proofs.count_frame.Goals as goal

pub count_masked-requires-in-One : goal.count_masked-requires-in-One
count_masked-requires-in-One c =
    let m = subst (λ (x : Masking).
    MasksReady (nodes_of c.args.set.now) (value_at (nodes_of c.args.set.now) c.args.c.p) c.args.c.g x)
    c.in-One.is c.requires.1.1.0 in
    rw (c.pixels_of-pixels.ensures, c.to_le_bytes-one.ensures) (
      c.requires.1.0,
      (
        pair-masks (value_at (nodes_of c.args.set.now) c.args.c.p) c.args.c.g c.in-One.t m.0 m.1.0,
        (m.1.1, c.requires.1.1.1),
      ),
    )

pub returns-in-One : goal.returns-in-One
returns-in-One c =
    let m = subst (λ (x : Masking).
    MasksReady (nodes_of c.args.set.now) (value_at (nodes_of c.args.set.now) c.args.c.p) c.args.c.g x)
    c.in-One.is c.requires.1.1.0 in
    rw (c.in-One.is, ← c.pixels_of-pixels.ensures, ← pair_values c.in-One.t m.0, ← c.to_le_bytes-one.ensures)
    c.count_masked-in-One.ensures
