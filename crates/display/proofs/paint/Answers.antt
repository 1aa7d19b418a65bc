-- Each way to mask a frame is painted by its own function.
use mathlib.Core.Path.{refl, subst}
use Rattle.node.specs.Nodes.{nodes_of}
use Rattle.element.specs.Elements.{value_at}
use Rattle.display.specs.declared.Masking.{Masking}
use Rattle.display.specs.Internal.{MasksReady}
use Rattle.display.proofs.Paints.{pair_values, pair-masks}
use Rattle.display.proofs.paint.Goals as goal

pub paint_masked-requires-in-One : goal.paint_masked-requires-in-One
paint_masked-requires-in-One c =
    let r = subst (λ (x : Masking).
    MasksReady (nodes_of c.args.set.now) (value_at (nodes_of c.args.set.now) c.args.p) c.args.g x)
    c.in-One.is c.requires.1.1.0 in
    rw (c.value-pixels.ensures, c.to_le_bytes-one.ensures) (
      c.requires.1.0,
      (
        pair-masks (value_at (nodes_of c.args.set.now) c.args.p) c.args.g c.in-One.t
            r.0 r.1.0,
        (r.1.1, c.requires.1.1.1),
      ),
    )

pub returns-in-One : goal.returns-in-One
returns-in-One c =
    let r = subst (λ (x : Masking).
    MasksReady (nodes_of c.args.set.now) (value_at (nodes_of c.args.set.now) c.args.p) c.args.g x)
    c.in-One.is c.requires.1.1.0 in rw (c.in-One.is, ← c.value-pixels.ensures, ← pair_values c.in-One.t r.0, ← c.to_le_bytes-one.ensures) record {
      value = refl;
      image_after = c.paint_masked-in-One.ensures;
    }
