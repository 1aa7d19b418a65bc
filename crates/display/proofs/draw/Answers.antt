-- The plan of an accepted object lacks nothing, so what is painted is the picture of the steps.
use mathlib.Core.Path.{refl, ◌∙◌}
use mathlib.Core.Bool.{true}
use Prim.Native.Nat.{ℕ}
use native.Mathlib.Omega.{arith}
use lib.ListN.{length-replicate}
use Rattle.node.specs.Nodes.{nodes_of}
use Rattle.element.specs.Elements.{value_at}
use Rattle.lines.specs.declared.Shades.{Shades}
use Rattle.lines.specs.Internal.{shades_of}
use Rattle.lines.proofs.Laws.{ideal-filled}
use Rattle.display.proofs.Draws.{painted-shows}
use Rattle.display.proofs.Scenes as scenes
use Rattle.window.specs.Internal.{shade_places}
use Rattle.display.proofs.draw.Goals as goal

pub fill-requires : goal.fill-requires
fill-requires c =
    let ready = c.requires in
    let b = scenes.based c.args.set.now c.args.n c.args.frame ready.object ready.low
    ready.high c.scene_of-c.result c.scene_of-c.ensures in
    (c.plan_for-own.ensures.drawable, (b.shape.stored_some, (b.shape.stored-most, length-replicate {A = ℕ} shade_places 0)))

pub paint-requires : goal.paint-requires
paint-requires c =
    let ready = c.requires in
    let b = scenes.based c.args.set.now c.args.n c.args.frame ready.object ready.low
    ready.high c.scene_of-c.result c.scene_of-c.ensures in (
      c.scene_of-c.ensures.below,
      (
        record { shape = b.shape; inside = b.inside; room = omega (arith, b.size, ready.room) },
        (
          scenes.ready c.args.set.now c.args.n c.args.frame ready.object ready.low
              ready.high c.scene_of-c.result c.scene_of-c.ensures
              c.plan_for-own.result
              c.plan_for-own.ensures,
          (record { drawable = c.plan_for-own.ensures.drawable; shades = λ e. c.fill.ensures }, refl),
        ),
      ),
    )

pub returns : goal.returns
returns c =
    let ready = c.requires in
    let b = scenes.based c.args.set.now c.args.n c.args.frame ready.object ready.low
    ready.high c.scene_of-c.result c.scene_of-c.ensures in
    let t : Shades = record {
      window = c.plan_for-own.result.window;
      inverse = c.scene_of-c.result.inverse;
      filled = true;
    } in
    let s = painted-shows (nodes_of c.args.set.now) c.args.frame c.args.n c.scene_of-c.result.g
    (value_at (nodes_of c.args.set.now) c.scene_of-c.result.p) c.plan_for-own.result.window
    c.scene_of-c.result.inverse c.scene_of-c.ensures.geometry (scenes.pixels-are c.args.set.now
    c.args.n c.args.frame ready.object ready.low ready.high
    c.scene_of-c.result c.scene_of-c.ensures).is b.inside c.plan_for-own.ensures.window-is
    c.plan_for-own.ensures.drawable c.scene_of-c.ensures.inverse-is b.each b.shape.stored_some
    (shades_of t c.scene_of-c.result.g.stored)
    (ideal-filled t c.scene_of-c.result.g.stored b.shape.stored-most) c.args.image.now
    (omega (arith, b.size, ready.room)) c.plan_for-own.result.masking
    c.plan_for-own.ensures.masking-is (scenes.all c.args.set.now c.args.n c.args.frame ready.object
    ready.low ready.high c.scene_of-c.result
    c.scene_of-c.ensures).mask in record {
      value = c.paint.ensures.value ∙ s.masked-is;
      image_after = c.paint.ensures.image_after ∙ s.image-is;
    }
