-- The cells of a picture are the shades of its samples, so to compare the shades is to compare its cells.
use Prim.Native.Nat.{ℕ}
use mathlib.Core.Bool.{true}
use lib.ListN.{length-replicate}
use Rattle.node.specs.Nodes.{nodes_of}
use Rattle.element.specs.Elements.{value_at}
use Rattle.window.specs.Internal.{shade_places}
use Rattle.pixel.specs.Pixel.{samples_of}
use Rattle.pixel.specs.Internal.{longest_row}
use Rattle.lines.specs.declared.Shades.{Shades}
use Rattle.lines.specs.Internal.{shades_of}
use Rattle.display.specs.Internal.{shade_by}
use Rattle.display.specs.Show.{picture_of}
use Rattle.display.proofs.Planned as planned
use Rattle.differences.specs.Differences.{is_off}
use Rattle.differences.specs.Internal.{along, none_off, Against}
use Rattle.differences.proofs.Places.{met-list}
use mathlib.Core.Path.{refl, sym, ap, ◌∙◌, subst}
use native.Mathlib.Omega.{arith}
use Rattle.compare.proofs.compare_planned.Goals as goal

pub fill-requires : goal.fill-requires
fill-requires c =
    let b = planned.based c.requires.0 in
    (c.requires.0.plan.drawable, (b.shape.stored_some, (b.shape.stored-most, length-replicate {A = ℕ} shade_places 0)))

pub compare_frame-requires : goal.compare_frame-requires
compare_frame-requires c =
    let b = planned.based c.requires.0 in (
      planned.is-pixels c.requires.0,
      (
        record {
          shape = b.shape;
          inside = b.inside;
          shaded = record { drawable = c.requires.0.plan.drawable; shades = λ e. c.fill.ensures };
          above = omega (arith, length-replicate {A = ℕ} longest_row 0);
          below = omega (arith, length-replicate {A = ℕ} longest_row 0);
          wide = omega (arith, length-replicate {A = ℕ} 65535 0);
        },
        (
          planned.masks-ready c.requires.0,
          subst (λ (k : ℕ). Against c.args.cells.now c.args.tolerance k) (sym b.size) c.requires.1,
        ),
      ),
    )

pub returns : goal.returns
returns c =
    let b = planned.based c.requires.0 in
    let t : Shades = record { window = c.args.own.window; inverse = c.args.c.inverse; filled = true } in
    let d = planned.picture c.requires.0 t refl refl in
    c.compare_frame.ensures
    ∙ (met-list c.args.tolerance (shade_by (nodes_of c.args.set.now) (shades_of t c.args.c.g.stored)
    c.args.c.g (value_at (nodes_of c.args.set.now) c.args.c.p) c.args.frame
    c.args.own.masking) c.args.cells.now (picture_of (nodes_of c.args.set.now) c.args.frame).samples
    (samples_of c.args.c.g) d.cells ∙ ap (λ (k : ℕ). along (is_off c.args.tolerance
    (picture_of (nodes_of c.args.set.now) c.args.frame).samples c.args.cells.now) 0 k none_off) b.size)
