-- The cells of a picture are the shades of its samples, so to count the shades is to count its levels.
use Prim.Native.Nat.{ℕ, ◌+◌}
use mathlib.Core.Bool.{Bool, cond}
use mathlib.Core.List.{List}
use Rattle.pixel.proofs.Laws.{cells_fit}
use Rattle.display.specs.Internal.{is_masked}
use Rattle.sheet.specs.Internal.{tallied}
use Rattle.display.proofs.Planned as planned
use Rattle.sheet.proofs.Scenes as counted
use Rattle.sheet.proofs.Frames.{one-most}
use mathlib.Core.Path.{sym, ap, ◌∙◌}
use native.Mathlib.Omega.{arith}
use Rattle.sheet.proofs.count_picture.Goals as goal

pub overflow_mul-c : goal.overflow_mul-c
overflow_mul-c c =
    let b = planned.based c.requires.0 in
    omega (
      arith,
      cells_fit 0 c.args.c.g.rows c.args.c.g.columns 0 (omega arith) b.shape.rows-most
          b.shape.columns-most (omega arith),
    )

pub shades_for-held-requires : goal.shades_for-held-requires
shades_for-held-requires c =
    let b = planned.based c.requires.0 in (
      c.requires.0.plan.drawable,
      (
        b.shape.stored_some,
        (
          b.shape.stored-most,
          (
            c.requires.1.0.shades,
            (
              omega (
                arith,
                cells_fit 0 c.args.c.g.rows c.args.c.g.columns 0 (omega arith) b.shape.rows-most
                    b.shape.columns-most (omega arith),
              ),
              c.requires.1.1.0,
            ),
          ),
        ),
      ),
    )

pub count_frame-counts-requires : goal.count_frame-counts-requires
count_frame-counts-requires c =
    let b = planned.based c.requires.0 in (
      planned.is-pixels c.requires.0,
      (
        record {
          shape = b.shape;
          inside = b.inside;
          shaded = c.shades_for-held.ensures.1.shaded;
          above = c.requires.1.0.above;
          below = c.requires.1.0.below;
          wide = c.requires.1.0.wide;
        },
        (
          planned.masks-ready c.requires.0,
          counted.room_for c.args.set.now c.args.n c.args.frame c.requires.0.object c.requires.0.low
              c.requires.0.high c.args.c c.requires.0.scene c.args.sofar.counts
              c.requires.1.1.1.1,
        ),
      ),
    )

pub returns : goal.returns
returns c =
    let d = planned.picture c.requires.0 c.shades_for-held.result.shades c.shades_for-held.ensures.0
    c.shades_for-held.ensures.1.inverse-is in (
      c.count_frame-counts.ensures ∙ ap (λ (l : List ℕ). tallied l c.args.sofar.counts) (sym d.cells),
      (
        ap (λ (x : ℕ). x + c.args.sofar.natives) (c.native_number.ensures ∙ ap (λ (m : Bool). cond m 0 1) d.masked-is),
        c.shades_for-held.ensures.1,
      ),
    )
