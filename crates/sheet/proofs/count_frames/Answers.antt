-- The counts so far with the levels of the frames ahead are the counts of all, and there are too few cells for a count to wrap.
use Prim.Native.Nat.{ℕ, ◌+◌, ◌-◌}
use Rattle.node.specs.Nodes.{nodes_of}
use Rattle.display.specs.Show.{image_size, picture_of}
use Rattle.conformance.proofs.Loops.{along-more}
use Rattle.sheet.specs.Sheet.{levels_of, natives_of, counts_of}
use Rattle.sheet.specs.Internal.{tallied}
use Rattle.sheet.proofs.Counts.{counts-are, room-start}
use Rattle.sheet.proofs.Frames as frames
use Rattle.display.proofs.Scenes.{picture-cells, based, few-frames, cells-few}
use mathlib.Core.Path.{◌≡◌, refl, sym, ap, ◌∙◌}
use native.Mathlib.Omega.{arith}
use Rattle.sheet.proofs.count_frames.Goals as goal

pub nothing-sofar-requires : goal.nothing-sofar-requires
nothing-sofar-requires c =
    (based c.args.set.now c.args.n c.args.a c.requires.0.object c.requires.0.low
    (omega (arith, c.requires.0.order, c.requires.0.high)) c.args.c
    c.requires.0.scene).shape.stored-most

pub loop-frame-init : goal.loop-frame-init
loop-frame-init c =
    let z : c.args.b + 1 - c.args.a ≡ c.args.b - c.args.a + 1 = omega (arith, c.requires.0.order) in (
      omega arith,
      (
        omega (arith, c.requires.0.order),
        (
          c.requires.0.items,
          (
            ap (tallied (levels_of (nodes_of c.args.set.now) c.args.a (c.args.b + 1 - c.args.a)))
                c.nothing-sofar.ensures.counts-are
                ∙ (counts-are (levels_of (nodes_of c.args.set.now) c.args.a (c.args.b + 1 - c.args.a))
                ∙ ap (λ (k : ℕ). counts_of (levels_of (nodes_of c.args.set.now) c.args.a k)) z),
            (
              omega (arith, c.nothing-sofar.ensures.natives-are, ap (natives_of (nodes_of c.args.set.now) c.args.a) z),
              (
                room-start _ _ c.nothing-sofar.ensures.counts-are (cells-few c.args.set.now c.args.n
                    c.requires.0.object
                    (omega (arith, c.requires.0.low, c.requires.0.order, c.requires.0.high))
                    c.args.c
                    c.requires.0.scene (c.args.b + 1 - c.args.a)
                    (omega (arith, c.requires.0.high, c.requires.0.low))),
                (c.nothing-sofar.ensures.held-is _, (refl, (refl, (refl, refl)))),
              ),
            ),
          ),
        ),
      ),
    )

pub item_here-item-requires : goal.item_here-item-requires
item_here-item-requires c =
    (c.loop-frame.invariant.1.1.0, omega (arith, c.loop-frame.invariant.0, c.requires.0.low))

pub plan_at-own-requires : goal.plan_at-own-requires
plan_at-own-requires c = (
  c.requires.0.object,
  (
    c.requires.0.scene,
    (
      c.item_here-item.ensures,
      (
        omega (arith, c.loop-frame.invariant.0, c.requires.0.low),
        (omega (arith, c.loop-frame-test.true, c.requires.0.high), c.requires.1.1),
      ),
    ),
  ),
)

pub count_picture-next-requires : goal.count_picture-next-requires
count_picture-next-requires c = (
  record {
    object = c.requires.0.object;
    scene = c.requires.0.scene;
    plan = c.plan_at-own.ensures;
    low = omega (arith, c.loop-frame.invariant.0, c.requires.0.low);
    high = omega (arith, c.loop-frame-test.true, c.requires.0.high);
  },
  (
    record {
      shades = c.loop-frame.invariant.1.1.1.1.1.1.1.0 ∙ c.requires.1.0.shades;
      above = omega (arith, c.loop-frame.invariant.1.1.1.1.1.1.1.1.0, c.requires.1.0.above);
      below = omega (arith, c.loop-frame.invariant.1.1.1.1.1.1.1.1.1.0, c.requires.1.0.below);
      wide = omega (arith, c.loop-frame.invariant.1.1.1.1.1.1.1.1.1.1, c.requires.1.0.wide);
    },
    (
      c.loop-frame.invariant.1.1.1.1.1.1.0,
      (
        omega (
          arith,
          c.loop-frame.invariant.1.1.1.1.0,
          frames.natives-few (nodes_of c.args.set.now) c.args.a (c.args.b - c.args.a + 1),
          few-frames c.args.set.now c.args.n c.requires.0.object,
          c.requires.0.high,
          c.requires.0.low,
        ),
        frames.room-one c.loop-frame.frame (c.args.b + 1)
            (image_size (nodes_of c.args.set.now)) c.loop-frame.sofar.counts c.loop-frame-test.true
            c.loop-frame.invariant.1.1.1.1.1.0,
      ),
    ),
  ),
)

pub advance-items-requires : goal.advance-items-requires
advance-items-requires c =
    c.loop-frame.invariant.1.1.0.inner

pub overflow_step-frame : goal.overflow_step-frame
overflow_step-frame c =
    record {
      fits = omega (
        arith,
        c.loop-frame-test.true,
        c.requires.0.high,
        few-frames c.args.set.now c.args.n c.requires.0.object,
      );
    }

pub loop-frame-preserved : goal.loop-frame-preserved
loop-frame-preserved c =
    let m = picture-cells c.args.set.now c.args.n c.loop-frame.frame c.requires.0.object
    (omega (arith, c.loop-frame.invariant.0, c.requires.0.low))
    (omega (arith, c.loop-frame-test.true, c.requires.0.high)) in (
      omega (arith, c.loop-frame.invariant.0),
      (
        omega (arith, c.loop-frame-test.true),
        (
          along-more (nodes_of c.args.set.now) 1 c.loop-frame.frame
              (omega (arith, c.loop-frame.invariant.0, c.requires.0.low)) c.loop-frame.invariant.1.1.0 c.advance-items.ensures,
          (
            frames.frames-more (nodes_of c.args.set.now) c.loop-frame.frame (c.args.b + 1)
                c.loop-frame.sofar.counts _
                c.loop-frame-test.true c.count_picture-next.ensures.0 ∙ c.loop-frame.invariant.1.1.1.0,
            (
              frames.natives-more (nodes_of c.args.set.now) c.loop-frame.frame (c.args.b + 1)
                  c.loop-frame.sofar.natives
                  _ c.loop-frame-test.true c.count_picture-next.ensures.1.0 ∙ c.loop-frame.invariant.1.1.1.1.0,
              (
                frames.room-rest c.loop-frame.frame (c.args.b + 1) (image_size (nodes_of c.args.set.now))
                    (picture_of (nodes_of c.args.set.now) c.loop-frame.frame).samples c.loop-frame.sofar.counts _
                    c.loop-frame-test.true m c.count_picture-next.ensures.0 c.loop-frame.invariant.1.1.1.1.1.0,
                (
                  c.count_picture-next.ensures.1.1,
                  (
                    c.table-1.given ∙ c.loop-frame.invariant.1.1.1.1.1.1.1.0,
                    (
                      c.upper-1.given ∙ c.loop-frame.invariant.1.1.1.1.1.1.1.1.0,
                      (
                        c.lower-1.given ∙ c.loop-frame.invariant.1.1.1.1.1.1.1.1.1.0,
                        c.line-1.given ∙ c.loop-frame.invariant.1.1.1.1.1.1.1.1.1.1,
                      ),
                    ),
                  ),
                ),
              ),
            ),
          ),
        ),
      ),
    )

pub shape_of-table : goal.shape_of-table
shape_of-table c =
    c.loop-frame.invariant.1.1.1.1.1.1.1.0

pub shape_of-upper : goal.shape_of-upper
shape_of-upper c =
    c.loop-frame.invariant.1.1.1.1.1.1.1.1.0

pub shape_of-lower : goal.shape_of-lower
shape_of-lower c =
    c.loop-frame.invariant.1.1.1.1.1.1.1.1.1.0

pub shape_of-line : goal.shape_of-line
shape_of-line c =
    c.loop-frame.invariant.1.1.1.1.1.1.1.1.1.1

pub returns : goal.returns
returns c = (
  sym (frames.frames-none (nodes_of c.args.set.now) c.loop-frame.frame (c.args.b + 1)
      c.loop-frame.sofar.counts c.loop-frame-test.false) ∙ c.loop-frame.invariant.1.1.1.0,
  sym (frames.natives-none (nodes_of c.args.set.now) c.loop-frame.frame (c.args.b + 1)
      c.loop-frame.sofar.natives c.loop-frame-test.false) ∙ c.loop-frame.invariant.1.1.1.1.0,
)
