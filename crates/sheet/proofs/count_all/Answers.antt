-- What applies to each frame and what the shared group names are worked out ahead, and are all that counting the frames asks for.
use mathlib.Core.Path.{◌∙◌}
use Prim.Native.Nat.{ℕ}
use native.Mathlib.Omega.{arith}
use lib.ListN.{length-replicate}
use Rattle.display.proofs.Scenes as scenes
use Rattle.sheet.proofs.Scenes as counted
use Rattle.sheet.proofs.count_all.Goals as goal

pub apply_all-requires : goal.apply_all-requires
apply_all-requires c = (
  record {
    few = omega (arith, scenes.few-frames c.args.set.now c.args.n c.requires.0.object);
    marks = omega (arith, c.requires.1.above);
    frames = omega (
      arith,
      scenes.few-frames c.args.set.now c.args.n
          c.requires.0.object,
      length-replicate {A = ℕ} 65536 0,
    );
  },
  counted.answering c.args.set.now c.args.n c.requires.0.object,
)

pub count_frames-requires : goal.count_frames-requires
count_frames-requires c = (
  c.requires.0,
  (
    record {
      shades = c.requires.1.shades;
      above = omega (arith, c.upper-1.given, c.requires.1.above);
      below = c.requires.1.below;
      wide = c.requires.1.wide;
    },
    record {
      applied = c.apply_all.ensures;
      size = omega (
        arith,
        c.which-2-1.given,
        length-replicate {A = ℕ} 65536 0,
        scenes.few-frames c.args.set.now c.args.n c.requires.0.object,
      );
      is-known = c.tell_all-known.ensures;
    },
  ),
)

pub shape_of-upper : goal.shape_of-upper
shape_of-upper c =
    c.upper-2-1.given ∙ c.upper-1.given

pub returns : goal.returns
returns c =
    c.count_frames.ensures
