-- The counts are those of frames a to b, and the other numbers follow from the counts; no count is large enough for the sum to wrap.
use Prim.Native.Nat.{ℕ}
use lib.ListN.{length-replicate}
use Rattle.window.specs.Internal.{shade_places}
use Rattle.pixel.specs.Internal.{longest_row}
use Rattle.sheet.proofs.Sampling as sampling
use native.Mathlib.Omega.{arith}
use Rattle.sheet.proofs.sample_frames.Goals as goal

pub scene_of-c-requires : goal.scene_of-c-requires
scene_of-c-requires c =
    c.requires.0

pub items_from-start-requires : goal.items_from-start-requires
items_from-start-requires c =
    c.requires.1.0

pub count_all-done-requires : goal.count_all-done-requires
count_all-done-requires c = (
  record {
    object = c.requires.0;
    scene = c.scene_of-c.ensures;
    items = c.items_from-start.ensures;
    low = c.requires.1.0;
    order = c.requires.1.1.0;
    high = c.requires.1.1.1;
  },
  record {
    shades = length-replicate {A = ℕ} shade_places 0;
    above = omega (arith, length-replicate {A = ℕ} longest_row 0);
    below = omega (arith, length-replicate {A = ℕ} longest_row 0);
    wide = omega (arith, length-replicate {A = ℕ} 65535 0);
  },
)

pub weighted-requires : goal.weighted-requires
weighted-requires c =
    sampling.few-counts c.args.set.now c.args.n c.args.a c.args.b c.requires.0
    c.requires.1.0 c.requires.1.1.0 c.requires.1.1.1 _ c.scene_of-c.ensures _
    c.count_all-done.ensures.0

pub returns : goal.returns
returns c =
    sampling.made c.args.set.now c.args.n c.args.a c.args.b c.requires.0 c.requires.1.0
    c.requires.1.1.0 c.requires.1.1.1 _ _ _ _ _ c.count_all-done.ensures.0
    c.count_all-done.ensures.1 c.first_drawn.ensures c.last_drawn.ensures
    c.weighted.ensures
