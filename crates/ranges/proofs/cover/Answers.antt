-- How far the pairs reach at a frame is the largest mark up to it, and each frame is taken or left by that number.
use mathlib.Core.Path.{◌≡◌, refl, sym, ap, ◌∙◌}
use Prim.Native.Nat.{ℕ, ◌+◌, ◌-◌, max}
use native.Mathlib.Omega.{arith}
use lib.Dec.{leb}
use lib.ListN.{get_or}
use Rattle.ranges.specs.Internal.{taken_by, far_of}
use Rattle.ranges.proofs.Reach as reaching
use Rattle.ranges.proofs.Tables as tables
use Rattle.ranges.proofs.cover.Goals as goal

pub loop-frame-init : goal.loop-frame-init
unfolding far_of
loop-frame-init c =
    record { far = refl; done = λ i a b. absurd (omega arith); rest = λ i h. refl }

pub loop-frame-preserved : goal.loop-frame-preserved
loop-frame-preserved c =
    let f = c.loop-frame.frame in
    let far : c.max-far.result ≡ far_of c.args.reach.now f = c.max-far.ensures
    ∙ (ap (λ (x : ℕ). max x (get_or c.args.reach.now f 0)) c.loop-frame.invariant.far
    ∙ reaching.far-next c.args.reach.now f c.loop-frame.auto.frame) in
    let e : f + 1 - 1 ≡ f = omega arith in
    record {
      far = far ∙ ap (far_of c.args.reach.now) (sym e);
      done = tables.done_more (λ i. leb i (far_of c.args.reach.now i)) c.args.item f c.args.which.now
          c.loop-frame.which c.taken.result
          (omega (arith, c.loop-frame-test.true, c.requires.frames, c.loop-frame.auto.which))
          (c.taken.ensures ∙ ap (λ (x : ℕ). taken_by (get_or c.loop-frame.which f 0) (leb f x) c.args.item) far)
          (c.loop-frame.invariant.rest f (omega arith)) c.loop-frame.invariant.done;
      rest = tables.rest_more
          (λ i. leb i (far_of c.args.reach.now i)) c.args.item f c.args.which.now c.loop-frame.which
          c.taken.result c.loop-frame.invariant.rest;
    }
