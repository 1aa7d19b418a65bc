-- No count is above 2^48, so that 256 products with a level add up to less than 2^64.
use Prim.Native.Nat.{ℕ, ◌+◌, ◌*◌}
use lib.ListN.{get_or}
use native.Mathlib.Nat.{mul-le-mul}
use Rattle.sheet.specs.Sampling.{total}
use Rattle.sheet.proofs.Counts.{total-more, total-most}
use mathlib.Core.Path.{refl, ap, ◌∙◌}
use native.Mathlib.Omega.{arith}
use Rattle.sheet.proofs.weighted.Goals as goal

pub loop-y-init : goal.loop-y-init
unfolding total
loop-y-init c =
    refl

pub overflow_add-sum : goal.overflow_add-sum
overflow_add-sum c =
    record {
      fits = omega (
        arith,
        c.loop-y.invariant,
        total-most (λ i. i * get_or c.args.counts i 0)
            c.loop-y.y 71776119061217280 (λ i h. mul-le-mul {n₁ = i} {m₁ = get_or c.args.counts i 0} {n₂ = 255}
            {m₂ = 281474976710656} (omega (arith, h, c.loop-y-test.true)) (c.requires.below i)),
        mul-le-mul
            {n₁ = c.loop-y.y} {m₁ = get_or c.args.counts c.loop-y.y 0} {n₂ = 255} {m₂ = 281474976710656}
            (omega (arith, c.loop-y-test.true)) (c.requires.below c.loop-y.y),
      );
    }

pub loop-y-preserved : goal.loop-y-preserved
loop-y-preserved c =
    ap (λ (s : ℕ). s + c.loop-y.y * get_or c.args.counts c.loop-y.y 0) c.loop-y.invariant
    ∙ total-more (λ i. i * get_or c.args.counts i 0) c.loop-y.y
