-- No product passes 65,535 sixteenths, and neither does their sum 32 bits (`Blend`).
use native.Mathlib.Omega.{arith}
use Rattle.pixel.specs.Pixel.{blend_of}
use Rattle.pixel.proofs.Blend.{products}
use borrow.Author.Rules.{rules}
use Rattle.pixel.proofs.blended.Goals as goal

pub overflow_mul-result : goal.overflow_mul-result
overflow_mul-result c =
    omega (arith, products c.args.block c.args.weights c.requires)

pub overflow_mul-result-2 : goal.overflow_mul-result-2
overflow_mul-result-2 c =
    omega (arith, products c.args.block c.args.weights c.requires)

pub overflow_add-result : goal.overflow_add-result
overflow_add-result c =
    omega (arith, products c.args.block c.args.weights c.requires)

pub overflow_mul-result-3 : goal.overflow_mul-result-3
overflow_mul-result-3 c =
    omega (arith, products c.args.block c.args.weights c.requires)

pub overflow_add-result-2 : goal.overflow_add-result-2
overflow_add-result-2 c =
    omega (arith, products c.args.block c.args.weights c.requires)

pub overflow_mul-result-4 : goal.overflow_mul-result-4
overflow_mul-result-4 c =
    omega (arith, products c.args.block c.args.weights c.requires)

pub overflow_add-result-3 : goal.overflow_add-result-3
overflow_add-result-3 c =
    omega (arith, products c.args.block c.args.weights c.requires)

pub overflow_add-result-4 : goal.overflow_add-result-4
overflow_add-result-4 c =
    omega (arith, products c.args.block c.args.weights c.requires)

pub returns : goal.returns
unfolding blend_of
returns c =
    search rules
