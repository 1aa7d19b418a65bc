-- 2^17 is far from wrapping.
use Rattle.std.proofs.Common.{arith}
use native.Mathlib.Nat.{one-le-pow}
use Rattle.window.proofs.Laws.{power_small}
use Rattle.window.proofs.power.Goals as goal

pub returns : goal.returns
returns c = omega (arith, one-le-pow c.args.n 2 (omega arith), power_small c.args.n 17 c.requires)
