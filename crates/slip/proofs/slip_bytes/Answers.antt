-- Each number of a possible verdict fits its bytes, so the casts keep it, and its bytes are those of the definition.
use Rattle.std.proofs.Common.{◌≡◌, ℕ, ◌/◌, arith}
use native.Mathlib.Nat.{mod-eq_of_lt}
use Rattle.verdict.proofs.Bounds.{possible-small}
use Rattle.basics.specs.Bytes.{le}
use Rattle.slip.specs.Slip.{slip_with, field_bytes}
use Rattle.slip.proofs.slip_bytes.Goals as goal

-- The third and the fourth byte of a number.
third : (x : ℕ) → x / 65536 ≡ x / 256 / 256
third x = omega arith

fourth : (x : ℕ) → x / 16777216 ≡ x / 256 / 256 / 256
fourth x = omega arith

pub overflow_cast-v : goal.overflow_cast-v
overflow_cast-v c = record { fits = (possible-small c.args.v c.requires.0).frame }

pub overflow_cast-v-2 : goal.overflow_cast-v-2
overflow_cast-v-2 c = record { fits = (possible-small c.args.v c.requires.0).offset }

pub overflow_cast-result : goal.overflow_cast-result
overflow_cast-result c = record { fits = (possible-small c.args.v c.requires.0).code }

pub overflow_cast-result-2 : goal.overflow_cast-result-2
overflow_cast-result-2 c = record { fits = (possible-small c.args.v c.requires.0).rule }

pub returns : goal.returns
unfolding slip_with field_bytes le
returns c =
    let small = possible-small c.args.v c.requires.0 in
    rw (
      c.to_le_bytes.ensures,
      c.to_le_bytes-2.ensures,
      c.to_le_bytes-3.ensures,
      c.to_le_bytes-4.ensures,
      mod-eq_of_lt small.code,
      mod-eq_of_lt small.rule,
      third c.args.v.offset,
      fourth c.args.v.offset,
      third c.args.n,
      fourth c.args.n,
    )
