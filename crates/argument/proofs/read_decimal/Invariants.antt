-- The invariant: what was read, with the bytes that are left, is what all bytes say.
use Rattle.std.proofs.Common.{◌≡◌, ◌≤◌, length, drop}
use Rattle.std.specs.Prelude.{Ok}
use Rattle.argument.specs.Digits.{with_bytes, argument_of}
use Rattle.argument.proofs.read_decimal.Given as goal

abbrev pub invariant-loop-c : goal.invariant-loop-c
invariant-loop-c l = (l.c-index ≤ length l.text) × (with_bytes (Ok l.n) (drop l.c-index l.text) ≡ argument_of l.text)
