-- Each turn puts one byte, and what is left of the bytes goes behind it.
use Rattle.canonical.proofs.Puts.{Left}
use Rattle.canonical.proofs.put_bytes.Given as goal

abbrev pub invariant-loop-i : goal.invariant-loop-i
invariant-loop-i l =
    Left l.initial.target l.at l.bytes l.target l.i
