-- The numbers of every answer of `write_canonical` fit 32 bits, since it writes no more than was read.
use mathlib.Core.List.{List}
use Prim.Native.Nat.{ℕ}
use native.Mathlib.Omega.{arith}
use Rattle.canonical.specs.Answer.{canonical_of, fields_of}
use Rattle.canonical.proofs.Theorems.{canonical-small}
use Rattle.c_canonical.specs.Internal.{RewrittenFits32}

pub canonical-fits : (s rows target : List ℕ) → RewrittenFits32 (fields_of (canonical_of s rows target))
canonical-fits s rows target =
    let m = canonical-small s rows target in
    record {
      code = omega (arith, m.code);
      offset = omega (arith, m.offset);
      rows = omega (arith, m.rows);
      size = omega (arith, m.size);
    }
