-- A slip that reads well is a possible verdict: so all its numbers fit 32 bits.
use Rattle.std.specs.Prelude.{Option, Some, None, Result, Ok}
use mathlib.Core.Path.{◌≡◌, refl, sym, ◌∙◌}
use mathlib.Core.Bool.{true}
use mathlib.Core.List.{List}
use Prim.Native.Nat.{ℕ, ◌<◌}
use native.Mathlib.Omega.{arith}
use Rattle.verdict.specs.Verdict.{possible}
use Rattle.verdict.specs.declared.Verdict.{Verdict}
use Rattle.verdict.proofs.Bounds.{possible-small, possible-rows}
use Rattle.slip.specs.declared.SlipError.{SlipError}
use Rattle.slip.specs.Slip.{read_of}
use Rattle.slip.proofs.Slips.{slips}
use Rattle.c_slips.specs.Slips.{rows_number}
use Rattle.c_slips.specs.Internal.{VerdictFits32}

-- A count that is not known is handed over as the greatest number of 32 bits.
rows-narrow : (v : Verdict) → possible v ≡ true → rows_number v.rows < 4294967296
rows-narrow v h = go v.rows refl
  where
    go : (r : Option ℕ) → v.rows ≡ r → rows_number r < 4294967296
    go (Some n) e = omega (arith, possible-rows v n h e)
    go None e = omega arith

pub slip-narrow : {a : Result Verdict SlipError} {v : Verdict} (s : List ℕ) → a ≡ read_of s → a ≡ Ok v → VerdictFits32 v
slip-narrow {a} {v} s e f =
    let can = slips.read-possible s v (sym e ∙ f) in
    let m = possible-small v can in
    record {
      code = omega (arith, m.code);
      rule = omega (arith, m.rule);
      frame = omega (arith, m.frame);
      offset = m.offset;
      rows = rows-narrow v can;
    }
