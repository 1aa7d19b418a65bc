-- Each field has as many bytes as the layout gives it, so a slip has 17; written over a buffer, it replaces the first 17.
use mathlib.Core.Path.{◌≡◌, refl}
use Prim.Native.Nat.{ℕ, ◌≤◌}
use mathlib.Core.List.{List, ◌++◌}
use lib.ListN.{length, drop}
use lib.Seq.{sets, sets-eq}
use Rattle.basics.specs.Bytes.{le}
use Rattle.verdict.specs.declared.Verdict.{Verdict}
use Rattle.slip.specs.Slip.{slip_size, field_bytes, slip_with}

pub length-slip : (v : Verdict) (n : ℕ) → length (slip_with v n) ≡ slip_size
unfolding slip_with field_bytes le
length-slip v n = refl

pub written : (v : Verdict) (n : ℕ) (s : List ℕ) → slip_size ≤ length s → sets s 0 (slip_with v n) ≡ slip_with v n ++ drop slip_size s
unfolding slip_with field_bytes le
written v n s h = sets-eq (slip_with v n) s 0 h
