-- Reading digits from the left: no byte after the one that decides why there is no number changes that.
use Rattle.std.proofs.Common.{◌≡◌, ℕ, List, [], ◌∷◌, ◌<◌, suc, length, drop, get_or, refl, ap, ◌∙◌}
use Rattle.std.specs.Prelude.{Result, Err, Ok}
use Rattle.std.proofs.Math.Seq.{drop-cons}
use Rattle.argument.specs.declared.DecimalError.{DecimalError}
use Rattle.argument.specs.Digits.{with_byte, with_bytes}

pub refused : (e : DecimalError) (s : List ℕ) → Err e ≡ with_bytes (Err e) s
refused e [] = refl
refused e (c ∷ s) = refused e s

pub ends : (s : List ℕ) (i n : ℕ) (e : DecimalError) (all : Result ℕ DecimalError) → i < length s
    → Err e ≡ with_byte (Ok n) (get_or s i 0) → with_bytes (Ok n) (drop i s) ≡ all → Err e ≡ all
ends s i n e all h byte before =
    refused e (drop (suc i) s) ∙ ap (λ r. with_bytes r (drop (suc i) s)) byte ∙ (rw (drop-cons s i 0 h) at before)
