-- A possible verdict's fields are small: code and rule take 8 bits, the frame 16, the offset and the row count 32. Each of
-- the three kinds of possible verdict bounds every field, and the code bounds the count.
use Rattle.std.specs.Prelude.{Option, Some}
use mathlib.Core.Path.{◌≡◌, subst}
use mathlib.Core.Bool.{Bool, true, false, cond, ◌&&◌, ◌||◌}
use mathlib.Core.Logic.{⊎_elim}
use Prim.Native.Nat.{ℕ, ◌<◌, ◌≤◌}
use native.Mathlib.Omega.{arith}
use borrow.Author.Tests.{eqb-true, leb-true}
use lib.Dec.{eqb, leb}
use Rattle.basics.specs.Limits.{most_rows, last_frame}
use Rattle.verdict.specs.declared.Verdict.{Verdict}
use Rattle.verdict.specs.Verdict.{per_frame, frame_fits, last_rule, last_offset, alone, possible_plain, possible_refusal}
use Rattle.verdict.specs.Verdict.{possible_breach, fields_fit, count_fits, rows_fit, possible}
use Rattle.basics.proofs.Tests.{and_both, or-either}

pub record Small (v : Verdict) : Type 0 where
  pub code : v.code < 256
  pub rule : v.rule < 256
  pub frame : v.frame < 65536
  pub offset : v.offset < 4294967296

plain_code : (n : ℕ) → (eqb n 0 || (eqb n 7 || eqb n 8)) ≡ true → n ≤ 8
plain_code n e =
    ⊎_elim (λ a. omega (arith, eqb-true n 0 a))
    (λ b. ⊎_elim (λ c. omega (arith, eqb-true n 7 c)) (λ d. omega (arith, eqb-true n 8 d)) (or-either (eqb n 7) (eqb n 8) b))
    (or-either (eqb n 0) (eqb n 7 || eqb n 8) e)

plain : (v : Verdict) → possible_plain v ≡ true → Small v
plain v e =
    let a = and_both (eqb v.code 0 || (eqb v.code 7 || eqb v.code 8)) (alone v) e in
    let b = and_both (eqb v.rule 0) (eqb v.frame 0 && eqb v.offset 0) a.1 in
    let d = and_both (eqb v.frame 0) (eqb v.offset 0) b.1 in
    record {
      code = omega (arith, plain_code v.code a.0);
      rule = omega (arith, eqb-true v.rule 0 b.0);
      frame = omega (arith, eqb-true v.frame 0 d.0);
      offset = omega (arith, eqb-true v.offset 0 d.1);
    }

refusal : (v : Verdict) → possible_refusal v ≡ true → Small v
refusal v e =
    let a = and_both (leb 1 v.code && leb v.code 6) ((eqb v.rule 0 && eqb v.frame 0) && leb v.offset last_offset) e in
    let k = and_both (leb 1 v.code) (leb v.code 6) a.0 in
    let b = and_both (eqb v.rule 0 && eqb v.frame 0) (leb v.offset last_offset) a.1 in
    let d = and_both (eqb v.rule 0) (eqb v.frame 0) b.0 in
    record {
      code = omega (arith, leb-true v.code 6 k.1);
      rule = omega (arith, eqb-true v.rule 0 d.0);
      frame = omega (arith, eqb-true v.frame 0 d.1);
      offset = omega (arith, leb-true v.offset last_offset b.1);
    }

breach-frame : (b : Bool) (n : ℕ) → cond b (leb 1 n && leb n last_frame) (eqb n 0) ≡ true → n ≤ last_frame
breach-frame true n e = leb-true n last_frame (and_both (leb 1 n) (leb n last_frame) e).1
breach-frame false n e = omega (arith, eqb-true n 0 e)

breach : (v : Verdict) → possible_breach v ≡ true → Small v
unfolding frame_fits
breach v e =
    let a = and_both (eqb v.code 9)
    ((leb 1 v.rule && leb v.rule last_rule) && (frame_fits v.rule v.frame && eqb v.offset 0)) e in
    let b = and_both (leb 1 v.rule && leb v.rule last_rule) (frame_fits v.rule v.frame && eqb v.offset 0) a.1 in
    let k = and_both (leb 1 v.rule) (leb v.rule last_rule) b.0 in
    let d = and_both (frame_fits v.rule v.frame) (eqb v.offset 0) b.1 in
    record {
      code = omega (arith, eqb-true v.code 9 a.0);
      rule = omega (arith, leb-true v.rule last_rule k.1);
      frame = omega (arith, breach-frame (per_frame v.rule) v.frame d.0);
      offset = omega (arith, eqb-true v.offset 0 d.1);
    }

fields-small : (v : Verdict) → fields_fit v ≡ true → Small v
unfolding fields_fit
fields-small v e =
    ⊎_elim (plain v)
    (λ r. ⊎_elim (refusal v) (breach v) (or-either (possible_refusal v) (possible_breach v) r))
    (or-either (possible_plain v) (possible_refusal v || possible_breach v) e)

count_small : (b : Bool) (n : ℕ) → cond b (leb n most_rows) (eqb n 0) ≡ true → n ≤ most_rows
count_small true n e = leb-true n most_rows e
count_small false n e = omega (arith, eqb-true n 0 e)

-- The two parts of being possible.
pub possible-parts : (v : Verdict) → possible v ≡ true → (fields_fit v ≡ true) × (rows_fit v.code v.rows ≡ true)
unfolding possible
possible-parts v e = and_both (fields_fit v) (rows_fit v.code v.rows) e

pub possible-small : (v : Verdict) → possible v ≡ true → Small v
possible-small v e = fields-small v (possible-parts v e).0

-- A possible verdict's count, where it is known, is at most 134,217,728.
pub possible-rows : (v : Verdict) (n : ℕ) → possible v ≡ true → v.rows ≡ Some n → n ≤ most_rows
unfolding count_fits
possible-rows v n e k =
    count_small (eqb v.code 0 || eqb v.code 9) n (subst (λ (r : Option ℕ). rows_fit v.code r ≡ true) k (possible-parts v e).1)
