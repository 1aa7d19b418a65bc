-- What a verdict says: a data set is accepted exactly when every rule holds at every frame at which it is asked;
-- otherwise the rule that is named is broken at the frame that is named, every earlier rule holds everywhere, and the named
-- rule holds at every lower frame.
use mathlib.Core.Path.{◌≡◌, refl, sym, ◌∙◌, subst}
use mathlib.Core.Bool.{Bool, true, false, cond}
use mathlib.Core.List.{List}
use mathlib.Core.Logic.{⊎_elim}
use Prim.Native.Nat.{ℕ, zero, suc, ◌+◌, ◌<◌, ◌≤◌}
use native.Mathlib.Nat.{eq-or-lt_of_le}
use native.Mathlib.Omega.{arith}
use Rattle.node.specs.Nodes.{Node}
use Rattle.verdict.specs.Verdict.{last_rule}
use Rattle.rules.specs.All.{rule_at}
use Rattle.conformance.specs.declared.Finding.{Finding}
use Rattle.conformance.specs.declared.Finding.TheVariants.{Accepted, Broken}
use Rattle.conformance.specs.Demand2.{HoldsAt, Holds, AllHold, Broke}
use Rattle.conformance.specs.Judging.{first_frame, frame_count, lowest, first_broken, finding_of}

module _ (ns : List Node) where
  nothing : (rule f e : ℕ) → e ≤ f → HoldsAt ns rule f e
  nothing rule f e h g a b = absurd (omega arith)

  one_more : (rule f e : ℕ) → rule_at ns rule f ≡ true → HoldsAt ns rule (f + 1) e → HoldsAt ns rule f e
  one_more rule f e h w g a b =
      ⊎_elim (λ (q : f ≡ g). subst (λ (x : ℕ). rule_at ns rule x ≡ true) q h) (λ (l : f < g). w g (omega arith) b) (eq-or-lt_of_le a)

  -- The frames of one rule: it is broken at a lowest frame, or at none and what comes after is found.
  data Frames (after found : Finding) (rule f e : ℕ) : Type 0 where
    hit : (g : ℕ) → f ≤ g → g < e → rule_at ns rule g ≡ false → HoldsAt ns rule f g → found ≡ Broken rule g → Frames after found rule f e
    miss : HoldsAt ns rule f e → found ≡ after → Frames after found rule f e

  frames : (after : Finding) (rule k f : ℕ) → Frames after (lowest ns rule k f after) rule f (f + k)
  unfolding lowest
  frames after rule zero f = miss (nothing rule f (f + 0) (omega arith)) refl
  frames after rule (suc k) f = go (rule_at ns rule f) refl (frames after rule k (f + 1))
    where
      go : (t : Bool) → rule_at ns rule f ≡ t → Frames after (lowest ns rule k (f + 1) after) rule (f + 1) (f + 1 + k)
          → Frames after (cond t (lowest ns rule k (f + 1) after) (Broken rule f)) rule f (f + suc k)
      go false e r = hit f (omega arith) (omega arith) e (nothing rule f f (omega arith)) refl
      go true e (hit g a b h w q) = hit g (omega arith) (omega arith) h (one_more rule f g e w) q
      go true e (miss w q) =
          let c : f + 1 + k ≡ f + suc k = omega arith in
          miss (one_more rule f (f + suc k) e (subst (λ (x : ℕ). HoldsAt ns rule (f + 1) x) c w)) q

  next-rule : (q e : ℕ) → Holds ns q → AllHold ns (q + 1) e → AllHold ns q e
  next-rule q e h w p a b =
      ⊎_elim (λ (s : q ≡ p). subst (λ (x : ℕ). Holds ns x) s h) (λ (l : q < p). w p (omega arith) b) (eq-or-lt_of_le a)

-- A finding over the rules from q up to e.
pub data Found (ns : List Node) (found : Finding) (q e : ℕ) : Type 0 where
  broken : (rule frame : ℕ) → q ≤ rule → rule < e → first_frame rule ≤ frame → frame < first_frame rule + frame_count ns rule
      → rule_at ns rule frame ≡ false → HoldsAt ns rule (first_frame rule) frame → AllHold ns q rule → found ≡ Broken rule frame
      → Found ns found q e
  sound : AllHold ns q e → found ≡ Accepted → Found ns found q e

judged-from : (ns : List Node) (k q : ℕ) → Found ns (first_broken ns k q) q (q + k)
unfolding first_broken
judged-from ns zero q = sound (λ p a b. absurd (omega arith)) refl
judged-from ns (suc k) q = go (frames ns (first_broken ns k (q + 1)) q (frame_count ns q) (first_frame q)) (judged-from ns k (q + 1))
  where
    go : {v : Finding} → Frames ns (first_broken ns k (q + 1)) v q (first_frame q) (first_frame q + frame_count ns q)
        → Found ns (first_broken ns k (q + 1)) (q + 1) (q + 1 + k) → Found ns v q (q + suc k)
    go (hit g a b h w e) r = broken q g (omega arith) (omega arith) a b h w (λ p u v. absurd (omega arith)) e
    go (miss w e) (broken r g a b c d h u z s) = broken r g (omega arith) (omega arith) c d h u (next-rule ns q r w z) (e ∙ s)
    go (miss w e) (sound z s) =
        let same : q + 1 + k ≡ q + suc k = omega arith in
        sound (subst (λ (x : ℕ). AllHold ns q x) same (next-rule ns q (q + 1 + k) w z)) (e ∙ s)

-- The claim, of all rules.
pub judged : (ns : List Node) → Found ns (finding_of ns) 1 (1 + last_rule)
judged ns = judged-from ns last_rule 1

-- Accepted: every rule holds at all its frames.
pub accepted-holds : (ns : List Node) → finding_of ns ≡ Accepted → AllHold ns 1 (1 + last_rule)
accepted-holds ns e = go (judged ns)
  where
    go : Found ns (finding_of ns) 1 (1 + last_rule) → AllHold ns 1 (1 + last_rule)
    go (sound z s) = z
    go (broken r g a b c d h u z s) = let x : ◌≡◌ {A = ℕ} 0 1 = cc in absurd (omega arith)

-- And the other way round: where every rule holds at all its frames, the data set is accepted.
pub holds-accepted : (ns : List Node) → AllHold ns 1 (1 + last_rule) → finding_of ns ≡ Accepted
holds-accepted ns w = go (judged ns)
  where
    clash : true ≡ false → finding_of ns ≡ Accepted
    clash e = let x : ◌≡◌ {A = ℕ} 0 1 = cc in absurd (omega arith)

    go : Found ns (finding_of ns) 1 (1 + last_rule) → finding_of ns ≡ Accepted
    go (sound z s) = s
    go (broken r g a b c d h u z s) = clash (sym (w r a b g c d) ∙ h)

-- Refused: the rule that is named is broken at the frame that is named, it holds at every lower frame, and every earlier rule
-- holds everywhere.
pub broken-first : (ns : List Node) (rule frame : ℕ) → finding_of ns ≡ Broken rule frame → Broke ns rule frame
broken-first ns rule frame e = go (judged ns)
  where
    go : Found ns (finding_of ns) 1 (1 + last_rule) → Broke ns rule frame
    go (sound z s) = let x : ◌≡◌ {A = ℕ} 0 1 = cc in absurd (omega arith)
    go (broken r g a b c d h u z s) =
        let p : rule ≡ r = cc in
        let q : frame ≡ g = cc in
        rw (p, q) (record { low = a; high = omega arith; from = c; below = d; fails = h; lower = u; earlier = z })
