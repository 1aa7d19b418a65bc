-- The search over rules and frames, at the counts that the loops have.
use mathlib.Core.Path.{◌≡◌, refl, sym, ap, ◌∙◌, subst}
use mathlib.Core.Bool.{Bool, true, false, cond, true≢false}
use mathlib.Core.List.{List}
use Prim.Native.Nat.{ℕ, zero, suc, ◌+◌, ◌-◌, ◌<◌, ◌≤◌}
use native.Mathlib.Omega.{arith}
use lib.ListN.{drop}
use lib.Seq.{drop-drop}
use lib.Dec.{eqb, leb}
use borrow.Author.Tests.{le-leb, leb-true, leb-false, eqb-true, eqb-false}
use Rattle.value.specs.Number.{number_or0}
use Rattle.verdict.specs.Verdict.{last_rule, per_frame}
use Rattle.node.specs.Nodes.{Node, members}
use Rattle.element.specs.declared.Items.{Items}
use Rattle.element.specs.Internal.{Along}
use Rattle.element.specs.Frames.{frames_of, frame_items}
use Rattle.rules.specs.All.{rule_at}
use Rattle.conformance.specs.declared.Finding.{Finding}
use Rattle.conformance.specs.declared.Finding.TheVariants.{Accepted, Broken}
use Rattle.conformance.specs.Judging.{first_frame, frame_count, lowest, first_broken}
use Rattle.conformance.specs.Internal.{end_rule, end_frame, Asked}

-- ---- Which rules are asked once

is-per-frame-range : (rule : ℕ) → 27 ≤ rule → rule ≤ 30 → per_frame rule ≡ true
unfolding per_frame
is-per-frame-range rule a b = rw (le-leb 27 rule a, le-leb rule 30 b)

is-per-frame-37 : per_frame 37 ≡ true
unfolding per_frame
is-per-frame-37 = refl

is-per-frame-39 : per_frame 39 ≡ true
unfolding per_frame
is-per-frame-39 = refl

-- A rule from 27 on that is asked once is 31 at least, and from 37 on it is 38.
pub once-mask : (rule : ℕ) → per_frame rule ≡ false → 26 < rule → 31 ≤ rule
once-mask rule h l = go (leb rule 30) refl
  where
    go : (b : Bool) → leb rule 30 ≡ b → 31 ≤ rule
    go true e = absurd (true≢false (sym (is-per-frame-range rule (omega arith) (leb-true rule 30 e)) ∙ h))
    go false e = omega (arith, leb-false rule 30 e)

pub once_last : (rule : ℕ) → per_frame rule ≡ false → 36 < rule → rule ≤ last_rule → rule ≡ 38
once_last rule h l m = go (eqb rule 37) refl (eqb rule 39) refl
  where
    not : (k : ℕ) → per_frame k ≡ true → eqb rule k ≡ true → ⊥
    not k p e = true≢false (sym p ∙ subst (λ (x : ℕ). per_frame x ≡ false) (eqb-true rule k e) h)

    go : (b : Bool) → eqb rule 37 ≡ b → (c : Bool) → eqb rule 39 ≡ c → rule ≡ 38
    go true e c f = absurd (not 37 is-per-frame-37 e)
    go false e true f = absurd (not 39 is-per-frame-39 f)
    go false e false f = omega (arith, eqb-false rule 37 e, eqb-false rule 39 f)

-- ---- Frames of a rule

left : (f e : ℕ) → f < e → e - f ≡ suc (e - (f + 1))
left f e h = omega arith

none : (f e : ℕ) → e ≤ f → e - f ≡ zero
none f e h = omega arith

module _ (ns : List Node) (after : Finding) (rule f e : ℕ) where
  pub frames-pass : f < e → rule_at ns rule f ≡ true → lowest ns rule (e - f) f after ≡ lowest ns rule (e - (f + 1)) (f + 1) after
  unfolding lowest
  frames-pass h q = rw (left f e h, q)

  pub frames-hit : f < e → rule_at ns rule f ≡ false → lowest ns rule (e - f) f after ≡ Broken rule f
  unfolding lowest
  frames-hit h q = rw (left f e h, q)

  pub frames-done : e ≤ f → lowest ns rule (e - f) f after ≡ after
  unfolding lowest
  frames-done h = rw (none f e h)

frame-span : (ns : List Node) (rule : ℕ) → frame_count ns rule ≡ end_frame (number_or0 (frames_of ns)) rule - first_frame rule
unfolding frame_count first_frame
frame-span ns rule = go (per_frame rule) (number_or0 (frames_of ns))
  where
    go : (t : Bool) (n : ℕ) → cond t n 1 ≡ cond t (n + 1) 1 - cond t 1 0
    go true n = omega arith
    go false n = refl

rule-left : (r : ℕ) → r < end_rule → end_rule - r ≡ suc (end_rule - (r + 1))
rule-left r h = omega arith

pub rules-start : (ns : List Node) (r : ℕ) → r < end_rule
    → first_broken ns (end_rule - r) r
    ≡ lowest ns r (end_frame (number_or0 (frames_of ns)) r - first_frame r) (first_frame r) (first_broken ns (end_rule - (r + 1)) (r + 1))
unfolding first_broken
rules-start ns r h = rw (rule-left r h, ← frame-span ns r)

pub rules-done : (ns : List Node) (r : ℕ) → end_rule ≤ r → first_broken ns (end_rule - r) r ≡ Accepted
unfolding first_broken
rules-done ns r h = rw (none r end_rule h)

-- ---- The items that are left, at a frame counted from the rule's first

module _ (ns : List Node) where
  pub asked-at : {c : Items} (n rule frame : ℕ) → 1 ≤ rule → rule < end_rule → first_frame rule ≤ frame → frame < end_frame n rule
      → Along ns (drop (frame - first_frame rule) (frame_items ns)) c → Asked ns rule frame c
  unfolding first_frame
  asked-at {c} n rule frame a b f e w =
      record {
        low = a;
        high = omega arith;
        once = λ q. zero-frame (per_frame rule) q e;
        from = λ q. rw (ap {B = ℕ} (λ (t : Bool). cond t 1 0) q) at f;
        along = λ q. rw (ap (λ (t : Bool). frame - cond t 1 0) q) at w;
      }
    where
      zero-frame : (t : Bool) → t ≡ false → frame < cond t (n + 1) 1 → frame ≡ 0
      zero-frame true q l = absurd (true≢false q)
      zero-frame false q l = omega arith

  pub along-start : {c : Items} (a : ℕ) → Along ns (frame_items ns) c → Along ns (drop (a - a) (frame_items ns)) c
  along-start a w =
      let e : a - a ≡ 0 = omega arith in
      rw e w

  pub along-more : {c d : Items} (a frame : ℕ) → a ≤ frame → Along ns (drop (frame - a) (frame_items ns)) c
      → Along ns (drop 1 (members ns c.at c.end)) d → Along ns (drop (frame + 1 - a) (frame_items ns)) d
  along-more {c} {d} a frame h w v =
      let e : frame - a + 1 ≡ frame + 1 - a = omega arith in
      rw (w.ahead, drop-drop 1 (frame - a) (frame_items ns), e) at v
