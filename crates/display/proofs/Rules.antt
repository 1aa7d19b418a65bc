-- The rules of an accepted object hold, each at the frames at which it is asked, because no rule is found broken. What a rule asks at a
-- frame it asks of the shared item and the frame's item, so that both are there.
use Rattle.std.specs.Prelude.{Option, Some, None}
use mathlib.Core.Path.{◌≡◌, refl}
use mathlib.Core.Bool.{Bool, true, false}
use mathlib.Core.List.{List}
use Prim.Native.Nat.{ℕ, ◌≤◌}
use native.Mathlib.Omega.{arith}
use Rattle.verdict.specs.Verdict.{last_rule, per_frame}
use Rattle.node.specs.Nodes.{Node, inside}
use Rattle.node.specs.Find.{holds, or_else, find}
use Rattle.node.proofs.Tests.{holds-is}
use Rattle.element.specs.Frames.{frames_of, shared_item, frame_item, group_of}
use Rattle.rules.specs.Root.{rule10, rule11, rule12, rule15}
use Rattle.rules.specs.Frame.{at_frame, rule30, rule37}
use Rattle.rules.specs.Mask.{rule31, rule32, rule33, rule34, rule35, rule36}
use Rattle.rules.specs.Pixels.{rule38}
use Rattle.rules.specs.Intensity.{rule39}
use Rattle.rules.specs.All.{rule_list, rule_at}
use Rattle.conformance.specs.declared.Finding.TheVariants.{Accepted}
use Rattle.conformance.specs.Judging.{first_frame, frame_count, finding_of}
use Rattle.conformance.proofs.First.{accepted-holds}
use Rattle.steps.specs.Steps.{or_shared, group_for}

-- ---- Rules that are asked at a frame

-- What is asked of the shared item and of a frame's item: both are there.
pub record AtItems (ns : List Node) (f : ℕ) (asked : ℕ → ℕ → Bool) : Type 0 where
  pub s : ℕ
  pub i : ℕ
  pub shared : shared_item ns ≡ Some s
  pub item : frame_item ns f ≡ Some i
  pub holds : asked s i ≡ true

pub at-items : (ns : List Node) (f : ℕ) (asked : ℕ → ℕ → Bool) → at_frame ns f asked ≡ true → AtItems ns f asked
at-items ns f asked e =
    let a = holds-is (shared_item ns) (λ s. holds (frame_item ns f) (λ i. asked s i)) e in
    let b = holds-is (frame_item ns f) (λ i. asked a.0 i) a.1.1 in
    record { s = a.0; i = b.0; shared = a.1.0; item = b.1.0; holds = b.1.1 }

-- A frame's group, where both items are there.
pub group-is : (ns : List Node) (f tag s i : ℕ) → shared_item ns ≡ Some s → frame_item ns f ≡ Some i
    → group_for ns f tag ≡ Some (group_of ns tag s i)
unfolding group_for
group-is ns f tag s i a b = rw b (go (find ns tag (inside ns i)))
  where
    go : (o : Option ℕ) → or_shared ns tag o ≡ Some (or_else o (find ns tag (inside ns s)))
    go None = rw a
    go (Some g) = refl

-- ---- The rules of an accepted object

module _ (ns : List Node) (ok : finding_of ns ≡ Accepted) where
  at_once : (rule : ℕ) → 1 ≤ rule → rule ≤ last_rule → per_frame rule ≡ false → rule_at ns rule 0 ≡ true
  unfolding first_frame frame_count
  at_once rule a b e = accepted-holds ns ok rule a (omega arith) 0 (rw e (omega arith)) (rw e (omega arith))

  at-frame : (rule n f : ℕ) → 1 ≤ rule → rule ≤ last_rule → per_frame rule ≡ true → frames_of ns ≡ Some n → 1 ≤ f → f ≤ n
      → rule_at ns rule f ≡ true
  unfolding first_frame frame_count
  at-frame rule n f a b e c l h = accepted-holds ns ok rule a (omega arith) f (rw e (omega arith)) (rw (e, c) (omega arith))

  pub r10 : rule10 ns ≡ true
  unfolding rule_at rule_list per_frame
  r10 = at_once 10 (omega arith) (omega arith) refl

  pub r11 : rule11 ns ≡ true
  unfolding rule_at rule_list per_frame
  r11 = at_once 11 (omega arith) (omega arith) refl

  pub r12 : rule12 ns ≡ true
  unfolding rule_at rule_list per_frame
  r12 = at_once 12 (omega arith) (omega arith) refl

  pub r15 : rule15 ns ≡ true
  unfolding rule_at rule_list per_frame
  r15 = at_once 15 (omega arith) (omega arith) refl

  pub r31 : rule31 ns ≡ true
  unfolding rule_at rule_list per_frame
  r31 = at_once 31 (omega arith) (omega arith) refl

  pub r32 : rule32 ns ≡ true
  unfolding rule_at rule_list per_frame
  r32 = at_once 32 (omega arith) (omega arith) refl

  pub r33 : rule33 ns ≡ true
  unfolding rule_at rule_list per_frame
  r33 = at_once 33 (omega arith) (omega arith) refl

  pub r34 : rule34 ns ≡ true
  unfolding rule_at rule_list per_frame
  r34 = at_once 34 (omega arith) (omega arith) refl

  pub r35 : rule35 ns ≡ true
  unfolding rule_at rule_list per_frame
  r35 = at_once 35 (omega arith) (omega arith) refl

  pub r36 : rule36 ns ≡ true
  unfolding rule_at rule_list per_frame
  r36 = at_once 36 (omega arith) (omega arith) refl

  pub r38 : rule38 ns ≡ true
  unfolding rule_at rule_list per_frame
  r38 = at_once 38 (omega arith) (omega arith) refl

  module _ (n f : ℕ) (count : frames_of ns ≡ Some n) (low : 1 ≤ f) (high : f ≤ n) where
    pub r30 : rule30 ns f ≡ true
    unfolding rule_at rule_list per_frame
    r30 = at-frame 30 n f (omega arith) (omega arith) refl count low high

    pub r37 : rule37 ns f ≡ true
    unfolding rule_at rule_list per_frame
    r37 = at-frame 37 n f (omega arith) (omega arith) refl count low high

    pub r39 : rule39 ns f ≡ true
    unfolding rule_at rule_list per_frame
    r39 = at-frame 39 n f (omega arith) (omega arith) refl count low high
