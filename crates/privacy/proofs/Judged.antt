-- The finding on lists of nodes that are alike is the same, since every rule says the same.
use mathlib.Core.Path.{◌≡◌, refl}
use Prim.Native.Nat.{ℕ, zero, suc, ◌+◌}
use mathlib.Core.List.{List}
use Rattle.node.specs.Nodes.{Node}
use Rattle.rules.specs.All.{rule_list, rule_at}
use Rattle.conformance.specs.Judging.{frame_count, lowest, first_broken, finding_of}
use Rattle.conformance.specs.declared.Finding.{Finding}
use Rattle.verdict.specs.Verdict.{last_rule}
use Rattle.privacy.specs.Alike.{Alike}
use Rattle.privacy.proofs.Words.{frames-same}
use Rattle.privacy.proofs.Root.{rule1-same, rule2-same, rule3-same, rule4-same, rule5-same, rule6-same, rule7-same, rule8-same}
use Rattle.privacy.proofs.Root.{rule9-same, rule10-same, rule11-same, rule12-same, rule13-same, rule14-same, rule15-same}
use Rattle.privacy.proofs.Root.{rule16-same, rule17-same, rule18-same, rule19-same, rule20-same, rule21-same, rule22-same}
use Rattle.privacy.proofs.Root.{rule23-same, rule24-same, rule25-same, rule26-same, rule38-same}
use Rattle.privacy.proofs.Frames.{rule27-same, rule28-same, rule29-same, rule30-same, rule31-same, rule32-same, rule33-same}
use Rattle.privacy.proofs.Frames.{rule34-same, rule35-same, rule36-same, rule37-same, rule39-same}

module _ {ns ms : List Node} (a : Alike ns ms) where
  list_same : (f : ℕ) → rule_list ns f ≡ rule_list ms f
  unfolding rule_list
  list_same f =
      rw (
        rule1-same a,
        rule2-same a,
        rule3-same a,
        rule4-same a,
        rule5-same a,
        rule6-same a,
        rule7-same a,
        rule8-same a,
        rule9-same a,
        rule10-same a,
        rule11-same a,
        rule12-same a,
        rule13-same a,
        rule14-same a,
        rule15-same a,
        rule16-same a,
        rule17-same a,
        rule18-same a,
        rule19-same a,
        rule20-same a,
        rule21-same a,
        rule22-same a,
        rule23-same a,
        rule24-same a,
        rule25-same a,
        rule26-same a,
        rule27-same a f,
        rule28-same a f,
        rule29-same a f,
        rule30-same a f,
        rule31-same a,
        rule32-same a,
        rule33-same a,
        rule34-same a,
        rule35-same a,
        rule36-same a,
        rule37-same a f,
        rule38-same a,
        rule39-same a f,
      )

  rule-same : (rule f : ℕ) → rule_at ns rule f ≡ rule_at ms rule f
  unfolding rule_at
  rule-same rule f = rw (list_same f)

  count_same : (rule : ℕ) → frame_count ns rule ≡ frame_count ms rule
  unfolding frame_count
  count_same rule = rw (frames-same a)

  lowest-same : (rule left f : ℕ) (o p : Finding) → o ≡ p → lowest ns rule left f o ≡ lowest ms rule left f p
  unfolding lowest
  lowest-same rule zero f o p e = e
  lowest-same rule (suc left) f o p e = rw (rule-same rule f, lowest-same rule left (f + 1) o p e)

  broken-same : (left rule : ℕ) → first_broken ns left rule ≡ first_broken ms left rule
  unfolding first_broken
  broken-same zero rule = refl
  broken-same (suc left) rule = rw (count_same rule) (lowest-same rule _ _ _ _ (broken-same left (rule + 1)))

  pub finding-same : finding_of ns ≡ finding_of ms
  finding-same = broken-same last_rule 1
