-- Of the rules that are asked once, 1 to 26 are of the root, 31 to 36 of the masks, and only 38 is left.
use mathlib.Core.Path.{sym, ap, ◌∙◌}
use native.Mathlib.Omega.{arith}
use Rattle.conformance.proofs.Loops as loops
use Prim.Native.Nat.{ℕ}
use Rattle.node.specs.Nodes.{nodes_of}
use Rattle.rules.specs.All.{rule_at}
use Rattle.conformance.proofs.once_holds.Goals as goal

pub mask_rule-requires : goal.mask_rule-requires
mask_rule-requires c =
    (loops.once-mask c.args.rule c.requires.1.1 (omega arith), omega arith)

pub returns-in_default : goal.returns-in_default
returns-in_default c =
    c.rule_38.ensures.value_2 ∙ ap (λ (k : ℕ). rule_at (nodes_of c.args.set.now) k 0)
    (sym (loops.once_last c.args.rule c.requires.1.1 (omega arith) c.requires.1.0))
