-- The rule list: every rule by its number.
use Rattle.std.specs.Prelude.{ℕ, ◌-◌, List, [], ◌∷◌, Bool, true, get_or}
use Rattle.node.specs.Nodes.{Node}
use Rattle.rules.specs.Root.{rule1, rule2, rule3, rule4, rule5, rule6, rule7, rule8, rule9, rule10, rule11, rule12, rule13, rule14}
use Rattle.rules.specs.Root.{rule15, rule16, rule17, rule18, rule19, rule20, rule21, rule22, rule23, rule24, rule25, rule26}
use Rattle.rules.specs.Frame.{rule27, rule28, rule29, rule30, rule37}
use Rattle.rules.specs.Mask.{rule31, rule32, rule33, rule34, rule35, rule36}
use Rattle.rules.specs.Pixels.{rule38}
use Rattle.rules.specs.Intensity.{rule39}

-- Whether each rule holds, from the first on; per-frame rules at frame f.
unfoldable pub rule_list : List Node → ℕ → List Bool
rule_list ns f =
    rule1 ns
    ∷ rule2 ns
    ∷ rule3 ns
    ∷ rule4 ns
    ∷ rule5 ns
    ∷ rule6 ns
    ∷ rule7 ns
    ∷ rule8 ns
    ∷ rule9 ns
    ∷ rule10 ns
    ∷ rule11 ns
    ∷ rule12 ns
    ∷ rule13 ns
    ∷ rule14 ns
    ∷ rule15 ns
    ∷ rule16 ns
    ∷ rule17 ns
    ∷ rule18 ns
    ∷ rule19 ns
    ∷ rule20 ns
    ∷ rule21 ns
    ∷ rule22 ns
    ∷ rule23 ns
    ∷ rule24 ns
    ∷ rule25 ns
    ∷ rule26 ns
    ∷ rule27 ns f
    ∷ rule28 ns f
    ∷ rule29 ns f
    ∷ rule30 ns f
    ∷ rule31 ns
    ∷ rule32 ns
    ∷ rule33 ns
    ∷ rule34 ns
    ∷ rule35 ns
    ∷ rule36 ns
    ∷ rule37 ns f
    ∷ rule38 ns
    ∷ rule39 ns f
    ∷ []

-- Whether a rule holds at a frame; the frame matters only for a rule that is asked at each frame.
unfoldable pub rule_at : List Node → ℕ → ℕ → Bool
rule_at ns rule f = get_or (rule_list ns f) (rule - 1) true
