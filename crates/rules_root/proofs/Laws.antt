-- A number that is none of several is above them, and rule 38 stands in the list of the rules at its number.
use mathlib.Core.Path.{◌≡◌, refl, ◌∙◌}
use Prim.Native.Nat.{ℕ, zero, suc, ◌≤◌, ◌<◌}
use native.Mathlib.Omega.{arith}
use mathlib.Core.List.{List}
use mathlib.Core.Bool.{Bool}
use Rattle.node.specs.Nodes.{Node}
use Rattle.rules.specs.Pixels.{rule38}
use Rattle.rules.specs.All.{rule_list, rule_at}

-- ---- A number that is none of 1 to k

abbrev pub Past : ℕ → ℕ → Type 0
Past n zero = Unit {0}
Past n (suc k) = Past n k × (n ≡ suc k → ⊥)

-- It is above k.
pub past_all : (n k : ℕ) → 1 ≤ n → Past n k → k < n
past_all n zero h p = h
past_all n (suc k) h p = omega (arith, past_all n k h p.0, p.1)

-- ---- Rule 38 by its number

-- It is asked of no frame.
pub rule38-at : (ns : List Node) (f : ℕ) → rule38 ns ≡ rule_at ns 38 f
unfolding rule_at rule_list
rule38-at ns f = refl

pub rule38-holds : {r : Bool} (ns : List Node) → r ≡ rule38 ns → record { value : r ≡ rule38 ns; value_2 : r ≡ rule_at ns 38 0 }
rule38-holds ns e = record { value = e; value_2 = e ∙ rule38-at ns 0 }
