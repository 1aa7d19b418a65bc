-- TO_LINEAR items along members, one at a time; grades by their parts.
use mathlib.Core.Path.{◌≡◌, refl, sym, ap, ◌∙◌}
use Prim.Native.Nat.{ℕ, ◌≤◌, ◌<◌}
use native.Mathlib.Omega.{arith}
use borrow.Author.Tests.{lt-leb}
use lib.ListN.{length}
use mathlib.Core.List.{List, [], ◌∷◌}
use mathlib.Core.Bool.{true, false}
use Rattle.node.specs.Nodes.{Node, next_node, members}
use Rattle.node.proofs.Walks.{members-end, members-next}
use Rattle.element.specs.Elements.{every}
use Rattle.rules.specs.Intensity.{is_linear, linear_among, has_lut, are_luts}
use Rattle.intensity.specs.declared.Grade.TheVariants.{Broken, Plain, Log}
use Rattle.intensity.specs.Internal.{luts_of, Stops}

module _ (ns : List Node) (i to : ℕ) where
  pub linear-end : to ≤ i → linear_among ns (members ns i to) ≡ []
  unfolding linear_among
  linear-end h = rw (members-end ns i to h)

  pub linear-here : i < to → is_linear ns i ≡ true → linear_among ns (members ns i to) ≡ i ∷ linear_among ns (members ns (next_node ns i) to)
  unfolding linear_among
  linear-here h e = rw (members-next ns i to h, e)

  pub linear-later : i < to → is_linear ns i ≡ false → linear_among ns (members ns i to) ≡ linear_among ns (members ns (next_node ns i) to)
  unfolding linear_among
  linear-later h e = rw (members-next ns i to h, e)

module _ (ns : List Node) where
  pub luts-none : luts_of ns [] ≡ Plain
  unfolding luts_of are_luts every
  luts-none = refl

  pub luts-two : (j k : ℕ) (js : List ℕ) → luts_of ns (j ∷ k ∷ js) ≡ Broken
  unfolding luts_of are_luts every
  luts-two j k js = rw (lt-leb (length (j ∷ k ∷ js)) 1 (omega arith))

  pub luts-yes : (j : ℕ) → has_lut ns j ≡ true → luts_of ns (j ∷ []) ≡ Log
  unfolding luts_of are_luts every
  luts-yes j e = rw e

  pub luts-no : (j : ℕ) → has_lut ns j ≡ false → luts_of ns (j ∷ []) ≡ Broken
  unfolding luts_of are_luts every
  luts-no j e = rw e

-- What two searches find: no TO_LINEAR item, one, or more.
module _ (ns : List Node) (from to k : ℕ) (at : Stops ns from to k) where
  pub no-linear : to ≤ k → linear_among ns (members ns from to) ≡ []
  no-linear h = sym at.same ∙ linear-end ns k to h

  module _ (after other : ℕ) (found : k < to) (e : after ≡ next_node ns k) (later : Stops ns after to other) where
    rest : linear_among ns (members ns from to) ≡ k ∷ linear_among ns (members ns other to)
    rest = sym at.same ∙ linear-here ns k to found (at.stands found) ∙ ap (λ (l : List ℕ). k ∷ l) (rw (← e) (sym later.same))

    pub only : to ≤ other → linear_among ns (members ns from to) ≡ k ∷ []
    only h = rest ∙ ap (λ (l : List ℕ). k ∷ l) (linear-end ns other to h)

    pub luts-more : other < to → luts_of ns (linear_among ns (members ns from to)) ≡ Broken
    luts-more h = rw (rest, linear-here ns other to h (later.stands h))
        (luts-two ns k other (linear_among ns (members ns (next_node ns other) to)))
