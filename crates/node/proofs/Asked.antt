-- What the methods of `Iterator` answer along members, said of the list of their numbers.
use mathlib.Core.Path.{◌≡◌, refl, sym, ◌∙◌}
use mathlib.Core.Bool.{Bool, true, false, cond, ◌&&◌, ◌||◌}
use mathlib.Core.List.{List, [], ◌∷◌}
use Rattle.std.specs.Prelude.{Option, Some, None}
use Prim.Native.Nat.{ℕ}
use denote.Ref.{Bor}
use denote.Param.Members.{Mut, Called}
use Rattle.std.specs.Fn.{CalledAt}
use Rattle.std.specs.Iterator.{YieldsFirst, ChecksAll, ChecksAny, FindsItem}
use Rattle.std.specs.List.{list_all, list_any, find}
use Rattle.std.proofs.lemmas.Iterator.Consumers.{YieldsList-from_first}
use Rattle.std.proofs.lemmas.Iterator.Search.{all_from_yields_List, any_from_yields_List, find_from_yields_List}
use Rattle.std.proofs.lemmas.Iterator.Adapters.{option_map_id}
use Rattle.std.proofs.lemmas.List.Recursion.{same_from_clauses}

-- What one call of `next` on members does.
abbrev Steps : List ℕ → Option ℕ → List ℕ → Type 0
Steps = YieldsFirst (λ ahead. ahead)

-- A closure that answers p leaves `all` and `any` with what p says of the members. `f` may be any test of a list that asks p of its elements in
-- turn.
module _ {F : Type 0} {g : Mut F (ℕ × Unit {0}) Bool} {c : F} {ahead left is : List ℕ} {r : Bool} (p : ℕ → Bool) (f : List ℕ → Bool) where
  pub all-is : f [] ≡ true → ((k : ℕ) (ks : List ℕ) → f (k ∷ ks) ≡ (p k && f ks)) → ChecksAll Steps g ahead c r left → ahead ≡ is
      → ((k : ℕ) (b : Bool) (d : F) → Called g c (k, tt) b d → (d ≡ c) × (b ≡ p k)) → r ≡ f is
  all-is z s ran e k =
      all_from_yields_List p left c r ran (YieldsList-from_first (λ x. x) (λ x. x) is e) k
      ∙ same_from_clauses (list_all p) f (λ x b. p x && b) (sym z) (λ _ _. refl) s is

  pub any-is : f [] ≡ false → ((k : ℕ) (ks : List ℕ) → f (k ∷ ks) ≡ (p k || f ks)) → ChecksAny Steps g ahead c r left → ahead ≡ is
      → ((k : ℕ) (b : Bool) (d : F) → Called g c (k, tt) b d → (d ≡ c) × (b ≡ p k)) → r ≡ f is
  any-is z s ran e k =
      any_from_yields_List p left c r ran (YieldsList-from_first (λ x. x) (λ x. x) is e) k
      ∙ same_from_clauses (list_any p) f (λ x b. p x || b) (sym z) (λ _ _. refl) s is

-- The same of `find`, whose closure is lent each item. `f` may be any search of a list that asks p of its elements in turn.
module _ {F : Type 0} {g : Mut F (Bor ℕ × Unit {0}) Bool} {c : F} {ahead is : List ℕ} {r : Option ℕ} (p : ℕ → Bool)
    (f : List ℕ → Option ℕ) (left : List ℕ) where
  pub find-is : f [] ≡ None → ((k : ℕ) (ks : List ℕ) → f (k ∷ ks) ≡ cond (p k) (Some k) (f ks)) → FindsItem Steps g ahead c r left → ahead ≡ is
      → ((k : ℕ) (b : Bool) (d : F) → CalledAt g c k b d → (d ≡ c) × (b ≡ p k)) → r ≡ f is
  find-is z s ran e k =
      sym (option_map_id r) ∙ find_from_yields_List p left c r ran (YieldsList-from_first (λ x. x) (λ x. x) is e) k
      ∙ same_from_clauses (find p) f (λ x o. cond (p x) (Some x) o) (sym z) (λ _ _. refl) s is
