-- A walk along members: the rest of a container is its next member and what follows it.
use Rattle.std.specs.Prelude.{Some, None}
use mathlib.Core.Path.{◌≡◌, refl, sym, ap, ◌∙◌}
use Prim.Native.Nat.{ℕ, zero, suc, ◌+◌, ◌-◌, ◌≤◌, ◌<◌}
use native.Mathlib.Omega.{arith}
use mathlib.Core.List.{List, [], ◌∷◌}
use mathlib.Core.Bool.{Bool, true, false, cond}
use lib.Dec.{eqb, ltb}
use lib.ListN.{length}
use borrow.Author.Tests.{lt-ltb, le-ltb, ltb-true, eq-eqb, ne_eqb}
use Rattle.std.specs.List.{All}
use Rattle.std.specs.Iterator.{YieldsFirst}
use Rattle.std.specs.Iterator.Runs.{YieldsInOrder}
use Rattle.std.proofs.iter.runs.Sources.{from_front, as_is}
use Rattle.node.specs.Nodes.{Node, node_at, next_node, members_by, members}
use Rattle.node.specs.Find.{find}

-- Steps that are enough are as good as any.
steps-same : (ns : List Node) (to t u i : ℕ) → to ≤ i + t → to ≤ i + u → members_by t ns i to ≡ members_by u ns i to
unfolding members_by
steps-same ns to zero zero i a b = refl
steps-same ns to zero (suc u) i a b = rw (le-ltb i to (omega arith))
steps-same ns to (suc t) zero i a b = rw (le-ltb i to (omega arith))
steps-same ns to (suc t) (suc u) i a b =
    ap (λ (l : List ℕ). cond (ltb i to) (i ∷ l) []) (steps-same ns to t u (next_node ns i) (omega arith) (omega arith))

pub members-end : (ns : List Node) (i to : ℕ) → to ≤ i → members ns i to ≡ []
unfolding members members_by
members-end ns i to h =
    let z : to - i ≡ 0 = omega arith in
    rw z

pub members-next : (ns : List Node) (i to : ℕ) → i < to → members ns i to ≡ i ∷ members ns (next_node ns i) to
unfolding members members_by
members-next ns i to h =
    let z : to - i ≡ suc (to - i - 1) = omega arith in
    rw (z, lt-ltb i to h)
    (ap (λ (l : List ℕ). i ∷ l) (steps-same ns to (to - i - 1) (to - next_node ns i) (next_node ns i) (omega arith) (omega arith)))

-- The same of a walk's list.
pub walk-next : (ns : List Node) (i to next : ℕ) (ahead : List ℕ) → members ns i to ≡ ahead → i < to → next ≡ next_node ns i
    → ahead ≡ i ∷ members ns next to
walk-next ns i to next ahead e h n = rw (← e, n) (members-next ns i to h)

-- Each member is a node before `to`.
steps-below : (ns : List Node) (to n : ℕ) → to ≤ n → (t i : ℕ) → All (λ m. m < n) (members_by t ns i to)
unfolding members_by
steps-below ns to n h zero i = λ k d l. absurd (omega arith)
steps-below ns to n h (suc t) i = go (ltb i to) refl (steps-below ns to n h t (next_node ns i))
  where
    go : (b : Bool) → ltb i to ≡ b → All (λ m. m < n) (members_by t ns (next_node ns i) to)
        → All (λ m. m < n) (cond b (i ∷ members_by t ns (next_node ns i) to) [])
    go true e later zero d l = omega (arith, ltb-true i to e)
    go true e later (suc k) d l = later k d (omega arith)
    go false e later k d l = absurd (omega arith)

pub members-below : (ns : List Node) (i to n : ℕ) → to ≤ n → All (λ m. m < n) (members ns i to)
unfolding members
members-below ns i to n h = steps-below ns to n h (to - i) i

-- So is each of those that follow the first.
pub rest-below : (n i : ℕ) (ahead rest : List ℕ) → ahead ≡ i ∷ rest → All (λ m. m < n) ahead → All (λ m. m < n) rest
rest-below n i ahead rest e h k d l = rw e at h (suc k) d (omega arith)

-- There are no more members than steps from `i` to `to`.
steps-few : (ns : List Node) (to t i : ℕ) → length (members_by t ns i to) ≤ t
unfolding members_by
steps-few ns to zero i = omega arith
steps-few ns to (suc t) i = go (ltb i to) (steps-few ns to t (next_node ns i))
  where
    go : (b : Bool) → length (members_by t ns (next_node ns i) to) ≤ t
        → length (cond b (i ∷ members_by t ns (next_node ns i) to) []) ≤ suc t
    go true later = omega (arith, later)
    go false later = omega arith

pub members-few : (ns : List Node) (i to : ℕ) → length (members ns i to) ≤ to
unfolding members
members-few ns i to = omega (arith, steps-few ns to (to - i) i)

-- Calls of `next` on a walk give its list.
pub walk-runs : YieldsInOrder (YieldsFirst {A = ℕ} (λ ahead. ahead)) (λ ahead. ahead)
walk-runs p s = as_is p p.from (from_front (YieldsFirst {A = ℕ} (λ ahead. ahead)) (λ x. x) (λ ahead. ahead) (λ s t h. ap length h.0) (λ s x t h. h) p s)

module _ (ns : List Node) (tag i to : ℕ) where
  pub find-end : to ≤ i → find ns tag (members ns i to) ≡ None
  unfolding find
  find-end h = rw (members-end ns i to h)

  pub find-here : i < to → (node_at ns i).tag ≡ tag → find ns tag (members ns i to) ≡ Some i
  unfolding find
  find-here h q = rw (members-next ns i to h, eq-eqb _ _ q)

  pub find-later : i < to → ((node_at ns i).tag ≡ tag → ⊥) → find ns tag (members ns i to) ≡ find ns tag (members ns (next_node ns i) to)
  unfolding find
  find-later h q = rw (members-next ns i to h, ne_eqb _ _ q)

-- A container's end is where it starts just where nothing stands in it.
pub gap : (a d : ℕ) → eqb a (a + d) ≡ eqb d 0
gap a zero = eq-eqb a (a + 0) (omega arith)
gap a (suc d) = ne_eqb a (a + suc d) (λ e. omega arith) ∙ sym (ne_eqb (suc d) 0 (λ e. omega arith))
