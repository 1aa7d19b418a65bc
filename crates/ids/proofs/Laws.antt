-- No ID stands twice exactly if none is among those that follow it, and exactly if none is marked already when it is reached: the marks are
-- those of the items before.
use mathlib.Core.Path.{◌≡◌, refl, sym}
use Prim.Native.Nat.{ℕ, zero, suc, ◌<◌}
use mathlib.Core.List.{List, [], ◌∷◌}
use mathlib.Core.Bool.{Bool, true, false, not, ◌&&◌, and-false, and_assoc}
use lib.ListN.{length, get_or, set, replicate, length-replicate}
use lib.Seq.{get_or-set_same, get_or-set_other}
use lib.Dec.{eqb}
use borrow.Author.Tests.{eq-eqb, ne_eqb, eqb-true, eqb-false}
use Rattle.node.specs.Nodes.{Node, next_node, members}
use Rattle.node.proofs.Walks.{members-end, members-next}
use Rattle.rules.specs.Frame.{is_in, unique, unique_ids}
use Rattle.ids.specs.Internal.{AllZero, id_of, ids_of}

-- ---- Along members

pub ruleset members_along = (members-end, members-next)

pub among_later : (ns : List Node) (id at to : ℕ) → at < to → (id_of ns at ≡ id → ⊥)
    → is_in id (ids_of ns (members ns at to)) ≡ is_in id (ids_of ns (members ns (next_node ns at) to))
among_later ns id at to h q = rw (members-next ns at to h, ne_eqb id (id_of ns at) (λ e. q (sym e)))

-- ---- Marks

zero-at : (n k : ℕ) → ◌≡◌ {A = ℕ} (get_or (replicate n 0) k 0) 0
zero-at zero k = refl
zero-at (suc n) zero = refl
zero-at (suc n) (suc k) = zero-at n k

pub no-marks : (n : ℕ) → AllZero n (replicate n 0)
no-marks n = record { size = length-replicate n 0; zeros = zero-at n }

-- None of the numbers is marked.
clear : List ℕ → List ℕ → Bool
clear marks [] = true
clear marks (x ∷ l) = eqb (get_or marks x 0) 0 && clear marks l

-- What is left to test: no number that is left is marked, and none of them stands twice.
pub fresh : List ℕ → List ℕ → Bool
fresh marks l = clear marks l && unique l

clear-all : (marks l : List ℕ) → ((k : ℕ) → get_or marks k 0 ≡ 0) → clear marks l ≡ true
unfolding clear
clear-all marks [] h = refl
clear-all marks (x ∷ l) h = rw (h x) (clear-all marks l h)

clear-same : (marks : List ℕ) (x y : ℕ) (l : List ℕ) → x < length marks → x ≡ y
    → clear (set marks x 1) (y ∷ l) ≡ (clear marks (y ∷ l) && not (is_in x (y ∷ l)))
unfolding clear
clear-same marks x y l h e =
    rw (eq-eqb x y e, ← e, get_or-set_same marks x 1 0 h) (sym (and-false (clear marks (x ∷ l))))

clear-other : (marks : List ℕ) (x y : ℕ) (l : List ℕ) → (x ≡ y → ⊥) → clear (set marks x 1) l ≡ (clear marks l && not (is_in x l))
    → clear (set marks x 1) (y ∷ l) ≡ (clear marks (y ∷ l) && not (is_in x (y ∷ l)))
unfolding clear
clear-other marks x y l n e =
    rw (ne_eqb x y n, get_or-set_other marks x y 1 0 (λ q. n (sym q)), e)
    (sym (and_assoc (eqb (get_or marks y 0) 0) (clear marks l) (not (is_in x l))))

clear-by : (marks : List ℕ) (x y : ℕ) (l : List ℕ) (b : Bool) → eqb x y ≡ b → x < length marks
    → clear (set marks x 1) l ≡ (clear marks l && not (is_in x l))
    → clear (set marks x 1) (y ∷ l) ≡ (clear marks (y ∷ l) && not (is_in x (y ∷ l)))
clear-by marks x y l true e h i = clear-same marks x y l h (eqb-true x y e)
clear-by marks x y l false e h i = clear-other marks x y l (eqb-false x y e) i

-- One mark more.
clear-set : (marks : List ℕ) (x : ℕ) (l : List ℕ) → x < length marks → clear (set marks x 1) l ≡ (clear marks l && not (is_in x l))
unfolding clear
clear-set marks x [] h = refl
clear-set marks x (y ∷ l) h = clear-by marks x y l (eqb x y) refl h (clear-set marks x l h)

module _ (ns : List Node) (marks is : List ℕ) where
  pub fresh_start : ((k : ℕ) → get_or marks k 0 ≡ 0) → fresh marks (ids_of ns is) ≡ unique_ids ns is
  unfolding unique_ids fresh
  fresh_start h = rw (clear-all marks (ids_of ns is) h)

  pub fresh-end : is ≡ [] → fresh marks (ids_of ns is) ≡ true
  unfolding unique fresh clear
  fresh-end h = rw h

  module _ (id item : ℕ) (rest : List ℕ) (e : id ≡ id_of ns item) (h : is ≡ item ∷ rest) where
    pub fresh-marked : (get_or marks id 0 ≡ 0 → ⊥) → fresh marks (ids_of ns is) ≡ false
    unfolding fresh clear
    fresh-marked q = rw (h, ← e, ne_eqb (get_or marks id 0) 0 q)

    pub fresh-later : id < length marks → get_or marks id 0 ≡ 0 → fresh (set marks id 1) (ids_of ns rest) ≡ fresh marks (ids_of ns is)
    unfolding unique fresh clear
    fresh-later b q =
        rw (h, ← e, q, clear-set marks id (ids_of ns rest) b)
        (and_assoc (clear marks (ids_of ns rest)) (not (is_in id (ids_of ns rest))) (unique (ids_of ns rest)))

pub ruleset marks_along = (fresh_start, fresh-end)
