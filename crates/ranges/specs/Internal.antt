-- What the tables over all frames hold. None of this is in the papers; `Rattle.steps` defines which mask item applies.
use Rattle.std.specs.Prelude.{◌≡◌, Bool, true, cond, List, [], ◌∷◌, ℕ, zero, suc, ◌-◌, ◌≤◌, ◌<◌, max, eqb, leb, length, get_or, Option, Some, None, All, IfSome}
use Rattle.node.specs.Nodes.{Node}
use Rattle.ranges.specs.declared.ToldItem.{ToldItem}
use Rattle.steps.specs.Steps.{first_holding, applying_to}
use Rattle.steps.specs.Internal.{GivesItem, IsTold}

-- ---- How far pairs reach

-- The farthest last frame of the pairs whose first is a; 0 if there is none.
unfoldable pub mark_of : ℕ → List ℕ → ℕ
mark_of a [] = 0
mark_of a (x ∷ []) = 0
mark_of a (x ∷ y ∷ l) = max (cond (eqb x a) y 0) (mark_of a l)

-- The same for pairs whose first is at most f.
unfoldable pub reach_of : ℕ → List ℕ → ℕ
reach_of f [] = 0
reach_of f (x ∷ []) = 0
reach_of f (x ∷ y ∷ l) = max (cond (leb x f) y 0) (reach_of f l)

-- The farthest of the marks up to f.
unfoldable pub far_of : List ℕ → ℕ → ℕ
far_of marks zero = get_or marks 0 0
far_of marks (suc f) = max (far_of marks f) (get_or marks (suc f) 0)

-- ---- Tables

-- The first n cells are 0.
pub record Cleared (n : ℕ) (after : List ℕ) : Type 0 where
  pub each : (i : ℕ) → i < n → get_or after i 0 ≡ 0

-- The pairs of a list are marked, in addition to what was marked before.
pub record Marked (l before after : List ℕ) : Type 0 where
  pub each : (i : ℕ) → get_or after i 0 ≡ max (get_or before i 0) (mark_of i l)

-- Room for the marks of every first frame, and for frames 1 to n.
pub record MarkRooms (n : ℕ) (reach which : List ℕ) : Type 0 where
  pub few : n < 65536
  pub marks : 65536 ≤ length reach
  pub frames : n < length which

-- The entry of a frame after a mask item was tried: 0 is free.
unfoldable pub taken_by : ℕ → Bool → ℕ → ℕ
taken_by old held item = cond (eqb old 0) (cond held item 0) old

pub record CoveredBy (holds : ℕ → Bool) (n item : ℕ) (before after : List ℕ) : Type 0 where
  pub each : (f : ℕ) → 1 ≤ f → f ≤ n → get_or after f 0 ≡ taken_by (get_or before f 0) (holds f) item

-- By the marks; and every frame.
abbrev pub Covered : ℕ → ℕ → List ℕ → List ℕ → List ℕ → Type 0
Covered n item reach before after = CoveredBy (λ f. leb f (far_of reach f)) n item before after

abbrev pub CoveredAll : ℕ → ℕ → List ℕ → List ℕ → Type 0
CoveredAll n item before after = CoveredBy (λ f. true) n item before after

-- Whatever a range says: if it can be read, its frames are taken, and a frame that was taken stays so.
pub record Tried (holds : ℕ → Option Bool) (n item : ℕ) (before after : List ℕ) : Type 0 where
  pub each : (f : ℕ) → 1 ≤ f → f ≤ n → (h : Bool) → holds f ≡ Some h → get_or after f 0 ≡ taken_by (get_or before f 0) h item
  pub kept : (f : ℕ) → 1 ≤ f → f ≤ n → (get_or before f 0 ≡ 0 → ⊥) → get_or after f 0 ≡ get_or before f 0

-- A mask item as an entry of a table: one more than its node.
abbrev pub item_of : ℕ → Option ℕ
item_of w = cond (eqb w 0) None (Some (w - 1))

-- At frames 1 to n, the first of a list of mask items that holds the frame is found.
pub record AllFound (ns : List Node) (n : ℕ) (all : List ℕ) : Type 0 where
  pub each : (f : ℕ) → 1 ≤ f → f ≤ n → first_holding ns f all ≡ None → ⊥

-- The entries of a table after some mask items were tried, and what the rest of them say where it is free.
abbrev pub left_of : List Node → ℕ → List ℕ → ℕ → Option (Option ℕ)
left_of ns f rest w = cond (eqb w 0) (first_holding ns f rest) (Some (Some (w - 1)))

pub record LeftToFind (ns : List Node) (n : ℕ) (all rest which : List ℕ) : Type 0 where
  pub each : (f : ℕ) → 1 ≤ f → f ≤ n → left_of ns f rest (get_or which f 0) ≡ first_holding ns f all
  pub below : (f : ℕ) → 1 ≤ f → f ≤ n → get_or which f 0 ≤ length ns

-- Step 2 lacks nothing at frames 1 to n.
pub record Answering (ns : List Node) (n : ℕ) : Type 0 where
  pub each : (f : ℕ) → 1 ≤ f → f ≤ n → GivesItem ns f

-- The table of the mask items that apply to frames 1 to n.
pub record Applied (ns : List Node) (n : ℕ) (which : List ℕ) : Type 0 where
  pub each : (f : ℕ) → 1 ≤ f → f ≤ n → applying_to ns f ≡ Some (item_of (get_or which f 0))
  pub below : (f : ℕ) → 1 ≤ f → f ≤ n → get_or which f 0 ≤ length ns

-- ---- What each mask item says

-- Each mask item of the table says what is beside it.
abbrev pub Known : List Node → List (Option ToldItem) → Type 0
Known ns known = All (λ entry. IfSome entry (λ e. IsTold ns e.item e.told)) known
