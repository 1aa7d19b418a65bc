-- The join of the two views: node i is row i, and the seven numbers of row i stand from 7i on in the row table.
use Rattle.std.specs.Prelude.{Option, Some, None}
use mathlib.Core.Path.{◌≡◌, refl, sym, ap, ◌∙◌, subst}
use Prim.Native.Nat.{ℕ, zero, suc, ◌+◌, ◌*◌, ◌≤◌, ◌<◌}
use native.Mathlib.Omega.{arith}
use mathlib.Core.List.{List, [], ◌∷◌, map, append-nil}
use mathlib.Core.Logic.{◌⊎◌, inl, inr}
use lib.ListN.{length, get_or, take, drop, length-map}
use borrow.Author.Tests.{ne_eqb}
use Rattle.basics.specs.Vr.{SQ}
use Rattle.dataset.specs.declared.Row.{Row}
use Rattle.dataset.specs.Answer.{flat, width}
use Rattle.dataset.specs.Tree.{rows_of, row_at, no_row}
use Rattle.dataset.proofs.Buffer.{length-flat}
use Rattle.dataset.proofs.Laws.{number_at, row-few, row_within, row_next}
use Rattle.node.specs.Nodes.{Node, node_of, nodes_of, node_at, next_node, no_node}
use Rattle.node.specs.Internal.{Table}
use Rattle.value.specs.Internal.{Below}

pub nodes-count : (s : List ℕ) → length (nodes_of s) ≡ length (rows_of s)
unfolding nodes_of
nodes-count s = length-map (rows_of s) (node_of s)

-- Each node has its row.
pub row-known : (s : List ℕ) (i : ℕ) → i < length (nodes_of s) → i < length (rows_of s)
row-known s i h = omega (arith, nodes-count s)

pub node-map : (s : List ℕ) (rs : List Row) (i : ℕ) → i < length rs → get_or (map (node_of s) rs) i no_node ≡ node_of s (get_or rs i no_row)
node-map s [] i h = absurd (omega arith)
node-map s (r ∷ rs) zero h = refl
node-map s (r ∷ rs) (suc i) h = node-map s rs i (omega arith)

-- The rows as numbers are the row table.
pub table : (s rows : List ℕ) → rows ≡ flat (rows_of s) → Table s rows
table s rows e =
    record {
      is = e;
      size = ap length e ∙ length-flat (rows_of s) ∙ ap (λ (k : ℕ). width * k) (sym (nodes-count s));
      few = omega (arith, nodes-count s, row-few s);
    }

-- So each data set has one.
pub tabled : (s : List ℕ) → Table s (flat (rows_of s))
tabled s = table s (flat (rows_of s)) refl

module _ (s rows : List ℕ) (t : Table s rows) (i : ℕ) (h : i < length (nodes_of s)) where
  pub node-is : node_at (nodes_of s) i ≡ node_of s (row_at (rows_of s) i)
  unfolding nodes_of
  node-is = node-map s (rows_of s) i (rw (← nodes-count s) h)

  -- Number k of row i.
  pub number : (k : ℕ) → k < width → get_or rows (width * i + k) 0 ≡ get_or (flat (row_at (rows_of s) i ∷ [])) k 0
  number k l =
      ap (λ (x : List ℕ). get_or x (width * i + k) 0) (t.is ∙ sym (append-nil (flat (rows_of s))))
      ∙ number_at (rows_of s) [] i k (row-known s i h) l

  pub tag_is : get_or rows (width * i) 0 ≡ (node_at (nodes_of s) i).tag
  tag_is = ap (λ (k : ℕ). get_or rows k 0) (omega arith) ∙ number 0 (omega arith) ∙ ap (λ (n : Node). n.tag) (sym node-is)

  pub vr-is : get_or rows (width * i + 1) 0 ≡ (node_at (nodes_of s) i).vr
  vr-is = number 1 (omega arith) ∙ ap (λ (n : Node). n.vr) (sym node-is)

  pub descendants-is : get_or rows (width * i + 5) 0 ≡ (node_at (nodes_of s) i).descendants
  descendants-is = number 5 (omega arith) ∙ ap (λ (n : Node). n.descendants) (sym node-is)

  pub parent_is : get_or rows (width * i + 6) 0 ≡ (row_at (rows_of s) i).parent
  parent_is = number 6 (omega arith)

  pub next-within : next_node (nodes_of s) i ≤ length (nodes_of s)
  next-within = rw (node-is, nodes-count s) (row_next s i (row-known s i h))

  vr-row : (node_at (nodes_of s) i).vr ≡ (row_at (rows_of s) i).vr
  vr-row = ap (λ (n : Node). n.vr) node-is

  -- The value of what is no sequence and no item is the part of the data set that its row names.
  pub value-part : ((node_at (nodes_of s) i).vr ≡ SQ → ⊥) → ((node_at (nodes_of s) i).vr ≡ 0 → ⊥)
      → take (get_or rows (width * i + 4) 0) (drop (get_or rows (width * i + 3) 0) s) ≡ (node_at (nodes_of s) i).value
  value-part a b =
      rw (
        number 4 (omega arith),
        number 3 (omega arith),
        node-is,
        ne_eqb (row_at (rows_of s) i).vr SQ (λ e. a (vr-row ∙ e)),
        ne_eqb (row_at (rows_of s) i).vr 0 (λ e. b (vr-row ∙ e)),
      )

  pub value-within : get_or rows (width * i + 3) 0 + get_or rows (width * i + 4) 0 ≤ length s
  value-within = rw (number 3 (omega arith), number 4 (omega arith)) (row_within s i (row-known s i h))

  pub value_none : ((node_at (nodes_of s) i).vr ≡ SQ) ⊎ ((node_at (nodes_of s) i).vr ≡ 0) → [] ≡ (node_at (nodes_of s) i).value
  value_none (inl a) = rw (node-is, sym vr-row ∙ a)
  value_none (inr a) = rw (node-is, sym vr-row ∙ a)

-- ---- What an answer says, once it is taken apart

pub had : {r o : Option ℕ} {k : ℕ} → r ≡ Some k → r ≡ o → o ≡ Some k
had e f = sym f ∙ e

pub had-none : {r o : Option ℕ} → r ≡ None → r ≡ o → o ≡ None
had-none e f = sym f ∙ e

pub within : (n : ℕ) {r : Option ℕ} {k : ℕ} → r ≡ Some k → Below n r → k < n
within n e w = subst (λ (x : Option ℕ). Below n x) e w

pub below_more : (a b : ℕ) (r : Option ℕ) → a ≤ b → Below a r → Below b r
below_more a b (Some k) h l = omega arith
below_more a b None h l = tt
