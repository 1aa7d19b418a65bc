-- A US that is read from bytes is below 65,536: its value is a part of the data set, whose bytes are below 256.
use Rattle.std.specs.Prelude.{Option, Some, None}
use mathlib.Core.Path.{◌≡◌}
use mathlib.Core.Bool.{Bool, true, false, cond}
use mathlib.Core.List.{List, [], ◌∷◌, map}
use Prim.Native.Nat.{ℕ, zero, suc, ◌+◌, ◌*◌, ◌<◌}
use native.Mathlib.Omega.{arith}
use lib.ListN.{length, get_or, take, drop}
use lib.Dec.{eqb}
use Rattle.basics.specs.Bytes.{IsBytes, le16}
use Rattle.basics.specs.Vr.{US}
use Rattle.basics.proofs.Bytes.{none-bytes, take-bytes, drop-bytes}
use Rattle.dataset.specs.declared.Row.{Row}
use Rattle.dataset.specs.Tree.{rows_of}
use Rattle.value.specs.Number.{us_of}
use Rattle.node.specs.Nodes.{holds_nodes, node_of, nodes_of, no_node, node_at}
use Rattle.node.specs.Find.{and_then, find_vr}
use Rattle.element.specs.Elements.{us_in}

value-bytes : (s : List ℕ) → IsBytes s → (r : Row) → IsBytes (node_of s r).value
value-bytes s b r = go (holds_nodes r.vr)
  where
    go : (t : Bool) → IsBytes (cond t [] (take r.size (drop r.offset s)))
    go true = none-bytes
    go false = take-bytes r.size (drop r.offset s) (drop-bytes r.offset s b)

node-bytes : (s : List ℕ) → IsBytes s → (rs : List Row) (i : ℕ) → IsBytes (get_or (map (node_of s) rs) i no_node).value
node-bytes s b [] i = none-bytes
node-bytes s b (r ∷ rs) zero = value-bytes s b r
node-bytes s b (r ∷ rs) (suc i) = node-bytes s b rs i

us-small : (v : List ℕ) → IsBytes v → (k : ℕ) → us_of v ≡ Some k → k < 65536
unfolding us_of le16
us-small v b k e = go (eqb (length v) 2) e
  where
    go : (t : Bool) → cond t (Some (get_or v 0 0 + 256 * get_or v (0 + 1) 0)) None ≡ Some k → k < 65536
    go true e =
        let q : get_or v 0 0 + 256 * get_or v (0 + 1) 0 ≡ k = cc in
        omega (arith, b 0, b (0 + 1))
    go false e = let z : ◌≡◌ {A = ℕ} 0 1 = cc in absurd (omega arith)

pub us-in-small : (s : List ℕ) → IsBytes s → (tag k : ℕ) (is : List ℕ) → us_in (nodes_of s) tag is ≡ Some k → k < 65536
unfolding nodes_of
us-in-small s b tag k is e = go (find_vr (nodes_of s) tag US is) e
  where
    go : (o : Option ℕ) → and_then o (λ i. us_of (node_at (nodes_of s) i).value) ≡ Some k → k < 65536
    go (Some i) e = us-small (node_at (nodes_of s) i).value (node-bytes s b (rows_of s) i) k e
    go None e = let z : ◌≡◌ {A = ℕ} 0 1 = cc in absurd (omega arith)
