-- Sizes of nodes add up over parts of their list, and the bytes written for them have that size, because a header has the size that is
-- counted for it.
use mathlib.Core.Path.{◌≡◌, refl, ap}
use Prim.Native.Nat.{ℕ, zero, suc, ◌+◌, ◌≤◌, ◌<◌}
use native.Mathlib.Omega.{arith}
use mathlib.Core.List.{List, [], ◌∷◌}
use lib.ListN.{length, take, drop, length-append}
use lib.Seq.{slice, slice-cons, slice_empty, drop-cons, take-length}
use Rattle.node.specs.Nodes.{Node, node_at, no_node}
use Rattle.canonical.specs.Written.{head_size, own_size, written_size, node_bytes, written_of}
use Rattle.canonical.proofs.Shape.{length-header}

-- ---- Parts

pub size-split : (k : ℕ) (ns : List Node) → written_size ns ≡ written_size (take k ns) + written_size (drop k ns)
unfolding written_size
size-split zero ns = omega arith
size-split (suc k) [] = omega arith
size-split (suc k) (n ∷ ns) = omega (arith, size-split k ns)

pub size-slice : (f t : ℕ) (ns : List Node) → written_size (slice f t ns) ≤ written_size ns
size-slice f t ns = omega (arith, size-split f (take t ns), size-split t ns)

pub size-next : (ns : List Node) (i : ℕ) → i < length ns → written_size (drop i ns) ≡ own_size (node_at ns i) + written_size (drop (i + 1) ns)
unfolding written_size
size-next ns i h =
    let e : i + 1 ≡ suc i = omega arith in
    rw e (ap written_size (drop-cons ns i no_node h))

pub own_is : (ns : List Node) (i : ℕ) {vr : ℕ} {value : List ℕ} → vr ≡ (node_at ns i).vr → value ≡ (node_at ns i).value
    → own_size (node_at ns i) ≡ head_size vr + length value
unfolding own_size
own_is ns i a b = rw (a, b)

-- What is summed so far, and what is left, are the whole.
pub record Summed (ns : List Node) (from to sum i : ℕ) : Type 0 where
  pub low : from ≤ i
  pub high : i ≤ to
  pub rest : sum + written_size (slice i to ns) ≡ written_size (slice from to ns)

pub summed-first : (ns : List Node) (from to : ℕ) → from ≤ to → Summed ns from to 0 from
summed-first ns from to h = record { low = omega arith; high = h; rest = omega arith }

pub summed-next : {ns : List Node} {from to sum i : ℕ} → Summed ns from to sum i → i < to → to ≤ length ns
    → Summed ns from to (sum + own_size (node_at ns i)) (i + 1)
unfolding written_size
summed-next {ns} {from} {to} {sum} {i} s h l =
    let e : i + 1 ≡ suc i = omega arith in
    let c : written_size (slice i to ns)
    ≡ own_size (node_at ns i) + written_size (slice (suc i) to ns) = ap written_size (slice-cons i to ns no_node h l) in
    record { low = omega (arith, s.low); high = omega arith; rest = rw e (omega (arith, s.rest)) }

pub summed-last : {ns : List Node} {from to sum i : ℕ} → Summed ns from to sum i → to ≤ i → sum ≡ written_size (slice from to ns)
unfolding written_size
summed-last {ns} {from} {to} {sum} {i} s h =
    let e : i ≡ to = omega (arith, s.high) in
    let z : written_size (slice i to ns) ≡ 0 = rw e (ap written_size (slice_empty to ns)) in
    omega (arith, s.rest)

pub slice_all : (ns : List Node) (n : ℕ) → n ≡ length ns → slice 0 n ns ≡ ns
slice_all ns n e = rw e (take-length ns)

-- ---- Bytes of nodes

length-node : (n : Node) (after : List Node) → length (node_bytes n after) ≡ own_size n
unfolding node_bytes own_size
length-node n after = simp (length-append, length-header)

pub length-written : (ns : List Node) → length (written_of ns) ≡ written_size ns
unfolding written_of written_size
length-written [] = refl
length-written (n ∷ ns) = rw (length-append (node_bytes n ns) (written_of ns), length-node n ns, length-written ns)
