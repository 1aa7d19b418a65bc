-- Nodes put one after another, what is below a node before its header: the header is put in front of bytes that it does not touch.
use mathlib.Core.Path.{◌≡◌, refl, sym, ap, ◌∙◌, subst}
use Prim.Native.Nat.{ℕ, suc, ◌+◌, ◌-◌, ◌≤◌, ◌<◌}
use native.Mathlib.Omega.{arith}
use mathlib.Core.List.{List, [], ◌∷◌, ◌++◌, append_assoc}
use lib.ListN.{length, take, drop, drop_of_length-le}
use lib.Seq.{sets, drop-cons, drop-drop}
use Rattle.dataset.proofs.Buffer.{sets-append, sets-swap}
use Rattle.dataset.specs.Tree.{rows_of, next_row}
use Rattle.dataset.proofs.Laws.{row-nested}
use Rattle.dataset.specs.Answer.{flat}
use Rattle.node.specs.Nodes.{Node, nodes_of, node_at, next_node, no_node}
use Rattle.node.proofs.Laws.{tabled, nodes-count, node-is, next-within}
use Rattle.canonical.specs.Internal.{Put, Fitting, WroteNodes}
use Rattle.canonical.specs.Written.{header, head_size, own_size, written_size, node_bytes, written_of}
use Rattle.canonical.proofs.Shape.{length-header}
use Rattle.canonical.proofs.Sizes.{size-next, size-split, own_is}

pub wrote_none : (ns : List Node) (target : List ℕ) (i at : ℕ) → WroteNodes ns target target i at i at
wrote_none ns target i at = record { place = refl; kept = refl; rest = refl }

pub wrote_then : {ns : List Node} {t t₁ t₂ : List ℕ} {i at j p k q : ℕ} → WroteNodes ns t t₁ i at j p → WroteNodes ns t₁ t₂ j p k q
    → WroteNodes ns t t₂ i at k q
wrote_then a b = record { place = b.place ∙ a.place; kept = b.kept ∙ a.kept; rest = b.rest ∙ a.rest }

module _ (ns : List Node) (i : ℕ) (h : i < length ns) where
  abbrev pub node : Node
  node = node_at ns i

  abbrev pub after : List Node
  after = drop (i + 1) ns

  drops : drop i ns ≡ node ∷ after
  drops =
      let b : i + 1 ≡ suc i = omega arith in
      drop-cons ns i no_node h ∙ ap (λ (k : ℕ). node ∷ drop k ns) (sym b)

  -- The length that the header is given.
  inner-size : (next inside p end size : ℕ) (value : List ℕ) → next ≡ i + 1 + node.descendants → p ≡ inside + length value
      → end + written_size (drop next ns) ≡ p + written_size after → size ≡ end - inside
      → size ≡ length value + written_size (take node.descendants after)
  inner-size next inside p end size value e q w z =
      let d : drop next ns
      ≡ drop node.descendants after = ap (λ (k : ℕ). drop k ns) e ∙ sym (drop-drop node.descendants (i + 1) ns) in
      let s : written_size (drop next ns) ≡ written_size (drop node.descendants after) = ap written_size d in
      omega (arith, size-split node.descendants after)

  pub wrote-node : {t t₁ t₂ t₃ : List ℕ} {at inside p end next tag vr size : ℕ} {value : List ℕ}
      → tag ≡ node.tag → vr ≡ node.vr → value ≡ node.value → next ≡ i + 1 + node.descendants → inside ≡ at + head_size vr
      → Put t t₁ inside value → p ≡ inside + length value → WroteNodes ns t₁ t₂ (i + 1) p next end → size ≡ end - inside
      → Put t₂ t₃ at (header tag vr size)
      → inside ≤ end → WroteNodes ns t t₃ i at next end
  unfolding node_bytes written_of
  wrote-node {t} {t₁} {t₂} {t₃} {at} {inside} {p} {end} {next} {tag} {vr} {size} {value} a b c e f x q w z y g =
      let k : size
      ≡ length value + written_size (take node.descendants after) = inner-size next inside p end size value e q w.place z in
      let head : List ℕ = header tag vr size in
      let l : length head ≡ head_size vr = length-header tag vr size in
      let m : List ℕ = written_of after in
      let bytes : node_bytes node after ≡ head ++ value = rw (← a, ← b, ← c, ← k) in
      let own : own_size node ≡ head_size vr + length value = own_is ns i b c in
      record {
        place = omega (arith, w.place, size-next ns i h);
        kept = y.kept ∙ w.kept ∙ x.kept;
        rest = ap (λ (u : List ℕ). sets u end (written_of (drop next ns))) y.is
            ∙ sets-swap head t₂ at end (written_of (drop next ns)) (omega arith)
            ∙ ap (λ (u : List ℕ). sets u at head) (w.rest ∙ ap (λ (u : List ℕ). sets u p m) x.is
            ∙ ap (λ (j : ℕ). sets (sets t inside value) j m) q ∙ sym (sets-append value t inside m))
            ∙ sym (sets-swap head t at inside (value ++ m) (omega arith))
            ∙ ap (λ (j : ℕ). sets (sets t at head) j (value ++ m)) (f ∙ ap (λ (j : ℕ). at + j) (sym l))
            ∙ sym (sets-append head t at (value ++ m))
            ∙ ap (λ (u : List ℕ). sets t at u) (sym (append_assoc head value m) ∙ ap (λ (u : List ℕ). u ++ m) (sym bytes))
            ∙ ap (λ (u : List Node). sets t at (written_of u)) (sym drops);
      }

  -- A node with nothing below it.
  pub wrote-leaf : {t t₁ t₂ : List ℕ} {at inside next tag vr : ℕ} {value : List ℕ}
      → tag ≡ node.tag → vr ≡ node.vr → value ≡ node.value → next ≡ i + 1 + node.descendants → next ≡ i + 1 → inside ≡ at + head_size vr
      → Put t t₁ inside value → Put t₁ t₂ at (header tag vr (length value)) → WroteNodes ns t t₂ i at next (inside + length value)
  wrote-leaf {t} {t₁} {t₂} {at} {inside} {next} {tag} {vr} {value} a b c e n f x y =
      wrote-node a b c e f x refl
      (subst (λ (k : ℕ). WroteNodes ns t₁ t₁ (i + 1) (inside + length value) k (inside + length value)) (sym n)
      (wrote_none ns t₁ (i + 1) (inside + length value)))
      (omega arith) y (omega arith)

pub wrote-all : {ns : List Node} {t t₁ : List ℕ} {n at : ℕ} → WroteNodes ns t t₁ 0 0 n at → n ≡ length ns
    → (at ≡ written_size ns) × Put t t₁ 0 (written_of ns)
unfolding written_size written_of
wrote-all {ns} {t} {t₁} {n} {at} w e =
    let d : drop n ns ≡ drop (length ns) ns = ap (λ (k : ℕ). drop k ns) e in
    let o : length ns ≤ length ns = omega arith in
    let z : drop n ns ≡ [] = d ∙ drop_of_length-le ns o in
    let s : written_size (drop n ns) ≡ 0 = ap written_size z in
    (omega (arith, w.place), record { is = ap (λ (l : List Node). sets t₁ at (written_of l)) (sym z) ∙ w.rest; kept = w.kept })

-- ---- The loop: what stands so far, and what a turn needs

pub record Going (ns : List Node) (target₀ target : List ℕ) (from start to i at : ℕ) : Type 0 where
  pub low : from ≤ i
  pub high : i ≤ to
  pub wrote : WroteNodes ns target₀ target from start i at

pub going-first : {ns : List Node} {target : List ℕ} {from to start : ℕ} → Fitting ns target from to start
    → Going ns target target from start to from start
going-first {ns} {target} {from} {to} {start} f = record { low = omega arith; high = f.low; wrote = wrote_none ns target from start }

next_row_is : (s : List ℕ) (k : ℕ) → k < length (nodes_of s) → next_node (nodes_of s) k ≡ next_row (rows_of s) k
next_row_is s k h = ap (λ (n : Node). k + 1 + n.descendants) (node-is s (flat (rows_of s)) (tabled s) k h)

-- What is below a node ends within what is below the node that it is in.
nested : (s : List ℕ) (i k : ℕ) → i < length (nodes_of s) → i < k → k < next_node (nodes_of s) i
    → next_node (nodes_of s) k ≤ next_node (nodes_of s) i
nested s i k h l m =
    let w : next_node (nodes_of s) i ≤ length (nodes_of s) = next-within s (flat (rows_of s)) (tabled s) i h in
    let a = next_row_is s i h in
    let b = next_row_is s k (omega arith) in
    omega (arith, row-nested s i (omega (arith, nodes-count s)) k l (omega arith))

module _ (s : List ℕ) {target₀ target : List ℕ} {from start to i at : ℕ} (f : Fitting (nodes_of s) target₀ from to start)
    (g : Going (nodes_of s) target₀ target from start to i at) (h : i < to) where
  pub turn-known : i < length (nodes_of s)
  turn-known = omega (arith, f.high)

  pub turn-room : {vr : ℕ} {value : List ℕ} → vr ≡ (node_at (nodes_of s) i).vr → value ≡ (node_at (nodes_of s) i).value
      → at + head_size vr + length value + written_size (drop (i + 1) (nodes_of s)) ≤ length target
  turn-room {vr} {value} a b =
      omega (arith, f.room, g.wrote.place, g.wrote.kept, size-next (nodes_of s) i turn-known, own_is (nodes_of s) i a b)

  pub turn-fits : {target₁ : List ℕ} {vr inside p next : ℕ} {value : List ℕ} → vr ≡ (node_at (nodes_of s) i).vr
      → value ≡ (node_at (nodes_of s) i).value
      → inside ≡ at + head_size vr → p ≡ inside + length value → next ≡ next_node (nodes_of s) i → length target₁ ≡ length target
      → Fitting (nodes_of s) target₁ (i + 1) next p
  turn-fits {target₁} {vr} {inside} {p} {next} {value} a b d q e k =
      record {
        low = omega arith;
        high = omega (arith, f.whole i g.low h, f.high);
        whole = λ j l m. omega (arith, nested s i j turn-known (omega arith) (omega arith));
        room = omega (arith, turn-room a b);
      }

  pub turn-next : {next : ℕ} → next ≡ next_node (nodes_of s) i → (i + 1 ≤ next) × (next ≤ to)
  turn-next e = (omega arith, omega (arith, f.whole i g.low h))

  pub turn_end : {target₁ target₂ : List ℕ} {p next end : ℕ} → next ≡ next_node (nodes_of s) i
      → WroteNodes (nodes_of s) target₁ target₂ (i + 1) p next end → p ≤ end
  turn_end {target₁} {target₂} {p} {next} {end} e w =
      let d : drop next (nodes_of s) ≡ drop (node_at (nodes_of s) i).descendants (drop (i + 1) (nodes_of s)) =
      ap (λ (k : ℕ). drop k (nodes_of s)) e ∙ sym (drop-drop (node_at (nodes_of s) i).descendants (i + 1) (nodes_of s)) in
      let z : written_size (drop next (nodes_of s))
      ≡ written_size (drop (node_at (nodes_of s) i).descendants (drop (i + 1) (nodes_of s))) = ap written_size d in
      omega (arith, w.place, size-split (node_at (nodes_of s) i).descendants (drop (i + 1) (nodes_of s)))

  pub going_next : {target₁ : List ℕ} {next end : ℕ} → next ≡ next_node (nodes_of s) i → WroteNodes (nodes_of s) target target₁ i at next end
      → Going (nodes_of s) target₀ target₁ from start to next end
  going_next e w =
      record { low = omega (arith, g.low); high = omega (arith, f.whole i g.low h); wrote = wrote_then g.wrote w }

pub going-last : {ns : List Node} {target₀ target : List ℕ} {from start to i at : ℕ} → Going ns target₀ target from start to i at → to ≤ i
    → WroteNodes ns target₀ target from start to at
going-last {ns} {target₀} {target} {from} {start} {to} {i} {at} g h =
    let e : i ≡ to = omega (arith, g.high) in
    subst (λ (k : ℕ). WroteNodes ns target₀ target from start k at) e g.wrote
