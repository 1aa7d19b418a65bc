-- `write_canonical` answers as defined, because the canonical form is no longer than the data set.
use Rattle.std.specs.Prelude.{Ok, Err}
use mathlib.Core.Path.{◌≡◌, sym, ap, ◌∙◌}
use Prim.Native.Nat.{ℕ, ◌≤◌, ◌<◌}
use native.Mathlib.Omega.{arith}
use native.Mathlib.Nat.{zero-add}
use borrow.Author.Tests.{le-leb, lt-leb}
use mathlib.Core.List.{List, ◌++◌, map}
use lib.ListN.{length, drop}
use lib.Seq.{sets-eq, slice}
use Rattle.basics.specs.Limits.{largest}
use Rattle.dataset.specs.Reading.{Reading, too_large, refused_at, read, reading_of}
use Rattle.dataset.specs.Answer.{answer_of, flat}
use Rattle.dataset.specs.Tree.{rows_in, rows_of}
use Rattle.node.specs.Nodes.{node_of, nodes_of}
use Rattle.node.proofs.Laws.{tabled, next-within}
use Rattle.canonical.specs.declared.CanonicalError.TheVariants.{NoTargetRoom}
use Rattle.canonical.specs.Internal.{Fitting, WroteNodes}
use Rattle.canonical.specs.Written.{written_size, written_of}
use Rattle.canonical.specs.Answer.{written, canonical_of, target_of}
use Rattle.canonical.proofs.Read.{Readable, reading-shape}
use Rattle.canonical.proofs.Sizes.{slice_all, length-written}
use Rattle.canonical.proofs.Members.{wrote-all}

-- ---- Sizes

-- Both hold of any list, since one that is refused has no nodes.
record Few (s : List ℕ) (size : ℕ) : Type 0 where
  fits : size ≤ length s
  small : size ≤ largest

nodes-few : (s : List ℕ) → Few s (written_size (nodes_of s))
unfolding nodes_of rows_of written_size
nodes-few s = go (reading_of s) (reading-shape s)
  where
    go : (o : Reading) → Readable s o → Few s (written_size (map (node_of s) (rows_in o)))
    go too_large r = record { fits = omega arith; small = omega arith }
    go (refused_at fault offset) r = record { fits = omega arith; small = omega arith }
    go (read rows) r = record { fits = r.fits; small = omega (arith, r.fits, r.small) }

pub written-fits : (s : List ℕ) → written_size (nodes_of s) ≤ length s
written-fits s = (nodes-few s).fits

pub written-small : (s : List ℕ) → written_size (nodes_of s) ≤ largest
written-small s = (nodes-few s).small

-- The canonical form is no longer than the data set.
pub form-fits : (s : List ℕ) → length (written_of (nodes_of s)) ≤ length s
form-fits s = omega (arith, length-written (nodes_of s), written-fits s)

pub form_small : (s : List ℕ) → length (written_of (nodes_of s)) ≤ largest
form_small s = omega (arith, length-written (nodes_of s), written-small s)

-- ---- The answer and the target

pub fitting-all : (s target : List ℕ) {n : ℕ} → n ≡ length (nodes_of s) → written_size (nodes_of s) ≤ length target
    → Fitting (nodes_of s) target 0 n 0
fitting-all s target {n} c h =
    record {
      low = omega arith;
      high = omega arith;
      whole = λ k l m. omega (arith, next-within s (flat (rows_of s)) (tabled s) k (omega arith));
      room = omega arith;
    }

module _ (s before target : List ℕ) (n : ℕ) (e : Ok n ≡ answer_of (reading_of s) before) (c : n ≡ length (nodes_of s)) where
  pub short-answer : (size : ℕ) → size ≡ written_size (slice 0 n (nodes_of s)) → length target < written_size (nodes_of s)
      → (Err (NoTargetRoom size) ≡ canonical_of s before target) × (target ≡ target_of s before target)
  unfolding canonical_of target_of
  short-answer size k h =
      let q : size ≡ length (written_of (nodes_of s)) = k ∙ ap written_size (slice_all (nodes_of s) n c) ∙ sym (length-written (nodes_of s)) in
      let f = lt-leb (length (written_of (nodes_of s))) (length target)
      (omega (arith, length-written (nodes_of s))) in
      (rw (← e, f, q), rw (← e, f))

  pub done-answer : (size : ℕ) (after : List ℕ) → WroteNodes (nodes_of s) target after 0 0 n size
      → written_size (nodes_of s) ≤ length target
      → (Ok (written n size) ≡ canonical_of s before target) × (after ≡ target_of s before target)
  unfolding canonical_of target_of
  done-answer size after w h =
      let o = wrote-all w c in
      let q : size ≡ length (written_of (nodes_of s)) = o.0 ∙ sym (length-written (nodes_of s)) in
      let l : length (written_of (nodes_of s)) ≤ length target = omega (arith, length-written (nodes_of s)) in
      let f = le-leb (length (written_of (nodes_of s))) (length target) l in
      let z = sets-eq (written_of (nodes_of s)) target 0 (omega arith)
      ∙ ap (λ (j : ℕ). written_of (nodes_of s) ++ drop j target) (zero-add (length (written_of (nodes_of s)))) in
      (rw (← e, f, q), rw (← e, f) (o.1.is ∙ z))
