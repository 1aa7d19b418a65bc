-- A US's values, one after the other, and the group that a frame's own item or the shared one holds.
use Rattle.std.specs.Prelude.{Option, Some, None}
use mathlib.Core.Path.{◌≡◌, refl}
use Prim.Native.Nat.{ℕ, ◌+◌, ◌*◌, ◌/◌, ◌≤◌, ◌<◌}
use native.Mathlib.Omega.{arith}
use mathlib.Core.List.{List}
use mathlib.Core.Bool.{Bool, true, false, ◌&&◌}
use lib.ListN.{length, get_or, drop}
use lib.Dec.{leb}
use borrow.Author.Tests.{le-leb}
use Rattle.value.specs.Number.{us_values}
use Rattle.value.proofs.Laws.{us_values-length, value-next, values-end, pair-at}
use Rattle.node.specs.Nodes.{Node, inside}
use Rattle.node.specs.Find.{holds, and_then, or_else, find, of_vr, filled}
use Rattle.node.specs.Internal.{holds_or}
use Rattle.basics.specs.Vr.{SQ}
use Rattle.basics.specs.Tags.{FramePixelShiftSequence}
use Rattle.rules.specs.Mask.{pairs_fit, has_shift_group}
use Rattle.rules_mask.specs.Internal.{has_shifts}

-- ---- Along values

pub ruleset values_along = (us_values-length, value-next, values-end, pair-at)

-- ---- Numbers compared

-- A number that was read (n) is the number that is meant (m), and was compared with k.
module _ {n m : ℕ} (k : ℕ) (e : n ≡ m) where
  pub at_least : k ≤ n → leb k m ≡ true
  at_least h = le-leb k m (omega arith)

  pub at_most : n ≤ k → leb m k ≡ true
  at_most h = le-leb m k (omega arith)

-- ---- Pairs of a US

module _ (n : ℕ) (v : List ℕ) (k : ℕ) where
  pub pairs_end : 2 * k ≡ length v / 2 → pairs_fit n (drop (2 * k) (us_values v)) ≡ true
  unfolding pairs_fit
  pairs_end e = rw (values-end v (2 * k) e)

  module _ (a b : ℕ) (ea : a ≡ get_or (us_values v) (2 * k) 0) (eb : b ≡ get_or (us_values v) (2 * k + 1) 0) (h : 2 * k + 1 < length v / 2) where
    pub pairs_next : (leb 1 a && (leb a b && leb b n)) ≡ true
        → pairs_fit n (drop (2 * k) (us_values v)) ≡ pairs_fit n (drop (2 * (k + 1)) (us_values v))
    unfolding pairs_fit
    pairs_next q = rw (pair-at v k a b ea eb h, q)

-- ---- The shared group, looked up once

group-shift : (a b : Option ℕ) (p : ℕ → Option ℕ) (q : ℕ → Bool)
    → holds (and_then (or_else a b) p) q ≡ holds_or a (λ g. holds (p g) q) (holds_or b (λ g. holds (p g) q) false)
group-shift (Some k) b p q = refl
group-shift None (Some k) p q = refl
group-shift None None p q = refl

pub shift-apart : (ns : List Node) (s i : ℕ) → has_shift_group ns s i ≡ has_shifts ns i (has_shifts ns s false)
unfolding has_shift_group has_shifts
shift-apart ns s i = group-shift (find ns FramePixelShiftSequence (inside ns i)) (find ns FramePixelShiftSequence (inside ns s))
    (of_vr ns SQ) (filled ns)
