-- Frames of an accepted object are answered by its number of rows; and a list of 256 counts and four numbers has each at its place.
use Rattle.std.specs.Prelude.{Some, Result, Ok, Err}
use mathlib.Core.Path.{◌≡◌, sym, ap, ◌∙◌}
use mathlib.Core.List.{List, [], ◌∷◌, ◌++◌}
use Prim.Native.Nat.{ℕ, suc, ◌+◌, ◌-◌, ◌≤◌, ◌<◌}
use lib.ListN.{length, get_or, length-append, length-replicate, get_or-append, get_or-eq_default}
use native.Mathlib.Omega.{arith}
use borrow.Author.Tests.{le-leb}
use Rattle.node.specs.Nodes.{Node, nodes_of}
use Rattle.element.specs.Frames.{frames_of}
use Rattle.conformance.specs.Judging.{accept_of}
use Rattle.sheet.specs.declared.SheetError.{SheetError}
use Rattle.lines.proofs.Lists.{up_to-length}
use Rattle.sheet.specs.Sheet.{times, levels_of, frames_sheet}
use Rattle.sheet.specs.Answer.{accepted_answer, answer_for, sheet_for, sheet_of}

module _ (ns : List Node) (a b count : ℕ) where
  pub frames-done : a ≤ b → (n : ℕ) → frames_of ns ≡ Some n → 1 ≤ a → b ≤ n → accepted_answer ns a b count ≡ Ok count
  unfolding accepted_answer
  frames-done order n e low
      high = rw (le-leb a b order, e, le-leb 1 a low, le-leb a n (omega arith), le-leb 1 b (omega arith), le-leb b n high)

-- ---- The numbers of a sheet

append_at : (l r : List ℕ) (k : ℕ) → get_or (l ++ r) (length l + k) 0 ≡ get_or r k 0
append_at [] r k =
    let e : 0 + k ≡ k = omega arith in
    ap (λ (x : ℕ). get_or r x 0) e
append_at (x ∷ l) r k =
    let e : length (x ∷ l) + k ≡ suc (length l + k) = omega arith in
    ap (λ (y : ℕ). get_or (x ∷ (l ++ r)) y 0) e ∙ append_at l r k

pub behind : (l r : List ℕ) (k j : ℕ) → length l ≡ 256 → j ≡ 256 + k → get_or r k 0 ≡ get_or (l ++ r) j 0
behind l r k j e h =
    let q : length l + k ≡ j = omega arith in
    sym (append_at l r k) ∙ ap (λ (x : ℕ). get_or (l ++ r) x 0) q

pub in-front : (l r : List ℕ) (k : ℕ) → length l ≡ 256 → k < 256 → get_or l k 0 ≡ get_or (l ++ r) k 0
in-front l r k e h = sym (get_or-append l r 0 k (omega arith))

pub beyond : (l r : List ℕ) (k : ℕ) → length l ≡ 256 → 256 + length r ≤ k → 0 ≡ get_or (l ++ r) k 0
beyond l r k e h = sym (get_or-eq_default (l ++ r) 0 {n = k} (omega (arith, length-append l r)))

-- A sheet has 256 counts, whatever the answer.
pub counts-many : (s : List ℕ) (a b : ℕ) (buffer : List ℕ) → length (sheet_of s a b buffer).sheet.counts ≡ 256
unfolding sheet_of frames_sheet
counts-many s a b buffer = go (answer_for (nodes_of s) a b (accept_of s buffer))
  where
    go : (r : Result ℕ SheetError) → length (sheet_for (nodes_of s) a b r).counts ≡ 256
    go (Ok n) = up_to-length (λ y. times y (levels_of (nodes_of s) a (b - a + 1))) 256
    go (Err e) = length-replicate {A = ℕ} 256 0
