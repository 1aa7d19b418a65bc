-- The lines of a frame counted one after the other are its cells counted, since a tally of two lists is that of the one after the other.
use mathlib.Core.Path.{◌≡◌, sym, ap, ◌∙◌}
use mathlib.Core.List.{List, [], ◌∷◌}
use Prim.Native.Nat.{ℕ, ◌+◌, ◌*◌, ◌≤◌, ◌<◌}
use native.Mathlib.Nat.{mul-le-mul_right}
use native.Mathlib.Omega.{arith}
use lib.ListN.{length, get_or, set}
use Rattle.basics.specs.Lists.{up_to}
use Rattle.lines.proofs.Lists.{up_to-length, up_to-plus}
use Rattle.sheet.specs.Internal.{tallied, Room}
use Rattle.sheet.proofs.Counts.{tallied-append, bump-most}

-- ---- Lines

pub tallied-most : (l c : List ℕ) (y : ℕ) → get_or (tallied l c) y 0 ≤ get_or c y 0 + length l
unfolding tallied
tallied-most [] c y = omega arith
tallied-most (x ∷ l) c y = omega (arith, bump-most c x y, tallied-most l (set c x (get_or c x 0 + 1)) y)

-- One line more.
pub line-more : (f : ℕ → ℕ) (row columns : ℕ) (c now after line : List ℕ) → now ≡ tallied (up_to f (row * columns)) c
    → line ≡ up_to (λ k. f (row * columns + k)) columns → after ≡ tallied line now → after ≡ tallied (up_to f ((row + 1) * columns)) c
line-more f row columns c now after line a b e =
    let n : (row + 1) * columns ≡ row * columns + columns = omega arith in
    e ∙ (ap (λ (l : List ℕ). tallied l now) b ∙ (ap (tallied (up_to (λ k. f (row * columns + k)) columns)) a
    ∙ (sym (tallied-append (up_to f (row * columns)) (up_to (λ k. f (row * columns + k)) columns) c)
    ∙ ap (λ (l : List ℕ). tallied l c) (sym (up_to-plus f (row * columns) columns) ∙ ap (up_to f) (sym n)))))

-- Room for a line, of those that are left.
pub line-room : (f : ℕ → ℕ) (row rows columns l : ℕ) (c now : List ℕ) → now ≡ tallied (up_to f (row * columns)) c → Room c (rows * columns)
    → row < rows → l ≡ columns → Room now l
line-room f row rows columns l c now a room h e =
    let m : (row + 1) * columns ≤ rows * columns = mul-le-mul_right columns (omega arith) in
    let n : (row + 1) * columns ≡ row * columns + columns = omega arith in
    record {
      below = λ y. rw (a, e) (omega (arith, tallied-most (up_to f (row * columns)) c y, up_to-length f (row * columns), room.below y));
    }

pub no_line : (f : ℕ → ℕ) (columns : ℕ) (c : List ℕ) → c ≡ tallied (up_to f (0 * columns)) c
unfolding tallied up_to
no_line f columns c =
    let z : 0 * columns ≡ 0 = omega arith in
    rw z
