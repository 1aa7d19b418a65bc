-- Cells that are off, place by place and line by line: what was seen of the first lines, gone on with, comes to what is seen of all.
use mathlib.Core.Path.{◌≡◌, refl, sym, ap, ◌∙◌, subst}
use mathlib.Core.Bool.{Bool, true, false, cond, not, ◌&&◌}
use mathlib.Core.List.{List}
use Prim.Native.Nat.{ℕ, zero, suc, ◌+◌, ◌*◌, ◌≤◌, ◌<◌}
use native.Mathlib.Nat.{add-zero, add-suc, mul-le-mul, mul-le-mul_right}
use native.Mathlib.Omega.{arith}
use lib.ListN.{length, get_or}
use lib.Dec.{leb, ltb, eqb}
use borrow.Author.Tests.{le-leb, lt-leb, lt-ltb, le-ltb, eq-eqb, ne_eqb, leb-true, leb-false}
use Rattle.basics.specs.Lists.{up_to}
use Rattle.lines.proofs.Lists.{up_to-length, up_to-at}
use Rattle.differences.specs.declared.Differing.{Differing}
use Rattle.differences.specs.Differences.{within, is_off, how_many, first_off}
use Rattle.differences.specs.Internal.{seen, along, none_off, off_by, met, Against, LineOf}

-- ---- One cell

pub off-above : (t x y : ℕ) → y + t < x → true ≡ not (within t x y)
off-above t x y h = rw (lt-leb x (y + t) h)

within-is : (t x y : ℕ) (b : Bool) → x ≤ y + t → leb y (x + t) ≡ b → within t x y ≡ b
within-is t x y b h e = rw (le-leb x (y + t) h, e)

pub off-below : (t x y : ℕ) → x ≤ y + t → ltb (x + t) y ≡ not (within t x y)
off-below t x y h = go (leb y (x + t)) refl
  where
    go : (b : Bool) → leb y (x + t) ≡ b → ltb (x + t) y ≡ not (within t x y)
    go true e = le-ltb (x + t) y (leb-true y (x + t) e) ∙ sym (ap not (within-is t x y true h e))
    go false e = lt-ltb (x + t) y (leb-false y (x + t) e) ∙ sym (ap not (within-is t x y false h e))

seen_most : (off : Bool) (i : ℕ) (d : Differing) → (seen off i d).count ≤ d.count + 1
unfolding seen
seen_most true i d = omega arith
seen_most false i d = omega arith

-- ---- Cells of a line

pub along-none : (off : ℕ → Bool) (at : ℕ) (d : Differing) → d ≡ along off at 0 d
unfolding along
along-none off at d = refl

pub along-most : (off : ℕ → Bool) (at n : ℕ) (d : Differing) → (along off at n d).count ≤ d.count + n
unfolding along
along-most off at zero d = omega arith
along-most off at (suc n) d = omega (arith, along-most off at n d, seen_most (off n) (at + n) (along off at n d))

pub along-next : (off : ℕ → Bool) (at k : ℕ) (d now after : Differing) (b : Bool) → now ≡ along off at k d → b ≡ off k
    → after ≡ seen b (at + k) now → after ≡ along off at (k + 1) d
unfolding along
along-next off at k d now after b a e r =
    let n : k + 1 ≡ suc k = omega arith in
    r ∙ (ap (λ (x : Bool). seen x (at + k) now) e ∙ (ap (seen (off k) (at + k)) a ∙ ap (λ (i : ℕ). along off at i d) (sym n)))

along-same : (p q : ℕ → Bool) (at n : ℕ) (d : Differing) → ((k : ℕ) → k < n → p k ≡ q k) → along p at n d ≡ along q at n d
unfolding along
along-same p q at zero d e = refl
along-same p q at (suc n) d e =
    ap (λ (x : Bool). seen x (at + n) (along p at n d)) (e n (omega arith))
    ∙ ap (seen (q n) (at + n)) (along-same p q at n d (λ k h. e k (omega arith)))

along-plus : (off : ℕ → Bool) (m n : ℕ) (d : Differing) → along off 0 (m + n) d ≡ along (λ k. off (m + k)) m n (along off 0 m d)
unfolding along
along-plus off m zero d = ap (λ (i : ℕ). along off 0 i d) (add-zero m)
along-plus off m (suc n) d =
    let z : 0 + (m + n) ≡ m + n = omega arith in
    ap (λ (i : ℕ). along off 0 i d) (add-suc m n)
    ∙ (ap (λ (i : ℕ). seen (off (m + n)) i (along off 0 (m + n) d)) z ∙ ap (seen (off (m + n)) (m + n)) (along-plus off m n d))

-- ---- Lines of a frame

pub no_line : (t : ℕ) (f : ℕ → ℕ) (cells : List ℕ) (columns : ℕ) → none_off ≡ met t f cells (0 * columns)
unfolding met along
no_line t f cells columns =
    let z : 0 * columns ≡ 0 = omega arith in
    rw z

-- One line more.
pub line-more : (t : ℕ) (f : ℕ → ℕ) (cells : List ℕ) (row columns : ℕ) (now after : Differing) (line : List ℕ)
    → now ≡ met t f cells (row * columns)
    → line ≡ up_to (λ k. f (row * columns + k)) columns
    → after ≡ along (λ k. not (within t (get_or line k 0) (get_or cells (row * columns + k) 0))) (row * columns) (length line) now
    → after ≡ met t f cells ((row + 1) * columns)
unfolding met off_by
line-more t f cells row columns now after line a b e =
    let n : (row + 1) * columns ≡ row * columns + columns = omega arith in
    let l : length line ≡ columns = ap length b ∙ up_to-length (λ k. f (row * columns + k)) columns in
    let off : ℕ → Bool = off_by t f cells in
    e ∙ (ap (λ (i : ℕ). along (λ k. not (within t (get_or line k 0) (get_or cells (row * columns + k) 0))) (row * columns) i now) l
    ∙ (along-same (λ k. not (within t (get_or line k 0) (get_or cells (row * columns + k) 0))) (λ k. off (row * columns + k)) (row * columns)
    columns now
    (λ k h. ap (λ (x : ℕ). not (within t x (get_or cells (row * columns + k) 0)))
    (ap (λ (l : List ℕ). get_or l k 0) b ∙ up_to-at (λ k. f (row * columns + k)) columns k h))
    ∙ (ap (along (λ k. off (row * columns + k)) (row * columns) columns) a
    ∙ (sym (along-plus off (row * columns) columns none_off) ∙ ap (λ (i : ℕ). along off 0 i none_off) (sym n)))))

pub line_of : (t : ℕ) (f : ℕ → ℕ) (cells : List ℕ) (row rows columns : ℕ) (now : Differing) (line : List ℕ)
    → now ≡ met t f cells (row * columns)
    → Against cells t (rows * columns) → row < rows → length line ≡ columns → LineOf line cells (row * columns) t now
unfolding met
line_of t f cells row rows columns now line a g h l =
    let m : (row + 1) * columns ≤ rows * columns = mul-le-mul_right columns (omega arith) in
    let n : (row + 1) * columns ≡ row * columns + columns = omega arith in
    let c : (along (off_by t f cells) 0 (row * columns) none_off).count
    ≤ row * columns = omega (arith, along-most (off_by t f cells) 0 (row * columns) none_off) in
    record {
      inside = omega (arith, g.size, l, m, n);
      most = g.most;
      few = subst (λ (d : Differing). d.count ≤ row * columns) (sym a) c;
    }

pub place-fits : (row rows columns : ℕ) → row < rows → rows ≤ 65535 → columns ≤ 65535 → row * columns < 18446744073709551616
place-fits row rows columns h r c =
    let m : row * columns ≤ 65535 * 65535 = mul-le-mul {n₁ = row} {m₁ = columns} {n₂ = 65535} {m₂ = 65535} (omega arith) c in
    omega (arith, m)

-- ---- The levels of a picture

pub met-list : (t : ℕ) (f : ℕ → ℕ) (cells ours : List ℕ) (n : ℕ) → ours ≡ up_to f n
    → met t f cells n ≡ along (is_off t ours cells) 0 n none_off
unfolding met off_by is_off
met-list t f cells ours n e =
    along-same (off_by t f cells) (is_off t ours cells) 0 n none_off
    (λ k h. ap (λ (x : ℕ). not (within t x (get_or cells k 0))) (sym (ap (λ (l : List ℕ). get_or l k 0) e ∙ up_to-at f n k h)))

pub met-same : (t : ℕ) (f h : ℕ → ℕ) (cells : List ℕ) (n : ℕ) → ((k : ℕ) → k < n → f k ≡ h k) → met t f cells n ≡ met t h cells n
unfolding met off_by
met-same t f h cells n e =
    along-same (off_by t f cells) (off_by t h cells) 0 n none_off (λ k l. ap (λ (x : ℕ). not (within t x (get_or cells k 0))) (e k l))

-- ---- The first that is off, and how many are

counted : (off : Bool) (i first count : ℕ) → seen off i (record { first = first; count = count })
    ≡ record { first = cond (off && eqb count 0) i first; count = cond off 1 0 + count }
unfolding seen
counted true i first count =
    let e : count + 1 ≡ 1 + count = omega arith in
    ap (λ (k : ℕ). record { first = cond (eqb count 0) i first; count = k }) e
counted false i first count =
    let e : count ≡ 0 + count = omega arith in
    ap (λ (k : ℕ). record { first = first; count = k }) e

pub seen_all : (off : ℕ → Bool) (n : ℕ) → along off 0 n none_off ≡ record { first = first_off off n; count = how_many off n }
unfolding along how_many first_off
seen_all off zero = refl
seen_all off (suc n) =
    let z : 0 + n ≡ n = omega arith in
    ap (λ (i : ℕ). seen (off n) i (along off 0 n none_off)) z
    ∙ (ap (seen (off n) n) (seen_all off n) ∙ counted (off n) n (first_off off n) (how_many off n))
