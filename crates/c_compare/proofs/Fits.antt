-- The numbers of every answer of `compare` fit 32 bits: they are the judge's, or places and counts of a picture's cells, and a picture has
-- at most 65,535 × 65,535 of them.
use Rattle.std.specs.Prelude.{Option, Some, None, Result, Ok, Err}
use mathlib.Core.Path.{◌≡◌, refl}
use mathlib.Core.Bool.{Bool, true, false, cond, ◌&&◌}
use mathlib.Core.List.{List}
use Prim.Native.Nat.{ℕ, zero, suc, ◌+◌, ◌*◌, ◌≤◌, ◌<◌}
use native.Mathlib.Nat.{mul-le-mul}
use native.Mathlib.Omega.{arith}
use lib.Dec.{eqb, leb}
use lib.ListN.{length}
use Rattle.value.specs.Number.{number_or0}
use Rattle.basics.specs.Bytes.{IsBytes}
use Rattle.basics.specs.Fields.{Fields, code_alone, counted}
use Rattle.node.specs.Nodes.{Node, nodes_of, root}
use Rattle.basics.specs.Tags
use Rattle.element.specs.Elements.{us_in}
use Rattle.conformance.specs.declared.NotAccepted.{NotAccepted}
use Rattle.conformance.specs.Judging.{accept_of, refusal_fields}
use Rattle.display.specs.Show.{is_frame_of, image_size, picture_of}
use Rattle.display.proofs.Small.{us-in-small}
use Rattle.compare.specs.declared.Comparison.TheVariants as comparison
use Rattle.compare.specs.declared.CompareError.TheVariants as error
use Rattle.differences.specs.Differences.{is_off, how_many, first_off}
use Rattle.compare.specs.Answer.{compared_by, accepted_answer, answer_for, compare_of, without_cell, fields_of}
use Rattle.c_answers.specs.Internal.{Fits32}
use Rattle.c_answers.proofs.Fits.{alone-fits}
use Rattle.c_judge.proofs.Fits.{AcceptFits, accept-fits}
use Rattle.c_compare.specs.Internal.{CompareFits32}

-- ---- Places and counts

count_most : (off : ℕ → Bool) (n : ℕ) → how_many off n ≤ n
unfolding how_many
count_most off zero = omega arith
count_most off (suc n) = go (off n) (count_most off n)
  where
    go : (b : Bool) → how_many off n ≤ n → cond b 1 0 + how_many off n ≤ suc n
    go true h = omega arith
    go false h = omega arith

first-most : (off : ℕ → Bool) (n : ℕ) → first_off off n ≤ n
unfolding first_off
first-most off zero = omega arith
first-most off (suc n) = go (off n && eqb (how_many off n) 0) (first-most off n)
  where
    go : (b : Bool) → first_off off n ≤ n → cond b n (first_off off n) ≤ suc n
    go true h = omega arith
    go false h = omega arith

number_small : (n : Option ℕ) → ((k : ℕ) → n ≡ Some k → k < 65536) → number_or0 n < 65536
number_small (Some k) h = h k refl
number_small None h = omega arith

size_small : (s : List ℕ) → IsBytes s → image_size (nodes_of s) < 4294967296
size_small s b =
    let r : number_or0 (us_in (nodes_of s) Tags.Rows (root (nodes_of s)))
    < 65536 = number_small (us_in (nodes_of s) Tags.Rows (root (nodes_of s))) (λ k e. us-in-small s b Tags.Rows k (root (nodes_of s)) e) in
    let c : number_or0 (us_in (nodes_of s) Tags.Columns (root (nodes_of s))) < 65536 = number_small
    (us_in (nodes_of s) Tags.Columns (root (nodes_of s))) (λ k e. us-in-small s b Tags.Columns k (root (nodes_of s)) e) in
    let m : image_size (nodes_of s) ≤ 65535 * 65535 =
    mul-le-mul {n₁ = number_or0 (us_in (nodes_of s) Tags.Rows (root (nodes_of s)))}
    {m₁ = number_or0 (us_in (nodes_of s) Tags.Columns (root (nodes_of s)))} {n₂ = 65535} {m₂ = 65535} (omega (arith, r))
    (omega (arith, c)) in
    omega (arith, m)

-- ---- Answers

by-places : (n : ℕ) (off : ℕ → Bool) (size : ℕ) → Fits32 (counted n) → size < 4294967296 → CompareFits32 (fields_of (Ok (compared_by n off size)))
unfolding compared_by
by-places n off size h k = go (eqb (how_many off size) 0)
  where
    go : (b : Bool) → CompareFits32 (fields_of (Ok (cond b (comparison.Same n) (comparison.Differs n (first_off off size) (how_many off size)))))
    go true = record { answer = h; first = omega arith; count = omega arith }
    go false = record { answer = h; first = omega (arith, first-most off size); count = omega (arith, count_most off size) }

-- An answer that names no cell.
plain_fits : (a : Fields) → Fits32 a → CompareFits32 (without_cell a)
plain_fits a h = record { answer = h; first = omega arith; count = omega arith }

by_tests : (ns : List Node) (f : ℕ) (cells : List ℕ) (t n : ℕ) → Fits32 (counted n) → image_size ns < 4294967296
    → CompareFits32 (fields_of (accepted_answer ns f cells t n))
unfolding accepted_answer
by_tests ns f cells t n h k =
    go (is_frame_of ns f) (eqb (length cells) (image_size ns)) (leb t 255)
    (by-places n (is_off t (picture_of ns f).samples cells) (image_size ns) h k)
  where
    go : (p q r : Bool) → CompareFits32 (fields_of (Ok (compared_by n (is_off t (picture_of ns f).samples cells) (image_size ns))))
        → CompareFits32 (fields_of (cond p
        (cond q (cond r (Ok (compared_by n (is_off t (picture_of ns f).samples cells) (image_size ns))) (Err error.WrongTolerance)) (Err error.WrongSize))
        (Err error.NoFrame)))
    go true true true w = w
    go true true false w = plain_fits (code_alone 23) (alone-fits 23 (omega arith))
    go true false r w = plain_fits (code_alone 22) (alone-fits 22 (omega arith))
    go false q r w = plain_fits (code_alone 10) (alone-fits 10 (omega arith))

by-judge : (ns : List Node) (f : ℕ) (cells : List ℕ) (t : ℕ) (a : Result ℕ NotAccepted) → image_size ns < 4294967296 → AcceptFits a
    → CompareFits32 (fields_of (answer_for ns f cells t a))
by-judge ns f cells t (Ok n) k h = by_tests ns f cells t n h k
by-judge ns f cells t (Err e) k h = plain_fits (refusal_fields e) h

pub compare-fits : (s : List ℕ) → IsBytes s → (f : ℕ) (cells : List ℕ) (t : ℕ) (buffer : List ℕ)
    → CompareFits32 (fields_of (compare_of s f cells t buffer))
unfolding compare_of
compare-fits s b f cells t buffer = by-judge (nodes_of s) f cells t (accept_of s buffer) (size_small s b) (accept-fits s buffer)
