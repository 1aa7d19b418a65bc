-- What is promised of comparing: the first place that is off and the count follow by induction over the places, and the codes from
-- the tests of the answer.
use Rattle.std.specs.Prelude.{Option, Some, Result, Ok, Err}
use mathlib.Core.Path.{◌≡◌, refl, sym, ap, ◌∙◌, subst}
use mathlib.Core.Bool.{Bool, true, false, cond, ◌&&◌}
use mathlib.Core.List.{List, ◌++◌}
use Prim.Native.Nat.{ℕ, zero, suc, ◌+◌, ◌≤◌, ◌<◌}
use native.Mathlib.Omega.{arith}
use lib.ListN.{length, get_or, take, drop}
use lib.Seq.{take-append_seam}
use lib.Dec.{leb, eqb}
use borrow.Author.Tests.{le-leb, leb-true, leb-false, eq-eqb, eqb-true, eqb-false, not-false}
use Rattle.value.specs.Number.{number_or0}
use Rattle.basics.proofs.Tests.{and_both}
use Rattle.basics.specs.Bytes.{IsBytes}
use Rattle.dataset.specs.Tree.{rows_of}
use Rattle.node.specs.Nodes.{nodes_of}
use Rattle.element.specs.Frames.{frames_of}
use Rattle.steps.specs.Steps.{Picture}
use Rattle.display.specs.Show as show
use Rattle.display.specs.Show.{is_frame_of, image_size, picture_in, picture_of, show_of, image_of}
use Rattle.display.specs.Drawing.{IsFrame, Whole}
use Rattle.display.proofs.Codes.{was-frame, judged-accepted, was-judged}
use Rattle.display.proofs.Drawing.{drawing}
use Rattle.compare.specs.declared.Comparison.{Comparison}
use Rattle.compare.specs.declared.Comparison.TheVariants as comparison
use Rattle.compare.specs.declared.CompareError.{CompareError}
use Rattle.compare.specs.declared.CompareError.TheVariants as error
use Rattle.differences.specs.Differences.{within, is_off, how_many, first_off}
use Rattle.compare.specs.Answer.{compared_by, accepted_answer, answer_for, compare_of, fields_of}
use Rattle.compare.specs.Comparing.{Comparable, Near, Names, Own, Comparing}

-- ---- Places

none-off : (off : ℕ → Bool) (n : ℕ) → how_many off n ≡ 0 → (i : ℕ) → i < n → off i ≡ false
unfolding how_many
none-off off zero z i h = absurd (omega arith)
none-off off (suc n) z i h = go (off n) refl (leb n i) refl z (none-off off n)
  where
    go : (b : Bool) → off n ≡ b → (c : Bool) → leb n i ≡ c → cond b 1 0 + how_many off n ≡ 0
        → (how_many off n ≡ 0 → (j : ℕ) → j < n → off j ≡ false) → off i ≡ false
    go true e c l z before = absurd (omega (arith, z))
    go false e true l z before = let q : i ≡ n = omega (arith, h, leb-true n i l) in ap off q ∙ e
    go false e false l z before = before (omega (arith, z)) i (leb-false n i l)

all-on : (off : ℕ → Bool) (n : ℕ) → ((i : ℕ) → i < n → off i ≡ false) → how_many off n ≡ 0
unfolding how_many
all-on off zero e = refl
all-on off (suc n) e =
    let one : Bool → ℕ = λ b. cond b 1 0 in
    let q : ◌≡◌ {A = ℕ} (one (off n)) (one false) = ap one (e n (omega arith)) in
    omega (arith, q, all-on off n (λ i h. e i (omega arith)))

record First (off : ℕ → Bool) (n first : ℕ) : Type 0 where
  pub place : first < n
  pub is : off first ≡ true
  pub none_before : (i : ℕ) → i < first → off i ≡ false

later : (off : ℕ → Bool) (n first : ℕ) → First off n first → First off (suc n) first
later off n first f = record { place = omega (arith, f.place); is = f.is; none_before = f.none_before }

first_off_lem : (off : ℕ → Bool) (n : ℕ) → 1 ≤ how_many off n → First off n (first_off off n)
unfolding how_many first_off
first_off_lem off zero h = absurd (omega arith)
first_off_lem off (suc n) h = go (off n) refl (eqb (how_many off n) 0) refl h (first_off_lem off n)
  where
    go : (b : Bool) → off n ≡ b → (c : Bool) → eqb (how_many off n) 0 ≡ c → 1 ≤ cond b 1 0 + how_many off n
        → (1 ≤ how_many off n → First off n (first_off off n)) → First off (suc n) (cond (b && c) n (first_off off n))
    go true e true z h before = record { place = omega arith; is = e; none_before = none-off off n (eqb-true (how_many off n) 0 z) }
    go true e false z h before = later off n (first_off off n) (before (omega (arith, eqb-false (how_many off n) 0 z)))
    go false e c z h before = later off n (first_off off n) (before (omega (arith, h)))

-- ---- Near and off

module _ (s : List ℕ) (f : ℕ) (cells : List ℕ) (t : ℕ) where
  abbrev ours : List ℕ
  ours = (picture_of (nodes_of s) f).samples

  abbrev off : ℕ → Bool
  off = is_off t (picture_of (nodes_of s) f).samples cells

  near_on : (i : ℕ) → Near s f cells t i → is_off t (picture_of (nodes_of s) f).samples cells i ≡ false
  unfolding is_off
  near_on i n = rw (le-leb (get_or ours i 0) (get_or cells i 0 + t) n.below, le-leb (get_or cells i 0) (get_or ours i 0 + t) n.above)

  on-near : (i : ℕ) → is_off t (picture_of (nodes_of s) f).samples cells i ≡ false → Near s f cells t i
  unfolding is_off
  on-near i e =
      let b = and_both (leb (get_or ours i 0) (get_or cells i 0 + t)) (leb (get_or cells i 0) (get_or ours i 0 + t))
      (not-false (within t (get_or ours i 0) (get_or cells i 0)) e) in
      record { below = leb-true (get_or ours i 0) (get_or cells i 0 + t) b.0; above = leb-true (get_or cells i 0) (get_or ours i 0 + t) b.1 }

  -- ---- Yes or no

  yes-by : (n size : ℕ) → ((i : ℕ) → i < size → Near s f cells t i) → compared_by n off size ≡ comparison.Same n
  unfolding compared_by
  yes-by n size h = rw (all-on off size (λ i l. near_on i (h i l)))

  was-yes : (n size : ℕ) → (fields_of (Ok (compared_by n off size))).same ≡ 1 → (i : ℕ) → i < size → Near s f cells t i
  unfolding compared_by
  was-yes n size e = go (eqb (how_many off size) 0) refl e
    where
      go : (b : Bool) → eqb (how_many off size) 0 ≡ b
          → (fields_of (Ok (cond b (comparison.Same n) (comparison.Differs n (first_off off size) (how_many off size))))).same ≡ 1 → (i : ℕ) → i < size
          → Near s f cells t i
      go true z e i h = on-near i (none-off off size (eqb-true (how_many off size) 0 z) i h)
      go false z e i h = absurd (omega (arith, e))

  was-no : (n size : ℕ) → length cells ≡ size → (fields_of (Ok (compared_by n off size))).same ≡ 0
      → Names s f cells t (fields_of (Ok (compared_by n off size))).first (fields_of (Ok (compared_by n off size))).count
  unfolding compared_by
  was-no n size l e = go (eqb (how_many off size) 0) refl e
    where
      go : (b : Bool) → eqb (how_many off size) 0 ≡ b
          → (fields_of (Ok (cond b (comparison.Same n) (comparison.Differs n (first_off off size) (how_many off size))))).same ≡ 0
          → Names s f cells t (fields_of (Ok (cond b (comparison.Same n) (comparison.Differs n (first_off off size) (how_many off size))))).first
          (fields_of (Ok (cond b (comparison.Same n) (comparison.Differs n (first_off off size) (how_many off size))))).count
      go true z e = absurd (omega (arith, e))
      go false z e =
          let k : 1 ≤ how_many off size = omega (arith, eqb-false (how_many off size) 0 z) in
          let d : First off size (first_off off size) = first_off_lem off size k in
          record {
            place = omega (arith, d.place, l);
            off = λ n.
                absurd (let q : true ≡ false = sym d.is ∙ near_on (first_off off size) n in let w : ◌≡◌ {A = ℕ} 0 1 = cc in omega arith);
            none_before = λ i h. on-near i (d.none_before i h);
            all = ap (how_many off) (sym l);
            some = k;
          }

  code-done : (n size : ℕ) → (fields_of (Ok (compared_by n off size))).answer.code ≡ 0
  unfolding compared_by
  code-done n size = go (eqb (how_many off size) 0)
    where
      go : (b : Bool) → (fields_of (Ok (cond b (comparison.Same n) (comparison.Differs n (first_off off size) (how_many off size))))).answer.code ≡ 0
      go true = refl
      go false = refl

  rows-done : (n size : ℕ) → (fields_of (Ok (compared_by n off size))).answer.rows ≡ n
  unfolding compared_by
  rows-done n size = go (eqb (how_many off size) 0)
    where
      go : (b : Bool) → (fields_of (Ok (cond b (comparison.Same n) (comparison.Differs n (first_off off size) (how_many off size))))).answer.rows ≡ n
      go true = refl
      go false = refl

  -- ---- From the code back to what was asked

  accepted-answer : (n : ℕ) → IsFrame s f → length cells ≡ image_size (nodes_of s) → t ≤ 255
      → accepted_answer (nodes_of s) f cells t n ≡ Ok (compared_by n off (image_size (nodes_of s)))
  unfolding accepted_answer
  accepted-answer n i size most =
      rw (
        le-leb 1 f i.low,
        le-leb f (number_or0 (frames_of (nodes_of s))) i.high,
        eq-eqb (length cells) (image_size (nodes_of s)) size,
        le-leb t 255 most,
      )

  record Asked : Type 0 where
    pub frame : IsFrame s f
    pub size : length cells ≡ image_size (nodes_of s)
    pub tolerance : t ≤ 255

  was-asked : (n : ℕ) → (fields_of (accepted_answer (nodes_of s) f cells t n)).answer.code ≡ 0 → Asked
  unfolding accepted_answer
  was-asked n e = go (is_frame_of (nodes_of s) f) (eqb (length cells) (image_size (nodes_of s))) (leb t 255) refl refl refl e
    where
      go : (p q r : Bool) → is_frame_of (nodes_of s) f ≡ p → eqb (length cells) (image_size (nodes_of s)) ≡ q → leb t 255 ≡ r
          → (fields_of (cond p (cond q (cond r (Ok (compared_by n off (image_size (nodes_of s)))) (Err error.WrongTolerance)) (Err error.WrongSize))
          (Err error.NoFrame))).answer.code ≡ 0 → Asked
      go true true true a b c e =
          record { frame = was-frame s f a; size = eqb-true (length cells) (image_size (nodes_of s)) b; tolerance = leb-true t 255 c }
      go true true false a b c e = absurd (omega (arith, e))
      go true false r a b c e = absurd (omega (arith, e))
      go false q r a b c e = absurd (omega (arith, e))

  module _ (buffer : List ℕ) where
    answered : Comparable s f cells t buffer → compare_of s f cells t buffer ≡ Ok (compared_by (length (rows_of s)) off (image_size (nodes_of s)))
    unfolding compare_of
    answered c = rw (judged-accepted s buffer c.accepted c.room)
        (accepted-answer (length (rows_of s)) c.frame c.size c.tolerance)

    was-done : (fields_of (compare_of s f cells t buffer)).answer.code ≡ 0 → Comparable s f cells t buffer
    unfolding compare_of
    was-done e =
        let j = was-judged s buffer (λ x. (fields_of (answer_for (nodes_of s) f cells t x)).answer.code)
        (record { refused = λ e. refl }) e in
        let a = was-asked (length j.accepted.rows) j.code in
        record { accepted = j.accepted; frame = a.frame; size = a.size; tolerance = a.tolerance; room = j.room }

    done : Comparable s f cells t buffer → (fields_of (compare_of s f cells t buffer)).answer.code ≡ 0
    done c = ap (λ (x : Result Comparison CompareError). (fields_of x).answer.code) (answered c) ∙ code-done (length (rows_of s)) (image_size (nodes_of s))

    yes : Comparable s f cells t buffer → ((i : ℕ) → i < length cells → Near s f cells t i)
        → (fields_of (compare_of s f cells t buffer)).same ≡ 1
    yes c h = ap (λ (x : Result Comparison CompareError). (fields_of x).same)
        (answered c ∙ ap (λ (x : Comparison). Ok x) (yes-by (length (rows_of s)) (image_size (nodes_of s)) (λ i l. h i (omega (arith, l, c.size)))))

    only_then : (fields_of (compare_of s f cells t buffer)).same ≡ 1
        → Comparable s f cells t buffer × ((i : ℕ) → i < length cells → Near s f cells t i)
    only_then e =
        let c = was-done (same_code (compare_of s f cells t buffer) e) in (
          c,
          λ i l. was-yes (length (rows_of s)) (image_size (nodes_of s)) (sym (ap (λ (x : Result Comparison CompareError). (fields_of x).same) (answered c)) ∙ e)
              i (omega (arith, l, c.size)),
        )
      where
        same_code : (r : Result Comparison CompareError) → (fields_of r).same ≡ 1 → (fields_of r).answer.code ≡ 0
        same_code (Ok (comparison.Same n)) e = refl
        same_code (Ok (comparison.Differs n first count)) e = refl
        same_code (Err (error.Refused r)) e = absurd (omega (arith, e))
        same_code (Err error.NoFrame) e = absurd (omega (arith, e))
        same_code (Err error.WrongSize) e = absurd (omega (arith, e))
        same_code (Err error.WrongTolerance) e = absurd (omega (arith, e))

    no : (fields_of (compare_of s f cells t buffer)).answer.code ≡ 0 → (fields_of (compare_of s f cells t buffer)).same ≡ 0
        → Names s f cells t (fields_of (compare_of s f cells t buffer)).first (fields_of (compare_of s f cells t buffer)).count
    no e z =
        let c = was-done e in
        subst (λ (r : Result Comparison CompareError). Names s f cells t (fields_of r).first (fields_of r).count) (sym (answered c))
        (was-no (length (rows_of s)) (image_size (nodes_of s)) c.size (sym (ap (λ (x : Result Comparison CompareError). (fields_of x).same) (answered c)) ∙ z))

    row_count : (fields_of (compare_of s f cells t buffer)).answer.code ≡ 0
        → (fields_of (compare_of s f cells t buffer)).answer.rows ≡ length (rows_of s)
    row_count e = ap (λ (x : Result Comparison CompareError). (fields_of x).answer.rows) (answered (was-done e))
        ∙ rows-done (length (rows_of s)) (image_size (nodes_of s))

-- ---- Larger tolerances

wider : (s : List ℕ) (f : ℕ) (cells : List ℕ) (t u i : ℕ) → t ≤ u → Near s f cells t i → Near s f cells u i
wider s f cells t u i h n = record { below = omega (arith, n.below, h); above = omega (arith, n.above, h) }

larger : (s : List ℕ) (f : ℕ) (cells : List ℕ) (t : ℕ) (buffer : List ℕ) (u : ℕ) → t ≤ u → u ≤ 255
    → (fields_of (compare_of s f cells t buffer)).same ≡ 1 → (fields_of (compare_of s f cells u buffer)).same ≡ 1
larger s f cells t buffer u h most e =
    let w = only_then s f cells t buffer e in
    yes s f cells u buffer
    (record { accepted = w.0.accepted; frame = w.0.frame; size = w.0.size; tolerance = most; room = w.0.room })
    (λ i l. wider s f cells t u i h (w.1 i l))

-- ---- Our own picture

own-cells : (s : List ℕ) → IsBytes s → (f : ℕ) (buffer image : List ℕ) → (show.fields_of (show_of s f buffer image)).code ≡ 0
    → (take (image_size (nodes_of s)) (image_of s f buffer image) ≡ (picture_of (nodes_of s) f).samples)
    × (length (picture_of (nodes_of s) f).samples ≡ image_size (nodes_of s))
unfolding picture_of
own-cells s b f buffer image e =
    let d = drawing s b f in
    let w = d.nothing-else buffer image e in
    let p : Whole (nodes_of s) f = d.drawable w.0 w.1.0 in
    let h = d.as-stepped buffer image e in
    let same : Some h.p ≡ Some p.p = sym h.is ∙ p.is in
    let v : h.p ≡ p.p = cc in
    let cells : image_of s f buffer image ≡ p.p.samples ++ drop (image_size (nodes_of s)) image = h.cells
    ∙ ap (λ (x : Picture). x.samples ++ drop (image_size (nodes_of s)) image) v in
    let q : (picture_of (nodes_of s) f).samples ≡ p.p.samples = ap (λ (o : Option Picture). (picture_in o).samples) p.is in (
      ap (take (image_size (nodes_of s))) cells
          ∙ (subst (λ (k : ℕ). take k (p.p.samples ++ drop (image_size (nodes_of s)) image) ≡ p.p.samples) p.size
          (take-append_seam p.p.samples (drop (image_size (nodes_of s)) image)) ∙ sym q),
      ap length q ∙ p.size,
    )

own : (s : List ℕ) → IsBytes s → (f : ℕ) (buffer image : List ℕ) → Own s f buffer image
own s b f buffer image =
    record {
      passes = λ e.
          let w = (drawing s b f).nothing-else buffer image e in
          let o = own-cells s b f buffer image e in
          yes s f (take (image_size (nodes_of s)) (image_of s f buffer image)) 0 buffer
          (record { accepted = w.0; frame = w.1.0; size = ap length o.0 ∙ o.1; tolerance = omega arith; room = w.1.1.rows })
          (λ i l. near i o.0);
    }
  where
    near : (i : ℕ) → take (image_size (nodes_of s)) (image_of s f buffer image) ≡ (picture_of (nodes_of s) f).samples
        → Near s f (take (image_size (nodes_of s)) (image_of s f buffer image)) 0 i
    near i e =
        let q : get_or (take (image_size (nodes_of s)) (image_of s f buffer image)) i 0
        ≡ get_or (picture_of (nodes_of s) f).samples i 0 = ap (λ (l : List ℕ). get_or l i 0) e in
        record { below = omega (arith, q); above = omega (arith, q) }

-- ---- The claim

pub comparing : Comparing
comparing =
    record {
      promise = λ s b f cells t buffer.
          record {
            done = done s f cells t buffer;
            nothing-else = was-done s f cells t buffer;
            rows = row_count s f cells t buffer;
            yes = yes s f cells t buffer;
            only_then = only_then s f cells t buffer;
            no = no s f cells t buffer;
            larger = larger s f cells t buffer;
          };
      own = own;
    }
