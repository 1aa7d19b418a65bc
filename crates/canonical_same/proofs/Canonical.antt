-- The canonical form has the nodes of its data set, and rules and drawing steps see nodes alone. A row's parent is the innermost row that
-- counts it among its rows below, so it follows from the rows below.
use Rattle.std.specs.Prelude.{Result, Ok, Err}
use mathlib.Core.Path.{◌≡◌, refl, sym, ap, ◌∙◌}
use mathlib.Core.Bool.{Bool, true, false, cond, ◌||◌}
use mathlib.Core.Logic.{inl, inr}
use mathlib.Core.List.{List, []}
use Prim.Native.Nat.{ℕ, suc, ◌+◌, ◌<◌}
use native.Mathlib.Omega.{arith}
use lib.ListN.{length, length-map}
use lib.Seq.{ext_get_or}
use lib.Dec.{eqb, leb, ltb}
use borrow.Author.Tests.{le-leb, lt-leb, leb-false, ltb-true, ltb-false, eqb-false, ne_eqb}
use Rattle.basics.specs.Vr.{SQ}
use Rattle.dataset.specs.declared.Row.{Row}
use Rattle.dataset.specs.Reading.{reading_of}
use Rattle.dataset.specs.Answer as reading
use Rattle.dataset.specs.declared.ReadError.{ReadError}
use Rattle.dataset.specs.declared.ReadError.TheVariants as unread
use Rattle.dataset.specs.Tree.{rows_of, row_at, next_row, elements}
use Rattle.dataset.proofs.Laws.{Small, answer-small}
use Rattle.dataset.proofs.Tree.{rows-members}
use Rattle.dataset.proofs.Parents.{Innermost, Placed, placed}
use Rattle.node.specs.Nodes.{Node, node_of, nodes_of, node_at, no_node}
use Rattle.node.proofs.Laws.{table, nodes-count, node-is}
use Rattle.conformance.specs.Judging.{judge_of}
use Rattle.searches.specs.Reported.{reported_of}
use Rattle.display.specs.Show.{show_of, image_of}
use Rattle.sheet.specs.Answer.{sheet_of}
use Rattle.compare.specs.Answer.{compare_of}
use Rattle.canonical.specs.Written.{written_of}
use Rattle.canonical.specs.Answer.{written, answer_for, target_by, canonical_of, target_of, fields_of}
use Rattle.canonical.specs.declared.CanonicalError.TheVariants.{NoTargetRoom}
use Rattle.canonical.proofs.Theorems.{written-returns}
use Rattle.canonical_same.specs.Canonical.{canonical_form, ReadsWell, row_in, value_bytes, AgreeAt, Agree, Answered}
use Rattle.canonical_same.specs.Answers.{AnswersAlike}
use Rattle.canonical_same.specs.Canonical.{Canonical}

-- ---- The same nodes: judged and drawn alike

module _ (s t : List ℕ) (a : ReadsWell s) (b : ReadsWell t) (n : nodes_of s ≡ nodes_of t) where
  count : length a.rows ≡ length b.rows
  unfolding nodes_of rows_of
  count = sym (length-map a.rows (node_of s)) ∙ ap length (rw (a.reads, b.reads) at n) ∙ length-map b.rows (node_of t)

  answers : (rows : List ℕ) → reading.answer_of (reading_of s) rows ≡ reading.answer_of (reading_of t) rows
  answers rows = rw (a.reads, b.reads, count)

  judge-same : (rows : List ℕ) → judge_of s rows ≡ judge_of t rows
  unfolding judge_of
  judge-same rows = rw (n, answers rows)

  searches-same : (rows : List ℕ) → reported_of s rows ≡ reported_of t rows
  unfolding reported_of
  searches-same rows = rw (n, judge-same rows)

  show-same : (frame : ℕ) (rows image : List ℕ) → show_of s frame rows image ≡ show_of t frame rows image
  unfolding show_of
  show-same frame rows image = rw (n, judge-same rows)

  image-same : (frame : ℕ) (rows image : List ℕ) → image_of s frame rows image ≡ image_of t frame rows image
  unfolding image_of
  image-same frame rows image = rw (n, show-same frame rows image)

  sheet-same : (first last : ℕ) (rows : List ℕ) → sheet_of s first last rows ≡ sheet_of t first last rows
  unfolding sheet_of
  sheet-same first last rows = rw (n, judge-same rows)

  compare_same : (frame : ℕ) (cells : List ℕ) (tolerance : ℕ) (rows : List ℕ)
      → compare_of s frame cells tolerance rows ≡ compare_of t frame cells tolerance rows
  unfolding compare_of
  compare_same frame cells tolerance rows = rw (n, judge-same rows)

  alike : AnswersAlike s t
  alike = record {
    judged = judge-same;
    searches = searches-same;
    shown = show-same;
    picture = image-same;
    sampled = sheet-same;
    compared = compare_same;
  }

-- ---- The same nodes: the rows agree, and the other way round

node_row : (s : List ℕ) (i : ℕ) → i < length (rows_of s) → node_at (nodes_of s) i ≡ node_of s (row_in s i)
node_row s i h = node-is s (reading.flat (rows_of s)) (table s (reading.flat (rows_of s)) refl) i (omega (arith, nodes-count s))

module _ (s t : List ℕ) (n : nodes_of s ≡ nodes_of t) where
  rows-count : length (rows_of s) ≡ length (rows_of t)
  rows-count = sym (nodes-count s) ∙ ap length n ∙ nodes-count t

  node-same : (i : ℕ) → i < length (rows_of s) → node_of s (row_in s i) ≡ node_of t (row_in t i)
  node-same i h = sym (node_row s i h) ∙ ap (λ (ns : List Node). node_at ns i) n ∙ node_row t i (omega (arith, rows-count))

  value_same : (i : ℕ) → i < length (rows_of s) → ((row_in s i).vr ≡ SQ → ⊥) → ((row_in s i).vr ≡ 0 → ⊥) → value_bytes s i ≡ value_bytes t i
  value_same i h a b =
      let v : (row_in s i).vr ≡ (row_in t i).vr = ap (λ (x : Node). x.vr) (node-same i h) in
      let e = ap (λ (x : Node). x.value) (node-same i h) in
      rw (
        ne_eqb (row_in s i).vr SQ a,
        ne_eqb (row_in s i).vr 0 b,
        ne_eqb (row_in t i).vr SQ (λ z. a (v ∙ z)),
        ne_eqb (row_in t i).vr 0 (λ z. b (v ∙ z)),
      ) at e

  agree : Agree s t
  agree =
      record {
        count = rows-count;
        each = λ i h. record {
          tag = ap (λ (x : Node). x.tag) (node-same i h);
          vr = ap (λ (x : Node). x.vr) (node-same i h);
          depth = ap (λ (x : Node). x.depth) (node-same i h);
          below = ap (λ (x : Node). x.descendants) (node-same i h);
          value = value_same i h;
        };
      }

value-held : (vr : ℕ) (x y : List ℕ) → ((vr ≡ SQ → ⊥) → (vr ≡ 0 → ⊥) → x ≡ y)
    → cond (eqb vr SQ || eqb vr 0) [] x ≡ cond (eqb vr SQ || eqb vr 0) [] y
value-held vr x y e = go (eqb vr SQ) refl (eqb vr 0) refl
  where
    go : (b : Bool) → eqb vr SQ ≡ b → (d : Bool) → eqb vr 0 ≡ d → cond (b || d) [] x ≡ cond (b || d) [] y
    go true f d g = refl
    go false f true g = refl
    go false f false g = e (eqb-false vr SQ f) (eqb-false vr 0 g)

node-of : (n m : Node) → n.tag ≡ m.tag → n.vr ≡ m.vr → n.depth ≡ m.depth → n.descendants ≡ m.descendants → n.value ≡ m.value
    → n ≡ m
node-of n m a b c d e = λ i. record { tag = a i; vr = b i; depth = c i; descendants = d i; value = e i }

agree-node : (s t : List ℕ) (i : ℕ) → AgreeAt s t i → node_of s (row_in s i) ≡ node_of t (row_in t i)
agree-node s t i a =
    node-of (node_of s (row_in s i)) (node_of t (row_in t i)) a.tag a.vr a.depth a.below
    (value-held (row_in s i).vr (value_bytes s i) (value_bytes t i) a.value
    ∙ ap (λ (vr : ℕ). cond (eqb vr SQ || eqb vr 0) [] (value_bytes t i)) a.vr)

agree-nodes : (s t : List ℕ) → Agree s t → nodes_of s ≡ nodes_of t
agree-nodes s t a =
    ext_get_or no_node (nodes_of s) (nodes_of t) (nodes-count s ∙ a.count ∙ sym (nodes-count t))
    (λ i h. let k : i < length (rows_of s) = omega (arith, nodes-count s) in
    node_row s i k ∙ agree-node s t i (a.each i k) ∙ sym (node_row t i (omega (arith, a.count))))

-- ---- The same rows below: the same parents

module _ (rows more : List Row) (i : ℕ) (e : (j : ℕ) → j < i → next_row rows j ≡ next_row more j) where
  one-innermost : (p q : ℕ) → Innermost rows i p → Innermost more i q → p ≡ q
  one-innermost p q x y = go (ltb p q) refl (ltb q p) refl
    where
      go : (b : Bool) → ltb p q ≡ b → (d : Bool) → ltb q p ≡ d → p ≡ q
      go true f d g = absurd (omega (arith, x.least q (ltb-true p q f) y.low, y.high, e q y.low))
      go false f true g = absurd (omega (arith, y.least p (ltb-true q p g) x.low, x.high, e p x.low))
      go false f false g = omega (arith, ltb-false p q f, ltb-false q p g)

  parent-same : Placed rows elements 0 0 0 i → Placed more elements 0 0 0 i → (row_at rows i).parent ≡ (row_at more i).parent
  parent-same (inl x) (inl y) = x.is ∙ sym y.is
  parent-same (inl x) (inr (q, (k, y))) = absurd (omega (arith, x.least q k y.low, y.high, e q y.low))
  parent-same (inr (p, (k, x))) (inl y) = absurd (omega (arith, y.least p k x.low, x.high, e p x.low))
  parent-same (inr (p, (k, x))) (inr (q, (l, y))) = x.is ∙ ap suc (one-innermost p q x y) ∙ sym y.is

parents-same : (s t : List ℕ) → Agree s t → (i : ℕ) → i < length (rows_of s) → (row_in s i).parent ≡ (row_in t i).parent
parents-same s t a i h =
    parent-same (rows_of s) (rows_of t) i (λ j l. ap (λ (k : ℕ). j + 1 + k) (a.each j (omega arith)).below)
    (placed (rows-members s) i (omega arith) h)
    (placed (rows-members t) i (omega arith) (omega (arith, a.count)))

-- ---- The answers

module _ (s rows target : List ℕ) where
  abbrev w : List ℕ
  w = canonical_form s

  refused_as : (a : Result ℕ ReadError) → ((reading.fields_of a).code ≡ 0 → ⊥)
      → ((fields_of (answer_for w target a)).answer ≡ reading.fields_of a) × (target_by w target (answer_for w target a) ≡ target)
  refused_as (Ok n) h = absurd (h refl)
  refused_as (Err e) h = (refl, refl)

  only-short : (a : Result ℕ ReadError) → Small a → (fields_of (answer_for w target a)).answer.code ≡ 21 → length target < length w
  only-short (Ok n) m e = go (leb (length w) (length target)) refl e
    where
      go : (t : Bool) → leb (length w) (length target) ≡ t
          → (fields_of (cond t (Ok (written n (length w))) (Err (NoTargetRoom (length w))))).answer.code ≡ 21
          → length target < length w
      go true f e = absurd (omega arith)
      go false f e = leb-false (length w) (length target) f
  only-short (Err (unread.Refused r)) m e = absurd (omega (arith, m.1.0))
  only-short (Err unread.TooLarge) m e = absurd (omega arith)
  only-short (Err unread.NoRoom) m e = absurd (omega arith)

  answered : Answered s w rows target
  unfolding canonical_of target_of
  answered =
      record {
        refused = refused_as (reading.answer_of (reading_of s) rows);
        short = λ n e h. let f = lt-leb (length w) (length target) h in (rw (e, f), rw (e, f));
        done = λ n e h. let f = le-leb (length w) (length target) h in (rw (e, f), rw (e, f));
        only-short = only-short (reading.answer_of (reading_of s) rows) (answer-small s rows);
      }

-- ---- The whole

pub canonical-form : Canonical
canonical-form =
    record {
      written = λ s a.
          let r = written-returns s a.bytes a.rows a.reads in
          let b : ReadsWell (canonical_form s) = record { bytes = r.bytes; rows = r.rows; reads = r.reads } in
          let g : Agree s (canonical_form s) = agree s (canonical_form s) (sym r.nodes) in
          record {
            reads = b;
            agrees = g;
            parents = parents-same s (canonical_form s) g;
            no_longer = r.fits;
            again = ap written_of r.nodes;
            alike = alike s (canonical_form s) a b (sym r.nodes);
          };
      same = λ s t g. ap written_of (agree-nodes s t g);
      duplicates = λ s t a b e.
          let n : nodes_of s ≡ nodes_of t =
          sym (written-returns s a.bytes a.rows a.reads).nodes ∙ ap nodes_of e
          ∙ (written-returns t b.bytes b.rows b.reads).nodes in
          (agree s t n, alike s t a b n);
      answered = answered;
    }
