-- From the bytes of a shape to their reading: what stands at each header, then level by level.
use Rattle.std.specs.Prelude.{Result, Ok, Err}
use Rattle.dataset.specs.declared.Fault.{Fault}
use mathlib.Core.Path.{◌≡◌, refl, sym, ap, ◌∙◌, subst}
use mathlib.Core.Bool.{Bool, true, false}
use Prim.Native.Nat.{ℕ, zero, suc, ◌+◌, ◌-◌, ◌*◌, ◌/◌, ◌%◌, ◌≤◌, ◌<◌}
use native.Mathlib.Omega.{arith}
use borrow.Author.Tests.{eqb-true, eq-eqb, ne_eqb, le-ltb}
use lib.Dec.{eqb}
use mathlib.Core.List.{List, [], ◌∷◌, ◌++◌, map, append_assoc, append-nil, map-append}
use lib.ListN.{length, get_or, drop, length-append, length-map}
use lib.Seq.{take_at, drop_at, drop-drop, get_or-drop}
use Rattle.dataset.specs.declared.Cursor.{Cursor}
use Rattle.dataset.specs.declared.Fault.TheVariants.{TooDeep}
use Rattle.dataset.specs.declared.Head.{Head}
use Rattle.dataset.specs.declared.Head.TheVariants as head
use Rattle.basics.specs.Bytes.{le16, le32, tag_at, vr_at, le}
use Rattle.basics.specs.Vr.{form_of, SQ}
use Rattle.dataset.specs.Header.{when, undefined, cursor, header_by, nested_by, defined_by, long_by, typed_at, tagged_at, sized_by}
use Rattle.basics.specs.Tags.{item_tag}
use Rattle.dataset.specs.Header.{member_at, element_at, item_at}
use Rattle.dataset.specs.Tree.{Kind, elements, items}
use Rattle.dataset.specs.declared.Row.{Row}
use Rattle.dataset.specs.Reading.{row, Run, done, level, value_run, elements_at, read, whole, reading_of, depths}
use Rattle.dataset.specs.Internal.{items_at}
use Rattle.basics.specs.Limits.{largest}
use Rattle.dataset.proofs.Level.{level-on, level-end, value-plain}
use Rattle.node.specs.Nodes.{Node, node_of}
use Rattle.canonical.specs.Written.{letters, length_of, header, head_size}
use Rattle.canonical.proofs.Shape.{Tag, Shape, none, leaf, sequence, item, Form, no, short, long, form, vr-not-0, length-header}
use Rattle.canonical.proofs.Shape.{shape-even, head-short, head-long, head-least, sq-long, item-short, node}

-- ---- Numbers that were written

le-two : (x : ℕ) → x < 65536 → x % 256 + 256 * (x / 256 % 256) ≡ x
le-two x h = omega arith

le_four : (x : ℕ) → x < 4294967296 → x % 256 + 256 * (x / 256 % 256) + 65536 * (x / 256 / 256 % 256 + 256 * (x / 256 / 256 / 256 % 256)) ≡ x
le_four x h = omega arith

module _ (t : List ℕ) (at : ℕ) (xs : List ℕ) (here : drop at t ≡ xs) where
  byte : (p k : ℕ) → p ≡ at + k → get_or t p 0 ≡ get_or xs k 0
  byte p k e = ap (λ (j : ℕ). get_or t j 0) e ∙ sym (get_or-drop at t k 0) ∙ ap (λ (l : List ℕ). get_or l k 0) here

  two : (p k : ℕ) → p ≡ at + k → le16 t p ≡ get_or xs k 0 + 256 * get_or xs (suc k) 0
  unfolding le16
  two p k e = rw (byte p k e, byte (p + 1) (suc k) (omega arith))

-- ---- The checks, on what was written

level-head : (tag vr levels : ℕ) (v : Cursor) → (vr ≡ SQ → levels ≡ 0 → ⊥) → nested_by tag vr levels v ≡ Ok (head.Header tag vr v)
unfolding nested_by when
level-head tag vr levels v n = go (eqb vr SQ) refl (eqb levels 0) refl
  where
    go : (a : Bool) → eqb vr SQ ≡ a → (b : Bool) → eqb levels 0 ≡ b
        → when a (when b (Err TooDeep) (Ok (head.Header tag vr v))) (Ok (head.Header tag vr v)) ≡ Ok (head.Header tag vr v)
    go true e true f = absurd (n (eqb-true vr SQ e) (eqb-true levels 0 f))
    go true e false f = refl
    go false e b f = refl

module _ (at end tag vr levels : ℕ) (deep : vr ≡ SQ → levels ≡ 0 → ⊥) (size : ℕ) (even : size % 2 ≡ 0) where
  defined-head : (start : ℕ) → start + size ≤ end
      → defined_by (cursor at end false) tag vr start size levels ≡ Ok (head.Header tag vr (cursor start (start + size) false))
  unfolding defined_by when
  defined-head start fits =
      rw (ne_eqb (size % 2) 1 (omega arith), le-ltb (end - start) size (omega arith))
      (level-head tag vr levels (cursor start (start + size) false) deep)

  short-head : (t : List ℕ) (form : ℕ) → form ≡ 1 → at + 8 + size ≤ end
      → typed_at t (cursor at end false) tag vr form size levels ≡ Ok (head.Header tag vr (cursor (at + 8) (at + 8 + size) false))
  unfolding typed_at when
  short-head t form f fits = rw f (defined-head (at + 8) fits)

  long-head : (t : List ℕ) (form : ℕ) → form ≡ 2 → at + 12 + size ≤ end → size < 4294967295 → le32 t (at + 8) ≡ size
      → typed_at t (cursor at end false) tag vr form 0 levels ≡ Ok (head.Header tag vr (cursor (at + 12) (at + 12 + size) false))
  unfolding typed_at long_by when
  long-head t form f fits small m =
      rw (f, le-ltb (end - at) 12 (omega arith), m, ne_eqb size undefined (omega arith)) (defined-head (at + 12) fits)

item-head : (at end size : ℕ) → size % 2 ≡ 0 → at + 8 + size ≤ end → size < 4294967295
    → sized_by (cursor at end false) size ≡ Ok (head.Header item_tag 0 (cursor (at + 8) (at + 8 + size) false))
unfolding sized_by when
item-head at end size even fits small =
    rw (ne_eqb size undefined (omega arith)) (defined-head at end item_tag 0 0 (λ e _. absurd (omega arith)) size even (at + 8) fits)

-- ---- A header that was written is read

abbrev tagged : ℕ → List ℕ → List ℕ
tagged tag xs = tag / 65536 % 256 ∷ tag / 65536 / 256 % 256 ∷ tag % 65536 % 256 ∷ tag % 65536 / 256 % 256 ∷ xs

abbrev four : ℕ → List ℕ → List ℕ
four x xs = x % 256 ∷ x / 256 % 256 ∷ x / 256 / 256 % 256 ∷ x / 256 / 256 / 256 % 256 ∷ xs

header-short : (tag vr size : ℕ) (more : List ℕ) → form_of vr ≡ 1
    → header tag vr size ++ more ≡ tagged tag (vr / 256 % 256 ∷ vr % 256 ∷ size % 256 ∷ size / 256 % 256 ∷ more)
unfolding header length_of letters le
header-short tag vr size more f = rw (ne_eqb vr 0 (vr-not-0 vr (λ e. omega arith)), f)

header-long : (tag vr size : ℕ) (more : List ℕ) → form_of vr ≡ 2
    → header tag vr size ++ more ≡ tagged tag (vr / 256 % 256 ∷ vr % 256 ∷ 0 ∷ 0 ∷ four size more)
unfolding header length_of letters le
header-long tag vr size more f = rw (ne_eqb vr 0 (vr-not-0 vr (λ e. omega arith)), f)

header-item : (size : ℕ) (more : List ℕ) → header item_tag 0 size ++ more ≡ tagged item_tag (four size more)
unfolding header length_of letters le
header-item size more = refl

tag_back : (t : List ℕ) (at tag : ℕ) (xs : List ℕ) → drop at t ≡ tagged tag xs → tag < 4294967296 → tag_at t at ≡ tag
tag_back t at tag xs here h =
    let a : le16 t at ≡ tag / 65536 % 256 + 256 * (tag / 65536 / 256 % 256) = two t at _ here at 0 (omega arith) in
    let b : le16 t (at + 2) ≡ tag % 65536 % 256 + 256 * (tag % 65536 / 256 % 256) = two t at _ here (at + 2) 2 (omega arith) in
    omega (arith, le-two (tag / 65536) (omega arith), le-two (tag % 65536) (omega arith))

vr-back : (t : List ℕ) (at vr : ℕ) (xs : List ℕ) → drop at t ≡ xs → vr < 65536 → get_or xs 4 0 ≡ vr / 256 % 256 → get_or xs 5 0 ≡ vr % 256
    → vr_at t (at + 4) ≡ vr
vr-back t at vr xs here h p q =
    omega (arith, byte t at xs here (at + 4) 4 (omega arith), byte t at xs here (at + 4 + 1) 5 (omega arith))

four-back : (t : List ℕ) (at p size : ℕ) (xs : List ℕ) (k : ℕ) → drop at t ≡ xs → p ≡ at + k → size < 4294967296
    → get_or xs k 0 ≡ size % 256 → get_or xs (suc k) 0 ≡ size / 256 % 256
    → get_or xs (suc (suc k)) 0 ≡ size / 256 / 256 % 256 → get_or xs (suc (suc (suc k))) 0 ≡ size / 256 / 256 / 256 % 256
    → le32 t p ≡ size
four-back t at p size xs k here e h a b c d =
    omega (arith, two t at xs here p k e, two t at xs here (p + 2) (suc (suc k)) (omega arith), le_four size h)

module _ (t : List ℕ) (at end least levels tag vr size : ℕ) (more : List ℕ) (here : drop at t ≡ header tag vr size ++ more)
    (up : least ≤ tag) (good : Tag tag) (word : vr < 65536) (deep : vr ≡ SQ → levels ≡ 0 → ⊥) (even : size % 2 ≡ 0) where
  -- Past the tag.
  on-tag : {h : Result Head Fault} → at + 8 ≤ end → tag_at t at ≡ tag
      → typed_at t (cursor at end false) tag (vr_at t (at + 4)) (form_of (vr_at t (at + 4))) (le16 t (at + 6)) levels ≡ h
      → element_at t (cursor at end false) least levels ≡ h
  unfolding header_by tagged_at when
  on-tag k e f =
      rw (ne_eqb at end (omega arith), le-ltb (end - at) 8 (omega arith), e, ne_eqb (tag / 65536) 65534 good.group, le-ltb tag least up)
      f

  element-short : form_of vr ≡ 1 → size < 65536 → at + 8 + size ≤ end
      → element_at t (cursor at end false) least levels ≡ Ok (head.Header tag vr (cursor (at + 8) (at + 8 + size) false))
  element-short f small fits =
      let e = here ∙ header-short tag vr size more f in
      let v : vr_at t (at + 4) ≡ vr = vr-back t at vr _ e word refl refl in
      let n : le16 t (at + 6) ≡ size = two t at _ e (at + 6) 6 (omega arith) ∙ le-two size small in
      on-tag (omega arith) (tag_back t at tag _ e good.small)
      (rw (v, n) (short-head at end tag vr levels deep size even t (form_of vr) f fits))

  element-long : form_of vr ≡ 2 → size < 4294967295 → at + 12 + size ≤ end
      → element_at t (cursor at end false) least levels ≡ Ok (head.Header tag vr (cursor (at + 12) (at + 12 + size) false))
  element-long f small fits =
      let e = here ∙ header-long tag vr size more f in
      let v : vr_at t (at + 4) ≡ vr = vr-back t at vr _ e word refl refl in
      let n : le16 t (at + 6) ≡ 0 = two t at _ e (at + 6) 6 (omega arith) in
      let m : le32 t (at + 8) ≡ size = four-back t at (at + 8) size _ 8 e refl (omega arith) refl refl refl refl in
      on-tag (omega arith) (tag_back t at tag _ e good.small)
      (rw (v, n) (long-head at end tag vr levels deep size even t (form_of vr) f fits small m))

  element-back : (form_of vr ≡ 0 → ⊥) → (form_of vr ≡ 1 → size < 65536) → size < 4294967295 → at + head_size vr + size ≤ end
      → element_at t (cursor at end false) least levels ≡ Ok (head.Header tag vr (cursor (at + head_size vr) (at + head_size vr + size) false))
  element-back known few small fits = go (form vr)
    where
      go : Form vr
          → element_at t (cursor at end false) least levels ≡ Ok (head.Header tag vr (cursor (at + head_size vr) (at + head_size vr + size) false))
      go (no f) = absurd (known f)
      go (short f) = rw (head-short vr f) (element-short f (few f) (omega (arith, head-short vr f)))
      go (long f) = rw (head-long vr f) (element-long f small (omega (arith, head-long vr f)))

item_back : (t : List ℕ) (at end size : ℕ) (more : List ℕ) → drop at t ≡ header item_tag 0 size ++ more → size % 2 ≡ 0 → size < 4294967295
    → at + 8 + size ≤ end
    → item_at t (cursor at end false) ≡ Ok (head.Header item_tag 0 (cursor (at + 8) (at + 8 + size) false))
unfolding header_by member_at when
item_back t at end size more here even small fits =
    let e = here ∙ header-item size more in
    let m : le32 t (at + 4) ≡ size = four-back t at (at + 4) size _ 4 e refl (omega arith) refl refl refl refl in
    rw (ne_eqb at end (omega arith), le-ltb (end - at) 8 (omega arith), tag_back t at item_tag _ e (omega arith), m)
    (item-head at end size even fits small)

-- ---- Level by level

past : (t : List ℕ) (at n : ℕ) (xs ys : List ℕ) → drop at t ≡ xs ++ ys → length xs ≡ n → drop (at + n) t ≡ ys
past t at n xs ys here e = sym (drop-drop n at t) ∙ ap (λ (l : List ℕ). drop n l) here ∙ drop_at xs ys n e

-- A header, what is inside, what is after, and what is beyond.
record Parts (t : List ℕ) (at k end : ℕ) (front inner after post : List ℕ) : Type 0 where
  whole : drop at t ≡ front ++ (inner ++ (after ++ post))
  at_inner : drop (at + k) t ≡ inner ++ (after ++ post)
  at_after : drop (at + k + length inner) t ≡ after ++ post
  sum : at + k + length inner + length after ≡ end

parts : (t : List ℕ) (at k end : ℕ) (front inner after post : List ℕ) → drop at t ≡ front ++ (inner ++ after) ++ post → length front ≡ k
    → at + length (front ++ (inner ++ after)) ≡ end → Parts t at k end front inner after post
parts t at k end front inner after post here h e =
    let a : drop at t ≡ front ++ (inner ++ (after ++ post)) = here ∙ simp append_assoc in
    let b : drop (at + k) t ≡ inner ++ (after ++ post) = past t at k front (inner ++ (after ++ post)) a h in
    record {
      whole = a;
      at_inner = b;
      at_after = past t (at + k) (length inner) inner (after ++ post) b refl;
      sum = omega (arith, simp length-append at e);
    }

count : (t : List ℕ) (rows : List Row) (ns : List Node) → map (node_of t) rows ≡ ns → length rows ≡ length ns
count t rows ns e = sym (length-map rows (node_of t)) ∙ ap length e

pub value-sq : (levels : ℕ) (t : List ℕ) (n : ℕ) (v : Cursor) → value_run (suc levels) t n SQ v ≡ items_at levels t n v
unfolding value_run
value-sq levels t n v = refl

-- A run that reads just these nodes, up to the end.
record Comes (t : List ℕ) (o : Run) (end : ℕ) (before : List Row) (ns : List Node) : Type 0 where
  rows : List Row
  is : o ≡ done end end (before ++ rows)
  nodes : map (node_of t) rows ≡ ns

joined : (t : List ℕ) (x n : Node) (a b : List Row) (below rest : List Node) → x ≡ n → map (node_of t) a ≡ below → map (node_of t) b ≡ rest
    → x ∷ map (node_of t) (a ++ b) ≡ n ∷ (below ++ rest)
joined t x n a b below rest p q r = rw (p, map-append (node_of t) a b, q, r)

leaf-node : (t : List ℕ) (tag vr depth at size first : ℕ) (value rest : List ℕ) → (vr ≡ SQ → ⊥) → (vr ≡ 0 → ⊥) → drop at t ≡ value ++ rest
    → size ≡ length value
    → node_of t (row tag vr depth at size 0 first) ≡ node tag vr depth 0 value
leaf-node t tag vr depth at size first value rest n m here e = rw (ne_eqb vr SQ n, ne_eqb vr 0 m, here, take_at value rest size (sym e))

module _ (t : List ℕ) (at_head : ℕ → ℕ → Result Head Fault) (inside : ℕ → ℕ → Cursor → Run) (depth first end : ℕ) where
  -- One turn, and what the turns after it come to.
  step : (turns at least : ℕ) (before : List Row) (tag vr : ℕ) (v : Cursor) (stop : ℕ) (low : List Row) (n : Node) (below rest : List Node)
      → at_head at least ≡ Ok (head.Header tag vr v) → inside (first + length before + 1) vr v ≡ done stop stop low
      → map (node_of t) low ≡ below → node_of t (row tag vr depth v.at (stop - v.at) (length low) first) ≡ n
      → at < stop → stop ≤ end → end < at + turns
      → ((turns : ℕ) (before : List Row) → end < stop + turns
      → Comes t (level at_head inside depth first turns stop (tag + 1) before) end before rest)
      → Comes t (level at_head inside depth first turns at least before) end before (n ∷ (below ++ rest))
  step zero at least before tag vr v stop low n below rest h i m e p q f go = absurd (omega arith)
  step (suc turns) at least before tag vr v stop low n below rest h i m e p q f go =
      let r : Row = row tag vr depth v.at (stop - v.at) (length low) first in
      let c = go turns (before ++ (r ∷ low)) (omega arith) in
      record {
        rows = r ∷ (low ++ c.rows);
        is = level-on at_head inside depth first turns at least before tag vr stop stop v low h i ∙ c.is
            ∙ ap (done end end) (append_assoc before (r ∷ low) c.rows);
        nodes = joined t _ n low c.rows below rest e m c.nodes;
      }

abbrev head_of : Kind → ℕ → List ℕ → ℕ → ℕ → ℕ → Result Head Fault
head_of elements levels t end at least = element_at t (cursor at end false) least levels
head_of items levels t end at least = item_at t (cursor at end false)

abbrev in_of : Kind → ℕ → List ℕ → ℕ → ℕ → Cursor → Run
in_of elements levels t n vr v = value_run levels t n vr v
in_of items levels t n vr v = elements_at levels t n v

ends : (t : List ℕ) (kind : Kind) (levels end least : ℕ) → head_of kind levels t end end least ≡ Ok (head.End 0 0 (cursor end end false))
unfolding header_by when
ends t elements levels end least = rw (eq-eqb end end refl)
ends t items levels end least = rw (eq-eqb end end refl)

module _ (t : List ℕ) (small : length t ≤ largest) where
  ended : (kind : Kind) (levels first end least : ℕ) (before : List Row) (turns : ℕ) → 0 < turns
      → Comes t (level (head_of kind levels t end) (in_of kind levels t) (depths - levels) first turns end least before) end before []
  ended kind levels first end least before zero h = absurd (omega arith)
  ended kind levels first end least before (suc turns) h =
      record {
        rows = [];
        is = level-end (head_of kind levels t end) (in_of kind levels t) (depths - levels) first turns end least before 0 0
            (cursor end end false)
            (ends t kind levels end least)
            ∙ ap (done end end) (sym (append-nil before));
        nodes = refl;
      }

  shape-comes : {kind : Kind} {levels least : ℕ} {ns : List Node} {bs : List ℕ} → Shape kind levels least ns bs
      → (first at end turns : ℕ) (post : List ℕ) (before : List Row) → drop at t ≡ bs ++ post → at + length bs ≡ end → end ≤ length t
      → end < at + turns
      → Comes t (level (head_of kind levels t end) (in_of kind levels t) (depths - levels) first turns at least before) end before ns
  shape-comes (none {kind} {levels} {least}) first at end turns post before here e q f =
      subst
      (λ (p : ℕ).
      Comes t (level (head_of kind levels t end) (in_of kind levels t) (depths - levels) first turns p least before) end before [])
      (sym at-end) (ended kind levels first end least before turns (omega arith))
    where
      at-end : at ≡ end
      at-end = omega arith
  shape-comes (leaf {levels} {least} {tag} {vr} {value} {rest} {after} l r) first at end turns post before here e q f =
      let k : ℕ = head_size vr in
      let stop : ℕ = at + k + length value in
      let d = parts t at k end (header tag vr (length value)) value after post here (length-header tag vr (length value)) e in
      let z = d.sum in
      step t (head_of elements levels t end) (in_of elements levels t) (depths - levels) first end turns at least before tag vr
      (cursor (at + k) stop false) stop []
      (node tag vr (depths - levels) 0 value) [] rest
      (element-back t at end least levels tag vr (length value) (value ++ (after ++ post)) d.whole l.ascends l.tagged l.letters
      (λ s _. absurd (l.plain s)) l.even l.known l.short
      (omega arith) (omega arith))
      (value-plain levels t (first + length before + 1) vr (cursor (at + k) stop false) l.plain) refl
      (leaf-node t tag vr (depths - levels) (at + k) (stop - (at + k)) first value (after ++ post) l.plain (vr-not-0 vr l.known)
      d.at_inner (omega arith))
      (omega (arith, head-least vr)) (omega arith) f
      (λ turns before w. shape-comes r first stop end turns post before d.at_after z q w)
  shape-comes (sequence {levels} {least} {tag} {below} {rest} {inner} {after} h g b r) first at end turns post before here e q f =
      let k : ℕ = head_size SQ in
      let stop : ℕ = at + k + length inner in
      let d = parts t at k end (header tag SQ (length inner)) inner after post here (length-header tag SQ (length inner)) e in
      let z = d.sum in
      let c = shape-comes b (first + length before + 1) (at + k) stop (length t + 1) (after ++ post) [] d.at_inner refl (omega arith)
      (omega arith) in
      step t (head_of elements (suc levels) t end) (in_of elements (suc levels) t) (depths - suc levels) first end turns at least before tag
      SQ
      (cursor (at + k) stop false) stop c.rows
      (node tag SQ (depths - suc levels) (length below) []) below rest
      (element-back t at end least (suc levels) tag SQ (length inner) (inner ++ (after ++ post)) d.whole h g (omega arith)
      (λ _ y. absurd (omega arith)) (shape-even b)
      (λ y. absurd (omega (arith, sq-long))) (λ y. absurd (omega (arith, sq-long))) (omega arith) (omega arith))
      (value-sq levels t (first + length before + 1) (cursor (at + k) stop false) ∙ c.is) c.nodes
      (ap (λ (n : ℕ). node tag SQ (depths - suc levels) n []) (count t c.rows below c.nodes))
      (omega (arith, head-least SQ)) (omega arith) f
      (λ turns before w. shape-comes r first stop end turns post before d.at_after z q w)
  shape-comes (item {levels} {least} {below} {rest} {inner} {after} b r) first at end turns post before here e q f =
      let stop : ℕ = at + 8 + length inner in
      let d = parts t at 8 end (header item_tag 0 (length inner)) inner after post here (length-header item_tag 0 (length inner) ∙ item-short)
      e in
      let z = d.sum in
      let c = shape-comes b (first + length before + 1) (at + 8) stop (length t + 1) (after ++ post) [] d.at_inner refl (omega arith)
      (omega arith) in
      step t (head_of items levels t end) (in_of items levels t) (depths - levels) first end turns at least before item_tag 0
      (cursor (at + 8) stop false) stop c.rows
      (node item_tag 0 (depths - levels) (length below) []) below rest
      (item_back t at end (length inner) (inner ++ (after ++ post)) d.whole (shape-even b) (omega arith) (omega arith))
      c.is c.nodes
      (ap (λ (n : ℕ). node item_tag 0 (depths - levels) n []) (count t c.rows below c.nodes))
      (omega arith) (omega arith) f
      (λ turns before w. shape-comes r first stop end turns post before d.at_after z q w)

-- ---- The whole

pub record Back (t : List ℕ) (ns : List Node) : Type 0 where
  pub rows : List Row
  pub is : reading_of t ≡ read rows
  pub nodes : map (node_of t) rows ≡ ns

pub shape-back : {ns : List Node} {bs : List ℕ} → Shape elements 8 0 ns bs → length bs ≤ largest → Back bs ns
unfolding reading_of
shape-back {ns} {bs} h small =
    let c = shape-comes bs small h 0 0 (length bs) (length bs + 1) [] [] (sym (append-nil bs)) (omega arith) (omega arith) (omega arith) in
    record {
      rows = c.rows;
      is = rw (le-ltb largest (length bs) small) (ap whole c.is);
      nodes = c.nodes;
    }
