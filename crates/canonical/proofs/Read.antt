-- From a reading to a shape: what each header that is no refusal says, then level by level. A header takes as many bytes as its form says
-- whatever the list, so the nodes fit the data set even where the list's numbers are not known to be bytes; the shape needs that.
use Rattle.std.specs.Prelude.{Result, Ok, Err}
use mathlib.Core.Path.{◌≡◌, refl, sym, ap, ◌∙◌, subst}
use mathlib.Core.Bool.{Bool, true, false, cond}
use Prim.Native.Nat.{ℕ, zero, suc, ◌+◌, ◌-◌, ◌/◌, ◌%◌, ◌≤◌, ◌<◌}
use native.Mathlib.Omega.{arith}
use borrow.Author.Tests.{eqb-true, eqb-false, ltb-false, ne_eqb}
use lib.Dec.{eqb, ltb}
use mathlib.Core.List.{List, [], ◌∷◌, ◌++◌, map, append_assoc, append-nil, map-append}
use lib.ListN.{length, take, drop, length-take, length-drop, length-map}
use Rattle.dataset.specs.declared.Cursor.{Cursor}
use Rattle.dataset.specs.declared.Fault.{Fault}
use Rattle.dataset.specs.declared.Fault.TheVariants.{CutShort, NotDue}
use Rattle.dataset.specs.declared.Head.{Head}
use Rattle.dataset.specs.declared.Head.TheVariants as head
use Rattle.basics.specs.Bytes.{IsBytes, le16, le32, tag_at, vr_at}
use Rattle.basics.proofs.Bytes.{take-bytes, drop-bytes}
use Rattle.basics.specs.Vr.{form_of, SQ}
use Rattle.dataset.specs.Header.{when, cursor, moved, header_by, delimiter_by, nested_by, defined_by, long_by, typed_at, tagged_at}
use Rattle.basics.specs.Tags.{item_tag}
use Rattle.dataset.specs.Header.{sized_by, member_at, element_at, item_at}
use Rattle.dataset.specs.declared.Row.{Row}
use Rattle.dataset.specs.Reading.{row, Run, done, refused, unfinished, on_head, on_run, level, value_run, elements_at, Reading, too_large}
use Rattle.dataset.specs.Internal.{items_at}
use Rattle.dataset.specs.Reading.{depths}
use Rattle.dataset.specs.Reading.{refused_at, read, whole, reading_of}
use Rattle.basics.specs.Limits.{largest}
use Rattle.dataset.specs.Tree.{Kind, elements, items}
use Rattle.dataset.proofs.Level.{value-plain}
use Rattle.node.specs.Nodes.{node_of, holds_nodes}
use Rattle.canonical.specs.Written.{header, head_size, own_size, written_size}
use Rattle.canonical.proofs.Back.{value-sq}
use Rattle.canonical.proofs.Shape.{Tag, Leaf, Shape, none, leaf, sequence, item, node, Form, no, short, long, form, vr-not-0}
use Rattle.canonical.proofs.Shape.{head-short, head-long, item-short, size-append}

-- ---- What a header says

-- Of an element of s, with the cursor over its value.
record Element (s : List ℕ) (c : Cursor) (least levels tag vr : ℕ) (v : Cursor) : Type 0 where
  ascends : least ≤ tag
  tagged : IsBytes s → Tag tag
  known : form_of vr ≡ 0 → ⊥
  letters : IsBytes s → vr < 65536
  start : c.at + head_size vr ≤ v.at
  ordered : v.at ≤ v.end
  high : v.end ≤ c.end
  even : (vr ≡ SQ → ⊥) → (v.end - v.at) % 2 ≡ 0
  short : IsBytes s → form_of vr ≡ 1 → v.end - v.at < 65536
  deep : vr ≡ SQ → levels ≡ 0 → ⊥

record Item (c : Cursor) (tag vr : ℕ) (v : Cursor) : Type 0 where
  tagged : tag ≡ item_tag
  plain : vr ≡ 0
  start : c.at + 8 ≤ v.at
  high : v.end ≤ c.end

abbrev Says : List ℕ → Kind → ℕ → ℕ → Cursor → Result Head Fault → Type 0
Says s elements least levels c (Ok (head.Header tag vr v)) = Element s c least levels tag vr v
Says s items least levels c (Ok (head.Header tag vr v)) = Item c tag vr v
Says s kind least levels c (Ok (head.End tag vr next)) = (c.at ≤ next.at) × (next.at ≤ c.end)
Says s kind least levels c (Err fault) = Unit {0}

module _ (s : List ℕ) (kind : Kind) (least levels : ℕ) (c : Cursor) where
  by-test : (t : Bool) (a b : Result Head Fault) → (t ≡ true → Says s kind least levels c a) → (t ≡ false → Says s kind least levels c b)
      → Says s kind least levels c (when t a b)
  unfolding when
  by-test true a b p q = p refl
  by-test false a b p q = q refl

  refuses : (fault : Fault) → Says s kind least levels c (Err fault)
  refuses fault = by_kind kind
    where
      by_kind : (k : Kind) → Says s k least levels c (Err fault)
      by_kind elements = tt
      by_kind items = tt

  closes : (tag vr : ℕ) (next : Cursor) → c.at ≤ next.at → next.at ≤ c.end → Says s kind least levels c (Ok (head.End tag vr next))
  closes tag vr next p q = by_kind kind
    where
      by_kind : (k : Kind) → Says s k least levels c (Ok (head.End tag vr next))
      by_kind elements = (p, q)
      by_kind items = (p, q)

  delimiter-says : (tag due len : ℕ) → c.at + 8 ≤ c.end → Says s kind least levels c (delimiter_by c tag due len)
  unfolding delimiter_by
  delimiter-says tag due len p =
      by-test _ _ _
      (λ _. by-test _ _ _ (λ _. by-test _ _ _ (λ _. closes tag 0 (moved c (c.at + 8)) (omega arith) p) (λ _. refuses NotDue)) (λ _. refuses NotDue))
      (λ _. refuses NotDue)

  header-says : (h : Result Head Fault) → (c.at + 8 ≤ c.end → Says s kind least levels c h) → Says s kind least levels c (header_by c h)
  unfolding header_by
  header-says h q =
      by-test _ _ _ (λ e. by-test _ _ _ (λ _. refuses CutShort) (λ _. closes 0 0 c (omega arith) (omega (arith, eqb-true c.at c.end e))))
      (λ _. by-test _ _ _ (λ _. refuses CutShort) (λ k. q (omega (arith, ltb-false (c.end - c.at) 8 k))))

module _ (s : List ℕ) (c : Cursor) (least levels tag vr : ℕ) (up : least ≤ tag) (good : IsBytes s → Tag tag) (known : form_of vr ≡ 0 → ⊥)
    (word : IsBytes s → vr < 65536) where
  level-says : (v : Cursor) → ((vr ≡ SQ → levels ≡ 0 → ⊥) → Element s c least levels tag vr v)
      → Says s elements least levels c (nested_by tag vr levels v)
  unfolding nested_by
  level-says v g =
      by-test s elements least levels c _ _ _
      (λ _. by-test s elements least levels c _ _ _ (λ _. tt) (λ f. g (λ _. eqb-false levels 0 f)))
      (λ e. g (λ s _. eqb-false vr SQ e s))

  module _ (start : ℕ) (from : c.at + head_size vr ≤ start) (room : start ≤ c.end) where
    defined-says : (len : ℕ) → (IsBytes s → form_of vr ≡ 1 → len < 65536) → Says s elements least levels c (defined_by c tag vr start len levels)
    unfolding defined_by
    defined-says len few =
        by-test s elements least levels c _ _ _ (λ _. tt)
        (λ o. by-test s elements least levels c _ _ _ (λ _. tt)
        (λ k. level-says (cursor start (start + len) false) (λ d.
        let fit : len ≤ c.end - start = ltb-false (c.end - start) len k in
        let odd : len % 2 ≡ 1 → ⊥ = eqb-false (len % 2) 1 o in
        let same : start + len - start ≡ len = omega arith in
        record {
          ascends = up;
          tagged = good;
          known = known;
          letters = word;
          start = from;
          ordered = omega arith;
          high = omega arith;
          even = λ _. rw same (omega arith);
          short = λ b f. rw same (few b f);
          deep = d;
        })))

    long-says : (len : ℕ) → form_of vr ≡ 2 → Says s elements least levels c (long_by c tag vr start len levels)
    unfolding long_by
    long-says len f =
        by-test s elements least levels c _ _ _
        (λ _. by-test s elements least levels c _ _ _
        (λ e. level-says (cursor start c.end true) (λ d.
        record {
          ascends = up;
          tagged = good;
          known = known;
          letters = word;
          start = from;
          ordered = room;
          high = omega arith;
          even = λ n. absurd (n (eqb-true vr SQ e));
          short = λ _ g. absurd (omega arith);
          deep = d;
        }))
        (λ _. tt))
        (λ _. defined-says len (λ _ g. absurd (omega arith)))

module _ (s : List ℕ) where
  le16-small : IsBytes s → (p : ℕ) → le16 s p < 65536
  unfolding le16
  le16-small bytes p = omega (arith, bytes p, bytes (p + 1))

  tag_small : IsBytes s → (p : ℕ) → tag_at s p < 4294967296
  tag_small bytes p = omega (arith, le16-small bytes p, le16-small bytes (p + 2))

  vr-small : IsBytes s → (p : ℕ) → vr_at s p < 65536
  vr-small bytes p = omega (arith, bytes p, bytes (p + 1))

  module _ (c : Cursor) (k : c.at + 8 ≤ c.end) (least levels : ℕ) where
    typed-says : (tag vr size : ℕ) → least ≤ tag → (IsBytes s → Tag tag) → (IsBytes s → vr < 65536) → (IsBytes s → size < 65536)
        → Says s elements least levels c (typed_at s c tag vr (form_of vr) size levels)
    unfolding typed_at
    typed-says tag vr size up good word small =
        by-test s elements least levels c _ _ _ (λ _. tt)
        (λ a. let known : form_of vr ≡ 0 → ⊥ = eqb-false (form_of vr) 0 a in
        by-test s elements least levels c _ _ _
        (λ b. defined-says s c least levels tag vr up good known word (c.at + 8) (omega (arith, head-short vr (eqb-true (form_of vr) 1 b))) k
        size (λ b _. small b))
        (λ b. by-test s elements least levels c _ _ _ (λ _. tt)
        (λ m. let f : form_of vr ≡ 2 = is-long (form vr) known (eqb-false (form_of vr) 1 b) in
        let room : 12 ≤ c.end - c.at = ltb-false (c.end - c.at) 12 m in
        by-test s elements least levels c _ _ _
        (λ _. long-says s c least levels tag vr up good known word (c.at + 12) (omega (arith, head-long vr f)) (omega arith)
        (le32 s (c.at + 8)) f)
        (λ _. tt))))
      where
        is-long : Form vr → (form_of vr ≡ 0 → ⊥) → (form_of vr ≡ 1 → ⊥) → form_of vr ≡ 2
        is-long (no f) a b = absurd (a f)
        is-long (short f) a b = absurd (b f)
        is-long (long f) a b = f

    tagged-says : (tag : ℕ) → (IsBytes s → tag < 4294967296) → Says s elements least levels c (tagged_at s c tag least levels)
    unfolding tagged_at
    tagged-says tag small =
        by-test s elements least levels c _ _ _ (λ _. delimiter-says s elements least levels c tag _ _ k)
        (λ g. by-test s elements least levels c _ _ _ (λ _. tt)
        (λ u. typed-says tag _ _ (ltb-false tag least u) (λ b. record { small = small b; group = eqb-false (tag / 65536) 65534 g })
        (λ b. vr-small b _) (λ b. le16-small b _)))

    sized-says : (len : ℕ) → Says s items least levels c (sized_by c len)
    unfolding sized_by defined_by nested_by
    sized-says len =
        by-test s items least levels c _ _ _ (λ _. record { tagged = refl; plain = refl; start = omega arith; high = omega arith })
        (λ _. by-test s items least levels c _ _ _ (λ _. tt)
        (λ _. by-test s items least levels c _ _ _ (λ _. tt)
        (λ m. let it : Says s items least levels c (Ok (head.Header item_tag 0 (cursor (c.at + 8) (c.at + 8 + len) false))) =
        record { tagged = refl; plain = refl; start = omega arith; high = omega (arith, ltb-false (c.end - (c.at + 8)) len m) } in
        by-test s items least levels c _ _ _ (λ _. by-test s items least levels c _ _ _ (λ _. tt) (λ _. it)) (λ _. it))))

    member-says : (tag : ℕ) → Says s items least levels c (member_at s c tag)
    unfolding member_at
    member-says tag = by-test s items least levels c _ _ _ (λ _. sized-says _) (λ _. delimiter-says s items least levels c tag _ _ k)

  element-says : (c : Cursor) (least levels : ℕ) → Says s elements least levels c (element_at s c least levels)
  element-says c least levels = header-says s elements least levels c _ (λ k. tagged-says c k least levels _ (λ b. tag_small b c.at))

  item-says : (c : Cursor) (least levels : ℕ) → Says s items least levels c (item_at s c)
  item-says c least levels = header-says s items least levels c _ (λ k. member-says c k least levels _)

-- ---- A run that is done has read a shape, which takes no more bytes than it did

record Made (s : List ℕ) (kind : Kind) (levels least at end : ℕ) (before : List Row) (stop next : ℕ) (rows : List Row) : Type 0 where
  rest : List Row
  bytes : List ℕ
  is : rows ≡ before ++ rest
  shape : IsBytes s → Shape kind levels least (map (node_of s) rest) bytes
  fits : at + written_size (map (node_of s) rest) ≤ stop
  close : stop ≤ next
  high : next ≤ end

abbrev Makes : List ℕ → Kind → ℕ → ℕ → ℕ → ℕ → List Row → Run → Type 0
Makes s kind levels least at end before (done stop next rows) = Made s kind levels least at end before stop next rows
Makes s kind levels least at end before (refused fault offset) = Unit {0}
Makes s kind levels least at end before unfinished = Unit {0}

-- What a header with its value adds in front of a shape.
record Grown (s : List ℕ) (kind : Kind) (levels least at end tag : ℕ) (new : List Row) (next : ℕ) : Type 0 where
  high : next ≤ end
  grow : (rest : List Row) (after : List ℕ) → (IsBytes s → Shape kind levels (tag + 1) (map (node_of s) rest) after)
      → (bytes : List ℕ) × (IsBytes s → Shape kind levels least (map (node_of s) (new ++ rest)) bytes)
  fits : (rest : List Row) → at + written_size (map (node_of s) (new ++ rest)) ≤ next + written_size (map (node_of s) rest)

abbrev Grows : List ℕ → Kind → ℕ → ℕ → ℕ → ℕ → Result Head Fault → (ℕ → ℕ → Cursor → Run) → Type 0
Grows s kind levels least at end (Ok (head.Header tag vr v)) inside = (first n stop next : ℕ) (below : List Row)
    → inside n vr v ≡ done stop next below
    → Grown s kind levels least at end tag (row tag vr (depths - levels) v.at (stop - v.at) (length below) first ∷ below) next
Grows s kind levels least at end (Ok (head.End tag vr next)) inside = (at ≤ next.at) × (next.at ≤ end)
Grows s kind levels least at end (Err fault) inside = Unit {0}

module _ (s : List ℕ) (kind : Kind) (levels end first : ℕ) (at_head : ℕ → ℕ → Result Head Fault) (inside : ℕ → ℕ → Cursor → Run)
    (grows : (at least : ℕ) → Grows s kind levels least at end (at_head at least) inside) where
  level-makes : (turns at least : ℕ) (before : List Row)
      → Makes s kind levels least at end before (level at_head inside (depths - levels) first turns at least before)
  unfolding level written_size
  level-makes zero at least before = tt
  level-makes (suc turns) at least before =
      on-head (λ next tag new. level-makes turns next (tag + 1) (before ++ new)) (at_head at least) (grows at least)
    where
      Next : Type 0
      Next = (next tag : ℕ) (new : List Row) → Makes s kind levels (tag + 1) next end (before ++ new)
          (level at_head inside (depths - levels) first turns next (tag + 1) (before ++ new))

      joins : (tag next : ℕ) (new : List Row) → Grown s kind levels least at end tag new next
          → (o : Run) → Makes s kind levels (tag + 1) next end (before ++ new) o → Makes s kind levels least at end before o
      joins tag next new g (refused fault offset) m = tt
      joins tag next new g unfinished m = tt
      joins tag next new g (done stop after rows) m =
          let w = g.grow m.rest m.bytes m.shape in
          record {
            rest = new ++ m.rest;
            bytes = w.0;
            is = m.is ∙ append_assoc before new m.rest;
            shape = w.1;
            fits = omega (arith, g.fits m.rest, m.fits);
            close = m.close;
            high = m.high;
          }

      on-run : Next → (tag vr : ℕ) (v : Cursor) (o : Run)
          → ((stop next : ℕ) (below : List Row) → o ≡ done stop next below
          → Grown s kind levels least at end tag (row tag vr (depths - levels) v.at (stop - v.at) (length below) first ∷ below) next)
          → Makes s kind levels least at end before (on_run o (λ stop next below.
          level at_head inside (depths - levels) first turns next (tag + 1)
          (before ++ (row tag vr (depths - levels) v.at (stop - v.at) (length below) first ∷ below))))
      on-run k tag vr v (refused fault offset) g = tt
      on-run k tag vr v unfinished g = tt
      on-run k tag vr v (done stop next below) g =
          let new : List Row = row tag vr (depths - levels) v.at (stop - v.at) (length below) first ∷ below in
          joins tag next new (g stop next below refl) (level at_head inside (depths - levels) first turns next (tag + 1) (before ++ new))
          (k next tag new)

      on-head : Next → (h : Result Head Fault) → Grows s kind levels least at end h inside → Makes s kind levels least at end before (on_head h
          (λ fault. refused fault at)
          (λ next. done at next before)
          (λ tag vr v. on_run (inside (first + length before + 1) vr v) (λ stop next below.
          level at_head inside (depths - levels) first turns next (tag + 1)
          (before ++ (row tag vr (depths - levels) v.at (stop - v.at) (length below) first ∷ below)))))
      on-head k (Err fault) g = tt
      on-head k (Ok (head.End tag vr next)) g =
          record { rest = []; bytes = []; is = sym (append-nil before); shape = λ _. none; fits = omega arith; close = g.0; high = g.1 }
      on-head k (Ok (head.Header tag vr v)) g = on-run k tag vr v (inside (first + length before + 1) vr v) (g first (first + length before + 1))

-- ---- Elements and items

module _ (s : List ℕ) where
  -- The nodes of a container in front of others.
  container : (tag vr depth at size first : ℕ) (below rest : List Row) → holds_nodes vr ≡ true
      → map (node_of s) (row tag vr depth at size (length below) first ∷ (below ++ rest))
      ≡ node tag vr depth (length (map (node_of s) below)) [] ∷ (map (node_of s) below ++ map (node_of s) rest)
  container tag vr depth at size first below rest h = rw (h, map-append (node_of s) below rest, length-map below (node_of s))

  size-of : (c : Cursor) (least levels tag vr : ℕ) (v : Cursor) → Element s c least levels tag vr v → c.end ≤ length s
      → length (take (v.end - v.at) (drop v.at s)) ≡ v.end - v.at
  size-of c least levels tag vr v g room = simp (length-take, length-drop) (omega (arith, g.high, g.ordered))

  leaf-of : (c : Cursor) (least levels tag vr : ℕ) (v : Cursor) → Element s c least levels tag vr v → c.end ≤ length s → (vr ≡ SQ → ⊥)
      → IsBytes s → Leaf least tag vr (take (v.end - v.at) (drop v.at s))
  leaf-of c least levels tag vr v g room n bytes =
      let e = size-of c least levels tag vr v g room in
      record {
        ascends = g.ascends;
        tagged = g.tagged bytes;
        known = g.known;
        letters = g.letters bytes;
        plain = n;
        even = rw e (g.even n);
        short = λ f. rw e (g.short bytes f);
        bytes = take-bytes (v.end - v.at) (drop v.at s) (drop-bytes v.at s bytes);
      }

  leaf-grows : (c : Cursor) (least levels tag vr first : ℕ) (v : Cursor) → Element s c least levels tag vr v → c.end ≤ length s
      → (vr ≡ SQ → ⊥)
      → Grown s elements levels least c.at c.end tag (row tag vr (depths - levels) v.at (v.end - v.at) 0 first ∷ []) v.end
  unfolding written_size own_size
  leaf-grows c least levels tag vr first v g room n =
      let value : List ℕ = take (v.end - v.at) (drop v.at s) in
      record {
        high = g.high;
        grow = λ rest after w. (
          header tag vr (length value) ++ (value ++ after),
          λ bytes. rw (ne_eqb vr SQ n, ne_eqb vr 0 (vr-not-0 vr g.known))
              (leaf (leaf-of c least levels tag vr v g room n bytes) (w bytes)),
        );
        fits = λ rest. rw (ne_eqb vr SQ n, ne_eqb vr 0 (vr-not-0 vr g.known), size-of c least levels tag vr v g room)
            (omega (arith, g.start, g.ordered));
      }

  sequence-grows : (c : Cursor) (least levels tag first : ℕ) (v : Cursor) → Element s c least (suc levels) tag SQ v
      → (stop next : ℕ) (below : List Row) → Made s items levels 0 v.at v.end [] stop next below
      → Grown s elements (suc levels) least c.at c.end tag
      (row tag SQ (depths - suc levels) v.at (stop - v.at) (length below) first ∷ below) next
  unfolding written_size own_size
  sequence-grows c least levels tag first v g stop next below m =
      let shape : IsBytes s → Shape items levels 0 (map (node_of s) below) m.bytes = λ bytes. rw m.is (m.shape bytes) in
      let fits : v.at + written_size (map (node_of s) below) ≤ stop = rw m.is m.fits in
      record {
        high = omega (arith, m.high, g.high);
        grow = λ rest after w. (
          header tag SQ (length m.bytes) ++ (m.bytes ++ after),
          λ bytes. rw (container tag SQ (depths - suc levels) v.at (stop - v.at) first below rest refl)
              (sequence g.ascends (g.tagged bytes) (shape bytes) (w bytes)),
        );
        fits = λ rest. omega (
          arith,
          ap written_size (container tag SQ (depths - suc levels) v.at (stop - v.at) first below rest refl),
          size-append (map (node_of s) below) (map (node_of s) rest),
          g.start,
          fits,
          m.close,
        );
      }

  item-grows : (c : Cursor) (least levels first : ℕ) (v : Cursor) → Item c item_tag 0 v
      → (stop next : ℕ) (below : List Row) → Made s elements levels 0 v.at v.end [] stop next below
      → Grown s items levels least c.at c.end item_tag
      (row item_tag 0 (depths - levels) v.at (stop - v.at) (length below) first ∷ below) next
  unfolding written_size own_size
  item-grows c least levels first v g stop next below m =
      let shape : IsBytes s → Shape elements levels 0 (map (node_of s) below) m.bytes = λ bytes. rw m.is (m.shape bytes) in
      let fits : v.at + written_size (map (node_of s) below) ≤ stop = rw m.is m.fits in
      record {
        high = omega (arith, m.high, g.high);
        grow = λ rest after w. (
          header item_tag 0 (length m.bytes) ++ (m.bytes ++ after),
          λ bytes. rw (container item_tag 0 (depths - levels) v.at (stop - v.at) first below rest refl)
              (item (shape bytes) (w bytes)),
        );
        fits = λ rest. omega (
          arith,
          ap written_size (container item_tag 0 (depths - levels) v.at (stop - v.at) first below rest refl),
          size-append (map (node_of s) below) (map (node_of s) rest),
          item-short,
          g.start,
          fits,
          m.close,
        );
      }

  -- A value, where items one deeper are shapes.
  abbrev Deeper : ℕ → Type 0
  Deeper zero = Unit {0}
  Deeper (suc levels) = (n : ℕ) (v : Cursor) → v.end ≤ length s → Makes s items levels 0 v.at v.end [] (items_at levels s n v)

  done-of : (kind : Kind) (levels least at end : ℕ) (before : List Row) (o : Run) → Makes s kind levels least at end before o
      → (stop next : ℕ) (rows : List Row) → o ≡ done stop next rows → Made s kind levels least at end before stop next rows
  done-of kind levels least at end before o m stop next rows e = subst (λ (x : Run). Makes s kind levels least at end before x) e m

  value_grows : (levels : ℕ) → Deeper levels → (c : Cursor) (least : ℕ) → c.end ≤ length s
      → (tag vr : ℕ) (v : Cursor) → Element s c least levels tag vr v → (t : Bool) → eqb vr SQ ≡ t
      → (first n stop next : ℕ) (below : List Row) → value_run levels s n vr v ≡ done stop next below
      → Grown s elements levels least c.at c.end tag
      (row tag vr (depths - levels) v.at (stop - v.at) (length below) first ∷ below)
      next
  value_grows zero deeper c least room tag vr v g true q first n stop next below e = absurd (g.deep (eqb-true vr SQ q) refl)
  value_grows (suc levels) deeper c least room tag vr v g true q first n stop next below e =
      let z : vr ≡ SQ = eqb-true vr SQ q in
      subst (λ (x : ℕ). Element s c least (suc levels) tag x v → value_run (suc levels) s n x v ≡ done stop next below
      → Grown s elements (suc levels) least c.at c.end tag
      (row tag x (depths - suc levels) v.at (stop - v.at) (length below) first ∷ below) next) (sym z)
      (λ g e. sequence-grows c least levels tag first v g stop next below
      (done-of items levels 0 v.at v.end [] (items_at levels s n v) (deeper n v (omega (arith, g.high))) stop next below
      (sym (value-sq levels s n v) ∙ e))) g e
  value_grows levels deeper c least room tag vr v g false q first n stop next below e =
      let plain : vr ≡ SQ → ⊥ = eqb-false vr SQ q in
      let d : done v.end v.end [] ≡ done stop next below = sym (value-plain levels s n vr v plain) ∙ e in
      let a : stop ≡ v.end = cc in
      let b : next ≡ v.end = cc in
      let l : below ≡ [] = cc in
      rw (a, b, l) (leaf-grows c least levels tag vr first v g room plain)

  element-grows : (levels : ℕ) → Deeper levels → (c : Cursor) (least : ℕ) → c.end ≤ length s → (h : Result Head Fault)
      → Says s elements least levels c h
      → Grows s elements levels least c.at c.end h (value_run levels s)
  element-grows levels deeper c least room (Err fault) g = tt
  element-grows levels deeper c least room (Ok (head.End tag vr next)) g = g
  element-grows levels deeper c least room (Ok (head.Header tag vr v)) g = value_grows levels deeper c least room tag vr v g (eqb vr SQ) refl

  member-grows : (levels : ℕ)
      → ((n : ℕ) (v : Cursor) → v.end ≤ length s → Makes s elements levels 0 v.at v.end [] (elements_at levels s n v))
      → (c : Cursor) (least : ℕ) → c.end ≤ length s → (h : Result Head Fault) → Says s items least levels c h
      → Grows s items levels least c.at c.end h (λ n vr v. elements_at levels s n v)
  member-grows levels inner c least room (Err fault) g = tt
  member-grows levels inner c least room (Ok (head.End tag vr next)) g = g
  member-grows levels inner c least room (Ok (head.Header tag vr v)) g = λ first n stop next below e.
      let m = done-of elements levels 0 v.at v.end [] (elements_at levels s n v) (inner n v (omega (arith, g.high))) stop next below
      e in
      let i : Item c item_tag 0 v = record { tagged = refl; plain = refl; start = g.start; high = g.high } in
      rw (g.tagged, g.plain) (item-grows c least levels first v i stop next below m)

  items-make : (levels : ℕ)
      → ((n : ℕ) (v : Cursor) → v.end ≤ length s → Makes s elements levels 0 v.at v.end [] (elements_at levels s n v))
      → (first : ℕ) (c : Cursor) → c.end ≤ length s → Makes s items levels 0 c.at c.end [] (items_at levels s first c)
  items-make levels inner first c room =
      level-makes s items levels c.end first (λ at least. item_at s (moved c at)) (λ n vr v. elements_at levels s n v)
      (λ at least.
      member-grows levels inner (moved c at) least room (item_at s (moved c at)) (item-says s (moved c at) least levels))
      (length s + 1) c.at 0 []

  elements-make-by : (levels : ℕ) → Deeper levels → (first : ℕ) (c : Cursor) → c.end ≤ length s
      → Makes s elements levels 0 c.at c.end [] (elements_at levels s first c)
  elements-make-by levels deeper first c room =
      level-makes s elements levels c.end first (λ at least. element_at s (moved c at) least levels) (value_run levels s)
      (λ at least. element-grows levels deeper (moved c at) least room (element_at s (moved c at) least levels)
      (element-says s (moved c at) least levels))
      (length s + 1) c.at 0 []

  elements-make : (levels first : ℕ) (c : Cursor) → c.end ≤ length s
      → Makes s elements levels 0 c.at c.end [] (elements_at levels s first c)
  elements-make zero = elements-make-by zero tt
  elements-make (suc levels) = elements-make-by (suc levels) (items-make levels (elements-make levels))

  -- ---- The whole

  pub record Reads (rows : List Row) : Type 0 where
    pub bytes_of : List ℕ
    pub shape : IsBytes s → Shape elements 8 0 (map (node_of s) rows) bytes_of
    pub fits : written_size (map (node_of s) rows) ≤ length s
    pub small : length s ≤ largest

  abbrev pub Readable : Reading → Type 0
  Readable too_large = Unit {0}
  Readable (refused_at fault offset) = Unit {0}
  Readable (read rows) = Reads rows

  pub reading-shape : Readable (reading_of s)
  unfolding reading_of
  reading-shape = by_size (ltb largest (length s)) refl
    where
      all : Cursor
      all = cursor 0 (length s) false

      by-run : length s ≤ largest → (o : Run) → Makes s elements 8 0 0 (length s) [] o → Readable (whole o)
      by-run h (refused fault offset) m = tt
      by-run h unfinished m = tt
      by-run h (done stop next rows) m =
          let fits : 0 + written_size (map (node_of s) rows) ≤ stop = rw m.is m.fits in
          record { bytes_of = m.bytes; shape = λ bytes. rw m.is (m.shape bytes); fits = omega (arith, fits, m.close, m.high); small = h }

      by_size : (t : Bool) → ltb largest (length s) ≡ t → Readable (cond t too_large (whole (elements_at 8 s 0 all)))
      by_size true e = tt
      by_size false e = by-run (ltb-false largest (length s) e) (elements_at 8 s 0 all) (elements-make 8 0 all (omega arith))
