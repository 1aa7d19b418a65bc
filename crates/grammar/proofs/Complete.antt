-- What reads well is the spelling of a data set: the tree is made along the reading.
use mathlib.Core.Path.{◌≡◌, refl, sym, ap, ◌∙◌, subst}
use mathlib.Core.Bool.{Bool, true, false, cond}
use Prim.Native.Nat.{ℕ, zero, suc, ◌+◌, ◌-◌, ◌%◌, ◌≤◌, ◌<◌}
use native.Mathlib.Omega.{arith}
use borrow.Author.Tests.{eqb-true, eqb-false, ltb-false}
use lib.Dec.{eqb, ltb}
use mathlib.Core.List.{List, [], ◌∷◌, ◌++◌, append_assoc, append-nil}
use lib.ListN.{length, take, drop, length-append, length-take, length-drop, take-append-drop}
use lib.Seq.{drop-drop, drop-length}
use Rattle.std.specs.Prelude.{Result, Ok, Err}
use Rattle.dataset.specs.declared.Fault.{Fault}
use Rattle.dataset.specs.declared.Cursor.{Cursor}
use Rattle.dataset.specs.declared.Head.{Head}
use Rattle.dataset.specs.declared.Head.TheVariants as head
use Rattle.basics.specs.Bytes.{IsBytes}
use Rattle.basics.proofs.Bytes.{take-bytes, drop-bytes}
use Rattle.basics.specs.Vr.{form_of, SQ}
use Rattle.basics.specs.Tags.{item_tag, item_delimiter, sequence_delimiter}
use Rattle.basics.specs.Limits.{largest}
use Rattle.dataset.specs.Header.{cursor, moved, element_at, item_at}
use Rattle.dataset.specs.Tree.{Kind, elements, items}
use Rattle.dataset.specs.declared.Row.{Row}
use Rattle.dataset.specs.Reading.{row, Run, done, refused, unfinished, on_head, on_run, level, value_run, elements_at, depths}
use Rattle.dataset.specs.Reading.{too_large, read, whole, reading_of}
use Rattle.dataset.specs.Internal.{items_at}
use Rattle.dataset.proofs.Level.{value-plain}
use Rattle.grammar.specs.Grammar.{Extent, defined, undefined, Forest, none, element, sequence, item}
use Rattle.grammar.specs.Grammar.{element_header, header_size, item_header, length_in, closing, spell, Tagged, Valued, Valid}
use Rattle.grammar.specs.Grammar.{count, rows_at, tree_rows}
use Rattle.grammar.specs.Claims.{Spelt, Complete}
use Rattle.grammar.specs.Places.{least_after, inner_end, inner_mark}
use Rattle.grammar.proofs.Headers.{inner-high, length-item}
use Rattle.grammar.proofs.Sound.{length-plain, length-sequence, length-member, length-rows, valid-any, delimiter_of}
use Rattle.grammar.proofs.Heads.{Opens, Element, Item, Ended, reached, marked, Says, element-says, item-says}

-- ---- A run that is done has read a forest

-- A forest is spelt from `at` to `stop`; its rows follow those before, and `final` is one more than its last tag.
pub record Got (s : List ℕ) (kind : Kind) (depth least at first : ℕ) (before : List Row) (stop final : ℕ) (rows : List Row) : Type 0 where
  pub forest : Forest kind
  pub valid : Valid depth least forest
  pub is : (n : ℕ) → first + length before ≡ n → rows ≡ before ++ rows_at depth at first n forest
  pub size : at + length (spell forest) ≡ stop
  pub spelt : drop at s ≡ spell forest ++ drop stop s
  pub last : least_after least forest ≡ final

pub record Made (s : List ℕ) (kind : Kind) (depth least at end : ℕ) (d : Bool) (first : ℕ) (before : List Row) (stop next : ℕ)
    (rows : List Row)
    : Type 0 where
  final : ℕ
  got : Got s kind depth least at first before stop final rows
  ended : Ended s kind stop end d next

abbrev pub Makes : List ℕ → Kind → ℕ → ℕ → ℕ → ℕ → Bool → ℕ → List Row → Run → Type 0
Makes s kind depth least at end d first before (done stop next rows) = Made s kind depth least at end d first before stop next rows
Makes s kind depth least at end d first before (refused fault offset) = Unit {0}
Makes s kind depth least at end d first before unfinished = Unit {0}

-- What a header with its value adds in front of a forest.
abbrev pub Grown : List ℕ → Kind → ℕ → ℕ → ℕ → ℕ → List Row → ℕ → List Row → ℕ → Type 0
Grown s kind depth least at first before tag new next = (stop final : ℕ) (rows : List Row)
    → Got s kind depth (tag + 1) next first (before ++ new) stop final rows
    → Got s kind depth least at first before stop final rows

abbrev pub Grows : List ℕ → Kind → ℕ → ℕ → ℕ → ℕ → Bool → Result Head Fault → (ℕ → ℕ → Cursor → Run) → Type 0
Grows s kind depth least at end d (Ok (head.Header tag vr v)) inside = (first : ℕ) (before : List Row) (stop next : ℕ) (below : List Row)
    → inside (first + length before + 1) vr v ≡ done stop next below
    → (next ≤ end) × Grown s kind depth least at first before tag (row tag vr depth v.at (stop - v.at) (length below) first ∷ below)
    next
Grows s kind depth least at end d (Ok (head.End tag vr next)) inside = Ended s kind at end d next.at
Grows s kind depth least at end d (Err fault) inside = Unit {0}

pub nothing : (s : List ℕ) (kind : Kind) (depth least at first : ℕ) (before : List Row)
    → Got s kind depth least at first before at least before
unfolding Valid spell rows_at least_after
nothing s kind depth least at first before =
    record { forest = none; valid = tt; is = λ n _. sym (append-nil before); size = omega arith; spelt = refl; last = refl }

module _ (s : List ℕ) (kind : Kind) (depth end : ℕ) (d : Bool) (first : ℕ) (at_head : ℕ → ℕ → Result Head Fault) (inside : ℕ → ℕ → Cursor → Run)
    (grows : (at least : ℕ) → Grows s kind depth least at end d (at_head at least) inside) where
  level-makes : (turns at least : ℕ) (before : List Row)
      → Makes s kind depth least at end d first before (level at_head inside depth first turns at least before)
  unfolding level
  level-makes zero at least before = tt
  level-makes (suc turns) at least before =
      on-head (λ next tag new. level-makes turns next (tag + 1) (before ++ new)) (at_head at least) (grows at least)
    where
      Next : Type 0
      Next = (next tag : ℕ) (new : List Row) → Makes s kind depth (tag + 1) next end d first (before ++ new)
          (level at_head inside depth first turns next (tag + 1) (before ++ new))

      joins : (tag next : ℕ) (new : List Row) → Grown s kind depth least at first before tag new next
          → (o : Run) → Makes s kind depth (tag + 1) next end d first (before ++ new) o → Makes s kind depth least at end d first before o
      joins tag next new g (refused fault offset) m = tt
      joins tag next new g unfinished m = tt
      joins tag next new g (done stop after rows) m =
          record { final = m.final; got = g stop m.final rows m.got; ended = m.ended }

      on-run : Next → (tag vr : ℕ) (v : Cursor) (o : Run)
          → ((stop next : ℕ) (below : List Row) → o ≡ done stop next below
          → (next ≤ end) × Grown s kind depth least at first before tag
          (row tag vr depth v.at (stop - v.at) (length below) first ∷ below) next)
          → Makes s kind depth least at end d first before (on_run o (λ stop next below.
          level at_head inside depth first turns next (tag + 1)
          (before ++ (row tag vr depth v.at (stop - v.at) (length below) first ∷ below))))
      on-run k tag vr v (refused fault offset) g = tt
      on-run k tag vr v unfinished g = tt
      on-run k tag vr v (done stop next below) g =
          let new : List Row = row tag vr depth v.at (stop - v.at) (length below) first ∷ below in
          joins tag next new (g stop next below refl).1 (level at_head inside depth first turns next (tag + 1) (before ++ new))
          (k next tag new)

      on-head : Next → (h : Result Head Fault) → Grows s kind depth least at end d h inside → Makes s kind depth least at end d first before (on_head h
          (λ fault. refused fault at)
          (λ next. done at next before)
          (λ tag vr v. on_run (inside (first + length before + 1) vr v) (λ stop next below.
          level at_head inside depth first turns next (tag + 1)
          (before ++ (row tag vr depth v.at (stop - v.at) (length below) first ∷ below)))))
      on-head k (Err fault) g = tt
      on-head k (Ok (head.End tag vr next)) g =
          record { final = least; got = nothing s kind depth least at first before; ended = g }
      on-head k (Ok (head.Header tag vr v)) g = on-run k tag vr v (inside (first + length before + 1) vr v) (g first before)

-- ---- How a container closes

record Closed (s : List ℕ) (kind : Kind) (extent : Extent) (start size len next : ℕ) : Type 0 where
  told : length_in extent size ≡ length_in extent len
  after : next ≡ start + len + length (closing extent (delimiter_of kind))
  bytes : drop (start + len) s ≡ closing extent (delimiter_of kind) ++ drop next s

closed : (s : List ℕ) (kind : Kind) (extent : Extent) (start size end stop next len : ℕ) → start + len ≡ stop
    → Ended s kind stop (inner_end extent start size end) (inner_mark extent) next → Closed s kind extent start size len next
unfolding length_in closing
closed s kind defined start size end stop next len e (reached d a b) =
    let z : start + len ≡ next = omega arith in
    record { told = omega arith; after = omega arith; bytes = ap (λ (k : ℕ). drop k s) z }
closed s kind defined start size end stop next len e (marked d a b c) = let z : ◌≡◌ {A = ℕ} 0 1 = cc in absurd (omega arith)
closed s kind undefined start size end stop next len e (reached d a b) = let z : ◌≡◌ {A = ℕ} 0 1 = cc in absurd (omega arith)
closed s kind undefined start size end stop next len e (marked d a b c) =
    record { told = refl; after = rw (length-item (delimiter_of kind) 0) (omega arith); bytes = rw (e, a) c }

ended-high : {s : List ℕ} {kind : Kind} {stop end next : ℕ} {d : Bool} → Ended s kind stop end d next → next ≤ end
ended-high (reached d a b) = omega arith
ended-high (marked d a b c) = omega arith

-- ---- Rows and bytes of a member in front of others

member-rows : (before : List Row) (r q : Row) (below low rest rows : List Row) → rows ≡ (before ++ (r ∷ below)) ++ rest → r ≡ q
    → below ≡ low
    → rows ≡ before ++ (q ∷ (low ++ rest))
member-rows before r q below low rest rows e f g = e ∙ rw (f, g) (append_assoc before (q ∷ low) rest)

member-bytes : (a b c d e : List ℕ) → a ++ (b ++ (c ++ (d ++ e))) ≡ (a ++ (b ++ (c ++ d))) ++ e
member-bytes a b c d e = simp append_assoc

module _ (s : List ℕ) (depth least at first : ℕ) (before : List Row) where
  leaf-made : (tag vr : ℕ) (value : List ℕ) → Tagged least tag → Valued vr value
      → (next : ℕ) → next ≡ at + header_size vr + length value
      → drop at s ≡ element_header tag vr (length value) ++ (value ++ drop next s)
      → (r : Row) → r ≡ row tag vr depth (at + header_size vr) (length value) 0 first
      → (stop final : ℕ) (rows : List Row)
      → Got s elements depth (tag + 1) next first (before ++ (r ∷ [])) stop final rows
      → Got s elements depth least at first before stop final rows
  unfolding Valid spell rows_at least_after
  leaf-made tag vr value good it next z here r e stop final rows m =
      record {
        forest = element tag vr value m.forest;
        valid = (good, (it, m.valid));
        is = λ n f. rw z at (member-rows before r (row tag vr depth (at + header_size vr) (length value) 0 first) [] []
            (rows_at depth next first (n + 1) m.forest) rows
            (m.is (n + 1) (simp length-append (omega arith))) e refl);
        size = omega (arith, length-plain tag vr value m.forest, m.size);
        spelt = here ∙ rw m.spelt (member-bytes (element_header tag vr (length value)) value [] (spell m.forest) (drop stop s));
        last = m.last;
      }

  sequence-made : (tag : ℕ) (extent : Extent) (inside : Forest items) → Tagged least tag → depth < 8 → Valid (depth + 1) 0 inside
      → (next : ℕ) → next ≡ at + header_size SQ + length (spell inside) + length (closing extent sequence_delimiter)
      → drop at s ≡ element_header tag SQ (length_in extent (length (spell inside))) ++
      (spell inside ++ (closing extent sequence_delimiter ++ drop next s))
      → (r : Row) → r ≡ row tag SQ depth (at + header_size SQ) (length (spell inside)) (count inside) first
      → (below : List Row) → ((n : ℕ) → first + length before ≡ n → below ≡ rows_at (depth + 1) (at + header_size SQ) (n + 1) (n + 1) inside)
      → (stop final : ℕ) (rows : List Row)
      → Got s elements depth (tag + 1) next first (before ++ (r ∷ below)) stop final rows
      → Got s elements depth least at first before stop final rows
  unfolding Valid spell rows_at least_after
  sequence-made tag extent inside good deep valid next z here r e below b stop final rows m =
      let few : length below ≡ count inside = ap length (b (first + length before) refl) ∙ length-rows (depth + 1) _ _ _ inside in
      record {
        forest = sequence tag extent inside m.forest;
        valid = (good, (deep, (valid, m.valid)));
        is = λ n f. rw z at (member-rows before r (row tag SQ depth (at + header_size SQ) (length (spell inside)) (count inside) first) below
            (rows_at (depth + 1) (at + header_size SQ) (n + 1) (n + 1) inside)
            (rows_at depth next first (n + 1 + count inside) m.forest) rows
            (m.is (n + 1 + count inside) (simp length-append (omega arith))) e (b n f));
        size = omega (arith, length-sequence tag extent inside m.forest, m.size);
        spelt = here ∙ rw m.spelt (member-bytes (element_header tag SQ (length_in extent (length (spell inside)))) (spell inside)
            (closing extent sequence_delimiter) (spell m.forest) (drop stop s));
        last = m.last;
      }

  item-made : (extent : Extent) (inside : Forest elements) → Valid depth 0 inside
      → (next : ℕ) → next ≡ at + 8 + length (spell inside) + length (closing extent item_delimiter)
      → drop at s ≡ item_header item_tag (length_in extent (length (spell inside))) ++
      (spell inside ++ (closing extent item_delimiter ++ drop next s))
      → (r : Row) → r ≡ row item_tag 0 depth (at + 8) (length (spell inside)) (count inside) first
      → (below : List Row) → ((n : ℕ) → first + length before ≡ n → below ≡ rows_at depth (at + 8) (n + 1) (n + 1) inside)
      → (stop final : ℕ) (rows : List Row)
      → Got s items depth (item_tag + 1) next first (before ++ (r ∷ below)) stop final rows
      → Got s items depth least at first before stop final rows
  unfolding Valid spell rows_at least_after
  item-made extent inside valid next z here r e below b stop final rows m =
      let few : length below ≡ count inside = ap length (b (first + length before) refl) ∙ length-rows depth _ _ _ inside in
      record {
        forest = item extent inside m.forest;
        valid = (valid, valid-any depth (item_tag + 1) 0 m.forest m.valid);
        is = λ n f. rw z at (member-rows before r (row item_tag 0 depth (at + 8) (length (spell inside)) (count inside) first) below
            (rows_at depth (at + 8) (n + 1) (n + 1) inside)
            (rows_at depth next first (n + 1 + count inside) m.forest) rows
            (m.is (n + 1 + count inside) (simp length-append (omega arith))) e (b n f));
        size = omega (arith, length-member extent inside m.forest, m.size);
        spelt = here ∙ rw m.spelt (member-bytes (item_header item_tag (length_in extent (length (spell inside)))) (spell inside)
            (closing extent item_delimiter) (spell m.forest) (drop stop s));
        last = m.last;
      }

-- ---- Elements and items

module _ (s : List ℕ) (bytes : IsBytes s) (c : Cursor) (depth least : ℕ) where
  leaf-grows : (tag vr size : ℕ) → Tagged least tag → (form_of vr ≡ 0 → ⊥) → (vr ≡ SQ → ⊥) → (form_of vr ≡ 1 → size < 65536) → size % 2 ≡ 0
      → c.at + header_size vr + size ≤ length s → drop c.at s ≡ element_header tag vr size ++ drop (c.at + header_size vr) s
      → (first : ℕ) (before : List Row)
      → Grown s elements depth least c.at first before tag
      (row tag vr depth (c.at + header_size vr) (c.at + header_size vr + size - (c.at + header_size vr)) 0 first ∷ [])
      (c.at + header_size vr + size)
  leaf-grows tag vr size good known plain short even fits here first before stop final rows m =
      let start : ℕ = c.at + header_size vr in
      let value : List ℕ = take size (drop start s) in
      let long : length value ≡ size = simp (length-take, length-drop) (omega arith) in
      let sum : start + size - start ≡ length value = omega arith in
      let split : drop start s ≡ value ++ drop (start + size) s
      = sym (take-append-drop size (drop start s)) ∙ ap (λ (l : List ℕ). value ++ l) (drop-drop size start s) in
      leaf-made s depth least c.at first before tag vr value good
      (record {
        known = known;
        plain = plain;
        bytes = take-bytes size (drop start s) (drop-bytes start s bytes);
        even = rw long even;
        short = λ f. rw long (short f);
      })
      (start + size) (omega arith)
      (here ∙ ap (λ (l : List ℕ). element_header tag vr size ++ l) split
      ∙ ap (λ (k : ℕ). element_header tag vr k ++ (value ++ drop (start + size) s)) (sym long))
      (row tag vr depth start (start + size - start) 0 first) (ap (λ (x : ℕ). row tag vr depth start x 0 first) sum) stop final rows m

  module _ (kind : Kind) (deeper start : ℕ) (front : ℕ → List ℕ) (extent : Extent) (size first : ℕ) (before : List Row) (stop next : ℕ)
      (below : List Row)
      (w : Made s kind deeper 0 start (inner_end extent start size c.end) (inner_mark extent) (first + length before + 1) [] stop next
      below)
    where
      -- What a container that is done has read.
      inside-rows : (n : ℕ) → first + length before ≡ n → below ≡ rows_at deeper start (n + 1) (n + 1) w.got.forest
      inside-rows n e =
          let z : first + length before + 1 ≡ n + 1 = omega arith in
          rw z at (w.got.is (first + length before + 1) (omega arith))

      inside-closed : Closed s kind extent start size (length (spell w.got.forest)) next
      inside-closed = closed s kind extent start size c.end stop next (length (spell w.got.forest)) w.got.size w.ended

      inside-bytes : drop c.at s ≡ front (length_in extent size) ++ drop start s
          → drop c.at s ≡ front (length_in extent (length (spell w.got.forest)))
          ++ (spell w.got.forest ++ (closing extent (delimiter_of kind) ++ drop next s))
      inside-bytes b =
          let e = inside-closed in
          let z = e.bytes in
          b ∙ rw e.told (ap (λ (l : List ℕ). front (length_in extent (length (spell w.got.forest))) ++ l)
          (w.got.spelt ∙ ap (λ (l : List ℕ). spell w.got.forest ++ l) (rw w.got.size at z)))

      inside-row : (tag vr : ℕ)
          → row tag vr depth start (stop - start) (length below) first ≡ row tag vr depth start (length (spell w.got.forest))
          (count w.got.forest) first
      inside-row tag vr =
          let a : stop - start ≡ length (spell w.got.forest) = omega (arith, w.got.size) in
          let b : length below ≡ count w.got.forest = ap length (inside-rows (first + length before) refl) ∙ length-rows deeper start _
          _
          w.got.forest in
          ap (λ (x : ℕ). row tag vr depth start x (length below) first) a
          ∙ ap (λ (x : ℕ). row tag vr depth start (length (spell w.got.forest)) x first) b

  sequence-grows : (levels tag : ℕ) (v : Cursor) → Element s c least levels tag SQ v → depth < 8
      → (first : ℕ) (before : List Row) (stop next : ℕ) (below : List Row)
      → Made s items (depth + 1) 0 v.at v.end v.delimited (first + length before + 1) [] stop next below
      → Grown s elements depth least c.at first before tag
      (row tag SQ depth v.at (stop - v.at) (length below) first ∷ below) next
  sequence-grows levels tag v g deep first before stop next below =
      subst (λ (x : Cursor). Made s items (depth + 1) 0 x.at x.end x.delimited (first + length before + 1) [] stop next below
      → Grown s elements depth least c.at first before tag
      (row tag SQ depth x.at (stop - x.at) (length below) first ∷ below) next) (sym g.opens.is)
      (λ i last final rows m.
      let start : ℕ = c.at + header_size SQ in
      sequence-made s depth least c.at first before tag g.extent i.got.forest g.good deep i.got.valid next
      (inside-closed items (depth + 1) start (element_header tag SQ) g.extent g.size first before stop next below i).after
      (inside-bytes items (depth + 1) start (element_header tag SQ) g.extent g.size first before stop next below i g.opens.bytes)
      (row tag SQ depth start (stop - start) (length below) first)
      (inside-row items (depth + 1) start (element_header tag SQ) g.extent g.size first before stop next below i tag SQ) below
      (inside-rows items (depth + 1) start (element_header tag SQ) g.extent g.size first before stop next below i) last final rows m)

  item-grows : (v : Cursor) → Item s c item_tag 0 v
      → (first : ℕ) (before : List Row) (stop next : ℕ) (below : List Row)
      → Made s elements depth 0 v.at v.end v.delimited (first + length before + 1) [] stop next below
      → Grown s items depth least c.at first before item_tag
      (row item_tag 0 depth v.at (stop - v.at) (length below) first ∷ below) next
  item-grows v g first before stop next below =
      subst (λ (x : Cursor). Made s elements depth 0 x.at x.end x.delimited (first + length before + 1) [] stop next below
      → Grown s items depth least c.at first before item_tag
      (row item_tag 0 depth x.at (stop - x.at) (length below) first ∷ below) next) (sym g.opens.is)
      (λ i last final rows m.
      let start : ℕ = c.at + 8 in
      item-made s depth least c.at first before g.extent i.got.forest i.got.valid next
      (inside-closed elements depth start (item_header item_tag) g.extent g.size first before stop next below i).after
      (inside-bytes elements depth start (item_header item_tag) g.extent g.size first before stop next below i g.opens.bytes)
      (row item_tag 0 depth start (stop - start) (length below) first)
      (inside-row elements depth start (item_header item_tag) g.extent g.size first before stop next below i item_tag 0) below
      (inside-rows elements depth start (item_header item_tag) g.extent g.size first before stop next below i) last final rows m)

-- ---- Level by level

pub value-sq : (levels : ℕ) (s : List ℕ) (n : ℕ) (v : Cursor) → value_run (suc levels) s n SQ v ≡ items_at levels s n v
unfolding value_run
value-sq levels s n v = refl

leaf-bytes : (s : List ℕ) (c : Cursor) (tag vr size : ℕ) (v : Cursor) → Opens s c (header_size vr) (element_header tag vr) defined size v
    → drop c.at s ≡ element_header tag vr size ++ drop (c.at + header_size vr) s
unfolding length_in
leaf-bytes s c tag vr size v o = o.bytes

leaf-cursor : (s : List ℕ) (c : Cursor) (depth least tag vr size : ℕ) (v : Cursor)
    → v ≡ cursor (c.at + header_size vr) (c.at + header_size vr + size) false
    → (first : ℕ) (before : List Row)
    → Grown s elements depth least c.at first before tag
    (row tag vr depth (c.at + header_size vr) (c.at + header_size vr + size - (c.at + header_size vr)) 0 first ∷ [])
    (c.at + header_size vr + size)
    → Grown s elements depth least c.at first before tag (row tag vr depth v.at (v.end - v.at) 0 first ∷ [])
    v.end
leaf-cursor s c depth least tag vr size v e first before g =
    subst (λ (x : Cursor). Grown s elements depth least c.at first before tag
    (row tag vr depth x.at (x.end - x.at) 0 first ∷ []) x.end) (sym e) g

module _ (s : List ℕ) (bytes : IsBytes s) where
  -- A value, where items one deeper are forests.
  abbrev pub Deeper : ℕ → Type 0
  Deeper zero = Unit {0}
  Deeper (suc levels) = (n : ℕ) (v : Cursor) → v.end ≤ length s
      → Makes s items (depths - levels) 0 v.at v.end v.delimited n [] (items_at levels s n v)

  made_of : (kind : Kind) (depth deeper at end : ℕ) (d : Bool) (n : ℕ) (o : Run) → Makes s kind depth 0 at end d n [] o → depth ≡ deeper
      → (stop next : ℕ) (rows : List Row) → o ≡ done stop next rows → Made s kind deeper 0 at end d n [] stop next rows
  made_of kind depth deeper at end d n o m z stop next rows e =
      subst (λ (x : ℕ). Made s kind x 0 at end d n [] stop next rows) z (subst (λ (x : Run). Makes s kind depth 0 at end d n [] x) e m)

  pub value-high : (c : Cursor) (k : ℕ) (front : ℕ → List ℕ) (extent : Extent) (size : ℕ) (v : Cursor) → Opens s c k front extent size v
      → v.end ≤ c.end
  value-high c k front extent size v o =
      subst (λ (x : Cursor). x.end ≤ c.end) (sym o.is) (inner-high extent (c.at + k) size c.end o.fits).1

  value_grows : (levels : ℕ) → levels ≤ 8 → Deeper levels → (c : Cursor) (least : ℕ) → c.end ≤ length s
      → (tag vr : ℕ) (v : Cursor) → Element s c least levels tag vr v → (t : Bool) → eqb vr SQ ≡ t
      → (first : ℕ) (before : List Row) (stop next : ℕ) (below : List Row)
      → value_run levels s (first + length before + 1) vr v ≡ done stop next below
      → (next ≤ c.end) × Grown s elements (depths - levels) least c.at first before tag
      (row tag vr (depths - levels) v.at (stop - v.at) (length below) first ∷ below) next
  value_grows zero few deeper c least room tag vr v g true q first before stop next below e = absurd (g.deep (eqb-true vr SQ q) refl)
  value_grows (suc levels) few deeper c least room tag vr v g true q first before stop next below e =
      let z : vr ≡ SQ = eqb-true vr SQ q in
      let w : depths - levels ≡ depths - suc levels + 1 = omega arith in
      subst (λ (x : ℕ). Element s c least (suc levels) tag x v → value_run (suc levels) s (first + length before + 1) x v ≡ done stop next
      below
      → (next ≤ c.end) × Grown s elements (depths - suc levels) least c.at first before tag
      (row tag x (depths - suc levels) v.at (stop - v.at) (length below) first ∷ below) next) (sym z)
      (λ g e. let m = made_of items (depths - levels) (depths - suc levels + 1) v.at v.end v.delimited (first + length before + 1)
      (items_at levels s (first + length before + 1) v)
      (deeper (first + length before + 1) v (omega (
        arith,
        value-high c (header_size SQ) (element_header tag SQ) g.extent g.size v
            g.opens,
      )))
      w stop next below
      (sym (value-sq levels s (first + length before + 1) v) ∙ e) in (
        omega (arith, ended-high m.ended, value-high c (header_size SQ) (element_header tag SQ) g.extent g.size v g.opens),
        sequence-grows s bytes c (depths - suc levels) least (suc levels) tag v g (omega arith) first before stop next below m,
      )) g e
  value_grows levels few deeper c least room tag vr v g false q first before stop next below e =
      let plain : vr ≡ SQ → ⊥ = eqb-false vr SQ q in
      let r : done v.end v.end [] ≡ done stop next below = sym (value-plain levels s (first + length before + 1) vr v plain) ∙ e in
      let a : stop ≡ v.end = cc in
      let b : next ≡ v.end = cc in
      let l : below ≡ [] = cc in
      let o : Opens s c (header_size vr) (element_header tag vr) defined g.size v =
      subst (λ (x : Extent). Opens s c (header_size vr) (element_header tag vr) x g.size v) (g.plain plain) g.opens in
      rw (a, b, l) (
        value-high c (header_size vr) (element_header tag vr) defined g.size v o,
        leaf-cursor s c (depths - levels) least tag
            vr g.size v o.is first before
            (leaf-grows s bytes c (depths - levels) least tag vr g.size g.good g.known
            plain g.short o.even (omega (arith, o.fits)) (leaf-bytes s c tag vr g.size v o) first before),
      )

  pub element-grows : (levels : ℕ) → levels ≤ 8 → Deeper levels → (c : Cursor) (least : ℕ) → c.end ≤ length s → (h : Result Head Fault)
      → Says s elements least levels c h
      → Grows s elements (depths - levels) least c.at c.end c.delimited h (value_run levels s)
  element-grows levels few deeper c least room (Err fault) g = tt
  element-grows levels few deeper c least room (Ok (head.End tag vr next)) g = g
  element-grows levels few deeper c least room (Ok (head.Header tag vr v)) g = value_grows levels few deeper c least room tag vr v g (eqb vr SQ)
      refl

  abbrev pub Inner : ℕ → Type 0
  Inner levels = (n : ℕ) (v : Cursor) → v.end ≤ length s
      → Makes s elements (depths - levels) 0 v.at v.end v.delimited n [] (elements_at levels s n v)

  pub member-grows : (levels : ℕ) → Inner levels → (c : Cursor) (least : ℕ) → c.end ≤ length s → (h : Result Head Fault) → Says s items least levels c h
      → Grows s items (depths - levels) least c.at c.end c.delimited h (λ n vr v. elements_at levels s n v)
  member-grows levels inside c least room (Err fault) g = tt
  member-grows levels inside c least room (Ok (head.End tag vr next)) g = g
  member-grows levels inside c least room (Ok (head.Header tag vr v)) g = λ first before stop next below e.
      let m = made_of elements (depths - levels) (depths - levels) v.at v.end v.delimited (first + length before + 1)
      (elements_at levels s (first + length before + 1) v)
      (inside (first + length before + 1) v (omega (arith, value-high c 8 (item_header item_tag) g.extent g.size v g.opens))) refl
      stop next
      below e in
      let i : Item s c item_tag 0 v = record { tagged = refl; plain = refl; extent = g.extent; size = g.size; opens = g.opens } in
      rw (g.tagged, g.plain) (
        omega (
          arith,
          ended-high m.ended,
          value-high c 8 (item_header item_tag) g.extent g.size v
              g.opens,
        ),
        item-grows s bytes c (depths - levels) least v i first before stop next below m,
      )

  pub items-make : (levels : ℕ) → Inner levels → (first : ℕ) (c : Cursor) → c.end ≤ length s
      → Makes s items (depths - levels) 0 c.at c.end c.delimited first [] (items_at levels s first c)
  items-make levels inside first c room =
      level-makes s items (depths - levels) c.end c.delimited first (λ at least. item_at s (moved c at))
      (λ n vr v. elements_at levels s n v)
      (λ at least.
      member-grows levels inside (moved c at) least room (item_at s (moved c at)) (item-says s bytes (moved c at) room least levels))
      (length s + 1) c.at 0 []

  elements-make-by : (levels : ℕ) → levels ≤ 8 → Deeper levels → Inner levels
  elements-make-by levels few deeper first c room =
      level-makes s elements (depths - levels) c.end c.delimited first (λ at least. element_at s (moved c at) least levels)
      (value_run levels s)
      (λ at least. element-grows levels few deeper (moved c at) least room (element_at s (moved c at) least levels)
      (element-says s bytes (moved c at) room least levels))
      (length s + 1) c.at 0 []

  pub elements-make : (levels : ℕ) → levels ≤ 8 → Inner levels
  elements-make zero few = elements-make-by zero few tt
  elements-make (suc levels) few = elements-make-by (suc levels) few (items-make levels (elements-make levels (omega arith)))

-- ---- The whole

pub complete : Complete
unfolding reading_of tree_rows
complete s bytes rows e = by_size (ltb largest (length s)) refl e
  where
    all : Cursor
    all = cursor 0 (length s) false

    spelt : length s ≤ largest → (stop next : ℕ) (rows : List Row) → Made s elements 0 0 0 (length s) false 0 [] stop next rows
        → Ended s elements stop (length s) false next → Spelt s rows
    spelt h stop next rows m (marked d a b c) = let z : ◌≡◌ {A = ℕ} 0 1 = cc in absurd (omega arith)
    spelt h stop next rows m (reached d a b) =
        let w : s ≡ spell m.got.forest ++ [] = m.got.spelt ∙ ap (λ (l : List ℕ). spell m.got.forest ++ l)
        (ap (λ (k : ℕ). drop k s) a ∙ drop-length s) in
        record {
          tree = m.got.forest;
          valid = record { valid = m.got.valid; small = omega (arith, m.got.size) };
          bytes = sym (w ∙ append-nil (spell m.got.forest));
          same = sym (m.got.is 0 refl);
        }

    by-run : length s ≤ largest → (o : Run) → Makes s elements 0 0 0 (length s) false 0 [] o → whole o ≡ read rows → Spelt s rows
    by-run h (refused fault offset) m e = let z : ◌≡◌ {A = ℕ} 0 1 = cc in absurd (omega arith)
    by-run h unfinished m e = let z : ◌≡◌ {A = ℕ} 0 1 = cc in absurd (omega arith)
    by-run h (done stop next got) m e =
        let z : got ≡ rows = cc in
        subst (λ (l : List Row). Spelt s l) z (spelt h stop next got m m.ended)

    by_size : (t : Bool) → ltb largest (length s) ≡ t → cond t too_large (whole (elements_at depths s 0 all)) ≡ read rows → Spelt s rows
    by_size true t e = let z : ◌≡◌ {A = ℕ} 0 1 = cc in absurd (omega arith)
    by_size false t e =
        by-run (ltb-false largest (length s) t) (elements_at 8 s 0 all) (elements-make s bytes 8 (omega arith) 0 all (omega arith)) e
