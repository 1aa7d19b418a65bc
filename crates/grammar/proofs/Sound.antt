-- What spells a data set reads as its rows.
use mathlib.Core.Path.{◌≡◌, refl, sym, ap, ◌∙◌, subst}
use mathlib.Core.Bool.{Bool, false}
use Prim.Native.Nat.{ℕ, zero, suc, ◌+◌, ◌-◌, ◌%◌, ◌≤◌, ◌<◌}
use native.Mathlib.Omega.{arith}
use borrow.Author.Tests.{eq-eqb, le-ltb}
use mathlib.Core.List.{List, [], ◌∷◌, ◌++◌, append_assoc, append-nil}
use lib.ListN.{length, drop, length-append}
use lib.Seq.{drop_at, drop-drop}
use Rattle.std.specs.Prelude.{Result, Ok}
use Rattle.dataset.specs.declared.Fault.{Fault}
use Rattle.dataset.specs.declared.Cursor.{Cursor}
use Rattle.dataset.specs.declared.Head.{Head}
use Rattle.dataset.specs.declared.Head.TheVariants as head
use Rattle.basics.specs.Vr.{SQ}
use Rattle.basics.specs.Tags.{item_tag, item_delimiter, sequence_delimiter}
use Rattle.basics.specs.Limits.{largest}
use Rattle.dataset.specs.Header.{when, cursor, header_by}
use Rattle.dataset.specs.Tree.{Kind, elements, items}
use Rattle.dataset.specs.declared.Row.{Row}
use Rattle.dataset.specs.Reading.{row, Run, done, level, value_run, elements_at, whole, reading_of, depths}
use Rattle.dataset.proofs.Level.{level-on, level-end, value-plain, value-items}
use Rattle.grammar.specs.Grammar.{Extent, defined, undefined, Forest, none, element, sequence, item}
use Rattle.grammar.specs.Grammar.{element_header, header_size, item_header, length_in, closing, spell, Valid, count}
use Rattle.grammar.specs.Grammar.{rows_at, tree_rows}
use Rattle.grammar.specs.Claims.{Sound}
use Rattle.grammar.specs.Places.{least_after, inner_end, inner_mark, head_of}
use Rattle.grammar.proofs.Headers.{size-even, length-element, length-item, closing-even, inner}
use Rattle.grammar.proofs.Headers.{inner-high, element-back, sequence-back, item_back}
use Rattle.grammar.proofs.Headers.{item-closed, sequence-closed, size-sq}

-- ---- Sizes

pub length-plain : (tag vr : ℕ) (value : List ℕ) (rest : Forest elements)
    → length (spell (element tag vr value rest)) ≡ header_size vr + length value + length (spell rest)
unfolding spell
length-plain tag vr value rest = simp (length-append, length-element) (omega arith)

pub length-sequence : (tag : ℕ) (extent : Extent) (inside : Forest items) (rest : Forest elements)
    → length (spell (sequence tag extent inside rest))
    ≡ header_size SQ + length (spell inside) + length (closing extent sequence_delimiter) + length (spell rest)
unfolding spell
length-sequence tag extent inside rest = simp (length-append, length-element) (omega arith)

pub length-member : (extent : Extent) (inside : Forest elements) (rest : Forest items)
    → length (spell (item extent inside rest))
    ≡ 8 + length (spell inside) + length (closing extent item_delimiter) + length (spell rest)
unfolding spell
length-member extent inside rest = simp (length-append, length-item) (omega arith)

pub spell-even : {kind : Kind} (depth least : ℕ) (f : Forest kind) → Valid depth least f → length (spell f) % 2 ≡ 0
unfolding Valid spell
spell-even depth least none v = refl
spell-even depth least (element tag vr value rest) (g, (w, r)) =
    omega (arith, length-plain tag vr value rest, (size-even vr).0, w.even, spell-even depth (tag + 1) rest r)
spell-even depth least (sequence tag extent inside rest) (g, (d, (i, r))) =
    omega (
      arith,
      length-sequence tag extent inside rest,
      (size-even SQ).0,
      closing-even extent sequence_delimiter,
      spell-even (depth + 1) 0 inside i,
      spell-even depth (tag + 1) rest r,
    )
spell-even depth least (item extent inside rest) (i, r) =
    omega (
      arith,
      length-member extent inside rest,
      closing-even extent item_delimiter,
      spell-even depth 0 inside i,
      spell-even depth 0 rest r,
    )

pub length-rows : {kind : Kind} (depth at holder n : ℕ) (f : Forest kind) → length (rows_at depth at holder n f) ≡ count f
unfolding rows_at count
length-rows depth at holder n none = refl
length-rows depth at holder n (element tag vr value rest) = omega
    (arith, length-rows depth (at + header_size vr + length value) holder (n + 1) rest)
length-rows depth at holder n (sequence tag extent inside rest) =
    simp length-append (omega (
      arith,
      length-rows (depth + 1) (at + header_size SQ) (n + 1) (n + 1) inside,
      length-rows depth (at + header_size SQ + length (spell inside) + length (closing extent sequence_delimiter)) holder
          (n + 1 + count inside) rest,
    ))
length-rows depth at holder n (item extent inside rest) =
    simp length-append (omega (
      arith,
      length-rows depth (at + 8) (n + 1) (n + 1) inside,
      length-rows depth (at + 8 + length (spell inside) + length (closing extent item_delimiter)) holder (n + 1 + count inside) rest,
    ))

-- Among items no tag ascends.
pub valid-any : (depth least more : ℕ) (f : Forest items) → Valid depth least f → Valid depth more f
unfolding Valid
valid-any depth least more none v = tt
valid-any depth least more (item extent inside rest) v = v

-- ---- One container

abbrev pub in_of : Kind → ℕ → List ℕ → ℕ → ℕ → Cursor → Run
in_of elements levels t n vr v = value_run levels t n vr v
in_of items levels t n vr v = elements_at levels t n v

abbrev pub delimiter_of : Kind → ℕ
delimiter_of elements = item_delimiter
delimiter_of items = sequence_delimiter

-- The container closes at `stop`, and what follows it is at `next`.
abbrev Closes : Kind → ℕ → List ℕ → ℕ → Bool → ℕ → ℕ → Type 0
Closes kind levels t end d stop next = (least : ℕ) → (tag : ℕ) ×
    (head_of kind levels t end d stop least ≡ Ok (head.End tag 0 (cursor next end d)))

known-end : (kind : Kind) (levels : ℕ) (t : List ℕ) (end : ℕ) → Closes kind levels t end false end end
unfolding header_by when
known-end elements levels t end least = (0, rw (eq-eqb end end refl))
known-end items levels t end least = (0, rw (eq-eqb end end refl))

closes : (kind : Kind) (levels : ℕ) (t : List ℕ) (extent : Extent) (start size end : ℕ) (more : List ℕ)
    → drop (start + size) t ≡ closing extent (delimiter_of kind) ++ more
    → start + size + length (closing extent (delimiter_of kind)) ≤ end
    → Closes kind levels t (inner_end extent start size end) (inner_mark extent) (start + size)
    (start + size + length (closing extent (delimiter_of kind)))
unfolding closing
closes kind levels t defined start size end more here fits =
    let z : start + size ≡ start + size + 0 = omega arith in
    subst (λ (k : ℕ). Closes kind levels t (start + size) false (start + size) k) z (known-end kind levels t (start + size))
closes elements levels t undefined start size end more here fits = λ least.
    let z : 8 ≡ length (item_header item_delimiter 0) = sym (length-item item_delimiter 0) in
    (item_delimiter, rw (length-item item_delimiter 0) (item-closed t (start + size) end least levels more (omega arith) here))
closes items levels t undefined start size end more here fits = λ least.
    let z : 8 ≡ length (item_header sequence_delimiter 0) = sym (length-item sequence_delimiter 0) in
    (sequence_delimiter, rw (length-item sequence_delimiter 0) (sequence-closed t (start + size) end more (omega arith) here))

past : (t : List ℕ) (at n : ℕ) (xs ys : List ℕ) → drop at t ≡ xs ++ ys → length xs ≡ n → drop (at + n) t ≡ ys
past t at n xs ys here e = sym (drop-drop n at t) ∙ ap (λ (l : List ℕ). drop n l) here ∙ drop_at xs ys n e

module _ (at_head : ℕ → ℕ → Result Head Fault) (inside : ℕ → ℕ → Cursor → Run) (depth first end : ℕ) (o : Run) where
  -- One turn, and what the turns after it come to.
  step : (turns at least : ℕ) (before : List Row) (tag vr : ℕ) (v : Cursor) (stop next : ℕ) (low : List Row) (r : Row)
      → at_head at least ≡ Ok (head.Header tag vr v) → inside (first + length before + 1) vr v ≡ done stop next low
      → row tag vr depth v.at (stop - v.at) (length low) first ≡ r
      → at < next → at ≤ end → end < at + turns
      → ((more : ℕ) → end < next + more → level at_head inside depth first more next (tag + 1) (before ++ (r ∷ low)) ≡ o)
      → level at_head inside depth first turns at least before ≡ o
  step zero at least before tag vr v stop next low r h i e p k q g = absurd (omega arith)
  step (suc turns) at least before tag vr v stop next low r h i e p k q g =
      level-on at_head inside depth first turns at least before tag vr stop next v low h i
      ∙ ap (λ (x : Row). level at_head inside depth first turns next (tag + 1) (before ++ (x ∷ low))) e
      ∙ g turns (omega arith)

  -- The rows of the rest after those of a member.
  regroup : (more stop least : ℕ) (before : List Row) (r : Row) (low rest : List Row)
      → level at_head inside depth first more stop least (before ++ (r ∷ (low ++ rest))) ≡ o
      → level at_head inside depth first more stop least ((before ++ (r ∷ low)) ++ rest) ≡ o
  regroup more stop least before r low rest g = rw (append_assoc before (r ∷ low) rest) g

  -- No member.
  stay : (turns at stop least : ℕ) (before : List Row) → at ≡ stop
      → level at_head inside depth first turns stop least (before ++ []) ≡ o → level at_head inside depth first turns at least before ≡ o
  stay turns at stop least before e g = rw e (ap (λ (l : List Row). level at_head inside depth first turns stop least l)
      (sym (append-nil before)) ∙ g)

-- The end of a container.
finish : (kind : Kind) (levels : ℕ) (t : List ℕ) (depth first end : ℕ) (d : Bool) (stop next : ℕ) → Closes kind levels t end d stop next
    → stop ≤ end
    → (more least : ℕ) (rows : List Row) → end < stop + more
    → level (head_of kind levels t end d) (in_of kind levels t) depth first more stop least rows ≡ done stop next rows
finish kind levels t depth first end d stop next w k zero least rows m = absurd (omega arith)
finish kind levels t depth first end d stop next w k (suc more) least rows m =
    let x = w least in
    level-end (head_of kind levels t end d) (in_of kind levels t) depth first more stop least rows x.0 0 (cursor next end d) x.1

-- ---- Level by level

pub sequence-run : (t : List ℕ) (depth levels n m : ℕ) (v : Cursor) (o : Run) → depth + levels ≡ 8 → depth < 8 → m ≡ n
    → level (head_of items (levels - 1) t v.end v.delimited) (in_of items (levels - 1) t) (depth + 1) n (length t + 1) v.at 0 [] ≡ o
    → value_run levels t m SQ v ≡ o
sequence-run t depth levels n m v o q h e g =
    let y : depths - (levels - 1) ≡ depth + 1 = omega arith in
    rw e (value-items levels t n SQ v (λ z. omega arith) refl
    ∙ ap (λ (x : ℕ). level (head_of items (levels - 1) t v.end v.delimited) (in_of items (levels - 1) t) x n (length t + 1) v.at 0
    []) y ∙ g)

pub item-run : (t : List ℕ) (depth levels n m : ℕ) (v : Cursor) (o : Run) → depth + levels ≡ 8 → m ≡ n
    → level (head_of elements levels t v.end v.delimited) (in_of elements levels t) depth n (length t + 1) v.at 0 [] ≡ o
    → elements_at levels t m v ≡ o
item-run t depth levels n m v o q e g =
    let y : depths - levels ≡ depth = omega arith in
    rw (e, y) g

-- A header, what is inside it, what closes it, what is after, and what is beyond.
pub record Parts (t : List ℕ) (at k size more : ℕ) (front inside close after post : List ℕ) : Type 0 where
  pub at_front : drop at t ≡ front ++ (inside ++ (close ++ (after ++ post)))
  pub at-inside : drop (at + k) t ≡ inside ++ (close ++ (after ++ post))
  pub at-close : drop (at + k + size) t ≡ close ++ (after ++ post)
  pub at_after : drop (at + k + size + more) t ≡ after ++ post

pub parts : (t : List ℕ) (at k size more : ℕ) (front inside close after post : List ℕ)
    → drop at t ≡ (front ++ (inside ++ (close ++ after))) ++ post
    → length front ≡ k → length inside ≡ size → length close ≡ more → Parts t at k size more front inside close after post
parts t at k size more front inside close after post here p q r =
    let a : drop at t ≡ front ++ (inside ++ (close ++ (after ++ post))) = here ∙ simp append_assoc in
    let b : drop (at + k) t ≡ inside ++ (close ++ (after ++ post)) = past t at k front _ a p in
    let c : drop (at + k + size) t ≡ close ++ (after ++ post) = past t (at + k) size inside _ b q in
    record { at_front = a; at-inside = b; at-close = c; at_after = past t (at + k + size) more close _ c r }

module _ (t : List ℕ) (small : length t ≤ largest) where
  -- A level passes over a forest that is spelt at its offset, and adds its rows.
  pub passes : {kind : Kind} (f : Forest kind) (depth levels least : ℕ) → depth + levels ≡ 8 → Valid depth least f
      → (first at end turns : ℕ) (d : Bool) (post : List ℕ) (before : List Row) (n stop : ℕ) (o : Run) → drop at t ≡ spell f ++ post
      → at + length (spell f) ≡ stop → stop ≤ end → end ≤ length t → end < at + turns → first + length before ≡ n
      → ((more : ℕ) → end < stop + more → level (head_of kind levels t end d) (in_of kind levels t) depth first more stop (least_after least f)
      (before ++ rows_at depth at first n f) ≡ o)
      → level (head_of kind levels t end d) (in_of kind levels t) depth first turns at least before ≡ o
  unfolding Valid spell rows_at least_after
  passes (none {kind}) depth levels least q v first at end turns d post before n stop o here e k l m c w =
      let z : at ≡ stop = omega arith in
      stay (head_of kind levels t end d) (in_of kind levels t) depth first end o turns at stop least before z (w turns (omega arith))
  passes (element tag vr value rest) depth levels least q (g, (u, r)) first at end turns d post before n stop o here e k l m c w =
      let z = length-plain tag vr value rest in
      let h = size-even vr in
      let p = parts t at (header_size vr) (length value) 0 (element_header tag vr (length value)) value [] (spell rest) post here
      (length-element tag vr (length value)) refl refl in
      let start : ℕ = at + header_size vr in
      let here : Row = row tag vr depth start (length value) 0 first in
      let sum : start + length value - start ≡ length value = omega arith in
      step (head_of elements levels t end d) (in_of elements levels t) depth first end o turns at least before tag vr
      (cursor start (start + length value) false) (start + length value) (start + length value) [] here
      (element-back t at end d least levels tag vr g (length value) (value ++ (spell rest ++ post)) p.at_front
      (λ s _. absurd (u.plain s)) u.even u.known (λ f. omega (arith, u.short f)) (omega arith) (omega arith))
      (value-plain levels t (first + length before + 1) vr (cursor start (start + length value) false) u.plain)
      (ap (λ (x : ℕ). row tag vr depth start x 0 first) sum)
      (omega arith) (omega arith) m
      (λ turns m. passes rest depth levels (tag + 1) q r first (start + length value) end turns d post (before ++ (here ∷ [])) (n + 1) stop
      o
      p.at-close (omega arith) k l m (simp length-append (omega arith))
      (λ more m. regroup (head_of elements levels t end d) (in_of elements levels t) depth first end o more stop (least_after (tag + 1) rest)
      before
      here [] (rows_at depth (start + length value) first (n + 1) rest) (w more m)))
  passes (sequence tag extent inside rest) depth levels least q (g, (b, (i, r))) first at end turns d post before n stop o here e k l m c w
      =
      let z = length-sequence tag extent inside rest in
      let size : ℕ = length (spell inside) in
      let more : ℕ = length (closing extent sequence_delimiter) in
      let p = parts t at (header_size SQ) size more (element_header tag SQ (length_in extent size)) (spell inside)
      (closing extent sequence_delimiter) (spell rest) post here (length-element tag SQ (length_in extent size)) refl refl in
      let start : ℕ = at + header_size SQ in
      let v : Cursor = inner extent start size end in
      let high = inner-high extent start size end (omega arith) in
      let here : Row = row tag SQ depth start size (count inside) first in
      let low : List Row = rows_at (depth + 1) start (n + 1) (n + 1) inside in
      let few : length low ≡ count inside = length-rows (depth + 1) start (n + 1) (n + 1) inside in
      let sum : start + size - start ≡ size = omega arith in
      let one : first + length before + 1 ≡ n + 1 = omega arith in
      step (head_of elements levels t end d) (in_of elements levels t) depth first end o turns at least before tag SQ v (start + size)
      (start + size + more) low here
      (sequence-back extent t at end d least levels tag size (spell inside ++ (closing extent sequence_delimiter ++ (spell rest ++ post)))
      g (λ y. omega arith) (spell-even (depth + 1) 0 inside i) (omega arith) (omega arith) p.at_front)
      (sequence-run t depth levels (n + 1) (first + length before + 1) v (done (start + size) (start + size + more) low) q
      (omega (arith, b)) one
      (passes inside (depth + 1) (levels - 1) 0 (omega arith) i (n + 1) start v.end (length t + 1) v.delimited
      (closing extent sequence_delimiter ++ (spell rest ++ post)) [] (n + 1) (start + size) (done (start + size) (start + size + more) low)
      p.at-inside refl high.0 (omega (arith, high.1)) (omega (arith, high.1)) (omega arith)
      (λ turns. finish items (levels - 1) t (depth + 1) (n + 1) v.end v.delimited (start + size) (start + size + more)
      (closes items (levels - 1) t extent start size end (spell rest ++ post) p.at-close (omega arith)) high.0 turns
      (least_after 0 inside)
      low)))
      (ap (λ (x : ℕ). row tag SQ depth start x (length low) first) sum ∙ ap (λ (x : ℕ). row tag SQ depth start size x first) few)
      (omega (arith, size-sq)) (omega arith) m
      (λ turns m. passes rest depth levels (tag + 1) q r first (start + size + more) end turns d post (before ++ (here ∷ low))
      (n + 1 + count inside) stop o p.at_after (omega arith) k l m (simp length-append (omega arith))
      (λ turns m. regroup (head_of elements levels t end d) (in_of elements levels t) depth first end o turns stop (least_after (tag + 1) rest)
      before
      here low (rows_at depth (start + size + more) first (n + 1 + count inside) rest) (w turns m)))
  passes (item extent inside rest) depth levels least q (i, r) first at end turns d post before n stop o here e k l m c w =
      let z = length-member extent inside rest in
      let size : ℕ = length (spell inside) in
      let more : ℕ = length (closing extent item_delimiter) in
      let p = parts t at 8 size more (item_header item_tag (length_in extent size)) (spell inside)
      (closing extent item_delimiter) (spell rest) post here (length-item item_tag (length_in extent size)) refl refl in
      let start : ℕ = at + 8 in
      let v : Cursor = inner extent start size end in
      let high = inner-high extent start size end (omega arith) in
      let here : Row = row item_tag 0 depth start size (count inside) first in
      let low : List Row = rows_at depth start (n + 1) (n + 1) inside in
      let few : length low ≡ count inside = length-rows depth start (n + 1) (n + 1) inside in
      let sum : start + size - start ≡ size = omega arith in
      let one : first + length before + 1 ≡ n + 1 = omega arith in
      step (head_of items levels t end d) (in_of items levels t) depth first end o turns at least before item_tag 0 v (start + size)
      (start + size + more) low here
      (item_back extent t at end d size (spell inside ++ (closing extent item_delimiter ++ (spell rest ++ post)))
      (spell-even depth 0 inside i) (omega arith) (omega arith) p.at_front)
      (item-run t depth levels (n + 1) (first + length before + 1) v (done (start + size) (start + size + more) low) q one
      (passes inside depth levels 0 q i (n + 1) start v.end (length t + 1) v.delimited
      (closing extent item_delimiter ++ (spell rest ++ post)) [] (n + 1) (start + size) (done (start + size) (start + size + more) low)
      p.at-inside refl high.0 (omega (arith, high.1)) (omega (arith, high.1)) (omega arith)
      (λ turns. finish elements levels t depth (n + 1) v.end v.delimited (start + size) (start + size + more)
      (closes elements levels t extent start size end (spell rest ++ post) p.at-close (omega arith)) high.0 turns
      (least_after 0 inside)
      low)))
      (ap (λ (x : ℕ). row item_tag 0 depth start x (length low) first) sum ∙ ap (λ (x : ℕ). row item_tag 0 depth start size x first) few)
      (omega arith) (omega arith) m
      (λ turns m. passes rest depth levels (item_tag + 1) q (valid-any depth 0 (item_tag + 1) rest r) first (start + size + more) end turns d
      post (before ++ (here ∷ low)) (n + 1 + count inside) stop o p.at_after (omega arith) k l m (simp length-append (omega arith))
      (λ turns m. regroup (head_of items levels t end d) (in_of items levels t) depth first end o turns stop (least_after (item_tag + 1) rest)
      before
      here low (rows_at depth (start + size + more) first (n + 1 + count inside) rest) (w turns m)))

-- ---- The whole

pub sound : Sound
unfolding reading_of tree_rows
sound t h =
    let size : ℕ = length (spell t) in
    rw (le-ltb largest (length (spell t)) h.small)
    (ap whole (passes (spell t) h.small t 0 8 0 refl h.valid 0 0 size (size + 1) false [] [] 0 size
    (done size size (rows_at 0 0 0 0 t))
    (sym (append-nil (spell t))) (omega arith) (omega arith) (omega arith) (omega arith) (omega arith)
    (λ more. finish elements 8 (spell t) 0 0 size false size size (known-end elements 8 (spell t) size) (omega arith) more (least_after 0 t)
    (rows_at 0 0 0 0 t))))
