-- A refusal's fault and offset: reading passes over what is spelt right before a header that stands, so that a refusal there is the
-- reading's;
-- and reading goes on only over what is spelt right, so that a header stands where it refuses.
use mathlib.Core.Path.{◌≡◌, refl, sym, ap, ◌∙◌, subst}
use mathlib.Core.Bool.{Bool, true, false, cond}
use Prim.Native.Nat.{ℕ, zero, suc, ◌+◌, ◌-◌, ◌*◌, ◌≤◌, ◌<◌}
use native.Mathlib.Omega.{arith}
use borrow.Author.Tests.{eqb-true, eqb-false}
use lib.Dec.{eqb, ltb}
use mathlib.Core.List.{List, [], ◌∷◌, ◌++◌}
use lib.ListN.{length, length-append, drop}
use Rattle.basics.specs.Bytes.{IsBytes}
use Rattle.basics.specs.Vr.{SQ}
use Rattle.basics.specs.Tags.{item_tag}
use Rattle.basics.specs.Limits.{largest}
use Rattle.std.specs.Prelude.{Result, Ok, Err}
use Rattle.dataset.specs.declared.Fault.{Fault}
use Rattle.dataset.specs.declared.Cursor.{Cursor}
use Rattle.dataset.specs.declared.Head.{Head}
use Rattle.dataset.specs.declared.Head.TheVariants as head
use Rattle.dataset.specs.Header.{cursor, moved, element_at, item_at}
use Rattle.dataset.specs.declared.Row.{Row}
use Rattle.dataset.specs.Reading.{row, Run, done, refused, unfinished, on_head, on_run, level, value_run, elements_at, depths}
use Rattle.dataset.specs.Reading.{too_large, refused_at, whole, reading_of}
use Rattle.dataset.specs.Internal.{items_at}
use Rattle.dataset.specs.Tree.{Kind, elements, items}
use Rattle.dataset.proofs.Level.{level-stop, level-refused, value-plain}
use Rattle.dataset.proofs.Tree.{finished}
use Rattle.dataset.proofs.Whole.{reading_small}
use Rattle.grammar.specs.Grammar.{Forest, none, element, sequence, item, element_header, header_size, item_header, spell, count, rows_at}
use Rattle.grammar.specs.Places.{inner_end, inner_mark, Stands, start, after, in-sequence, in_item, head_of}
use Rattle.grammar.specs.Places.{RefusedThere, Places}
use Rattle.grammar.proofs.Headers.{size-even, inner, inner-high, sequence-back, item_back}
use Rattle.grammar.proofs.Sound.{length-plain, length-sequence, length-member, length-rows, in_of, passes, sequence-run, item-run}
use Rattle.grammar.proofs.Heads.{Element, Item, Says, element-says, item-says}
use Rattle.grammar.proofs.Complete.{Got, Grown, Grows, nothing, Deeper, value-sq, value-high, element-grows, member-grows}
use Rattle.grammar.proofs.Complete.{items-make, elements-make}

-- ---- What stands is within the bytes

record Within (s : List ℕ) (depth at end : ℕ) : Type 0 where
  deep : depth ≤ 8
  low : at ≤ end
  high : end ≤ length s

stands-within : {s : List ℕ} {kind : Kind} {depth at end least : ℕ} {d : Bool} → Stands s kind depth at end d least → Within s depth at end
stands-within start = record { deep = omega arith; low = omega arith; high = omega arith }
stands-within (after f next b v e h here) = let w = stands-within b in record { deep = w.deep; low = h; high = w.high }
stands-within (in-sequence {at = at} {end = end} tag extent size b g o p) =
    let w = stands-within b in
    let i = inner-high extent (at + header_size SQ) size end p.fits in
    record { deep = omega arith; low = omega (arith, i.0); high = omega (arith, i.1, w.high) }
stands-within (in_item {at = at} {end = end} extent size b p) =
    let w = stands-within b in
    let i = inner-high extent (at + 8) size end p.fits in
    record { deep = w.deep; low = omega (arith, i.0); high = omega (arith, i.1, w.high) }

-- ---- A refusal where a header stands is the reading's

module _ (at_head : ℕ → ℕ → Result Head Fault) (inside : ℕ → ℕ → Cursor → Run) (depth first end : ℕ) (fault : Fault) (offset : ℕ) where
  halts : (turns at least : ℕ) (before : List Row) (tag vr : ℕ) (v : Cursor) → at ≤ end → end < at + turns
      → at_head at least ≡ Ok (head.Header tag vr v) → inside (first + length before + 1) vr v ≡ refused fault offset
      → level at_head inside depth first turns at least before ≡ refused fault offset
  halts zero at least before tag vr v k m h i = absurd (omega arith)
  halts (suc turns) at least before tag vr v k m h i = level-stop at_head inside depth first turns at least before tag vr fault offset v h i

  halts-here : (turns least : ℕ) (before : List Row) → offset ≤ end → end < offset + turns → at_head offset least ≡ Err fault
      → level at_head inside depth first turns offset least before ≡ refused fault offset
  halts-here zero least before k m h = absurd (omega arith)
  halts-here (suc turns) least before k m h = level-refused at_head inside depth first turns offset least before fault h

module _ (s : List ℕ) (small : length s ≤ largest) (fault : Fault) (offset : ℕ) where
  abbrev Halts : Kind → ℕ → ℕ → ℕ → ℕ → Bool → ℕ → Type 0
  Halts kind depth levels at end d least = (first turns : ℕ) (before : List Row) → end < at + turns
      → level (head_of kind levels s end d) (in_of kind levels s) depth first turns at least before ≡ refused fault offset

  reaches : {kind : Kind} {depth at end least : ℕ} {d : Bool} → Stands s kind depth at end d least
      → Halts kind depth (8 - depth) at end d least → elements_at 8 s 0 (cursor 0 (length s) false) ≡ refused fault offset
  reaches start k = k 0 (length s + 1) [] (omega arith)
  reaches (after {kind} {depth} {at} {end} {least} {d} f next b v e h here) k =
      let w = stands-within b in
      let q : depth + (8 - depth) ≡ 8 = omega (arith, w.deep) in
      reaches b (λ first turns before m.
      passes s small f depth (8 - depth) least q v first at end turns d (drop next s) before (first + length before) next
      (refused fault offset) here e h w.high m refl
      (λ more. k first more (before ++ rows_at depth at first (first + length before) f)))
  reaches (in-sequence {depth} {at} {end} {least} {d} tag extent size b g o p) k =
      let w = stands-within b in
      let q : depth + (8 - depth) ≡ 8 = omega (arith, w.deep) in
      let z : 8 - (depth + 1) ≡ 8 - depth - 1 = omega arith in
      let i = inner-high extent (at + header_size SQ) size end p.fits in
      let v : Cursor = inner extent (at + header_size SQ) size end in
      let j : Halts items (depth + 1) (8 - depth - 1) (at + header_size SQ) v.end v.delimited 0
      = subst (λ (l : ℕ). Halts items (depth + 1) l (at + header_size SQ) v.end v.delimited 0) z k in
      reaches b (λ first turns before m.
      halts (head_of elements (8 - depth) s end d) (in_of elements (8 - depth) s) depth first end fault offset turns at least before tag SQ v
      w.low m
      (sequence-back extent s at end d least (8 - depth) tag size (drop (at + header_size SQ) s) g (λ y. omega arith) p.even
      (omega (arith, p.fits, w.high)) p.fits p.bytes)
      (sequence-run s depth (8 - depth) (first + length before + 1) (first + length before + 1) v (refused fault offset) q o refl
      (j (first + length before + 1) (length s + 1) [] (omega (arith, i.1, w.high)))))
  reaches (in_item {depth} {at} {end} {least} {d} extent size b p) k =
      let w = stands-within b in
      let q : depth + (8 - depth) ≡ 8 = omega (arith, w.deep) in
      let i = inner-high extent (at + 8) size end p.fits in
      let v : Cursor = inner extent (at + 8) size end in
      reaches b (λ first turns before m.
      halts (head_of items (8 - depth) s end d) (in_of items (8 - depth) s) depth first end fault offset turns at least before item_tag 0 v
      w.low m
      (item_back extent s at end d size (drop (at + 8) s) p.even (omega (arith, p.fits, w.high)) p.fits p.bytes)
      (item-run s depth (8 - depth) (first + length before + 1) (first + length before + 1) v (refused fault offset) q refl
      (k (first + length before + 1) (length s + 1) [] (omega (arith, i.1, w.high)))))

  only : RefusedThere s fault offset → reading_of s ≡ refused_at fault offset
  only r =
      let w = stands-within r.stands in
      reading_small s small ∙ ap whole (reaches r.stands (λ first turns before m.
      halts-here (head_of r.kind (8 - r.depth) s r.end r.delimited) (in_of r.kind (8 - r.depth) s) r.depth first r.end
      fault
      offset turns r.least before w.low m r.refuses))

-- ---- A header stands where reading refuses

-- A row takes at least 8 bytes, so what adds one moves on.
spell-roomy : {kind : Kind} (f : Forest kind) → 8 * count f ≤ length (spell f)
unfolding count spell
spell-roomy none = omega arith
spell-roomy (element tag vr value rest) = omega (arith, length-plain tag vr value rest, size-even vr, spell-roomy rest)
spell-roomy (sequence tag extent inside rest) =
    omega (arith, length-sequence tag extent inside rest, size-even SQ, spell-roomy inside, spell-roomy rest)
spell-roomy (item extent inside rest) = omega (arith, length-member extent inside rest, spell-roomy inside, spell-roomy rest)

grown-on : {s : List ℕ} {kind : Kind} {depth least at first stop final : ℕ} (before new : List Row)
    → Got s kind depth least at first before stop final (before ++ new) → 1 ≤ length new → at + 8 ≤ stop
grown-on {depth} {at} {first} before new g h =
    let rows = ap (λ (l : List Row). length l) (g.is (first + length before) refl) in
    omega (
      arith,
      h,
      simp length-append at rows,
      length-rows depth at first (first + length before) g.forest,
      spell-roomy g.forest,
      g.size,
    )

module _ (s : List ℕ) (bytes : IsBytes s) (fault : Fault) (offset : ℕ) where
  abbrev Finds : Result Head Fault → (ℕ → ℕ → Cursor → Run) → Type 0
  Finds (Ok (head.Header tag vr v)) inside = (n : ℕ) → inside n vr v ≡ refused fault offset → RefusedThere s fault offset
  Finds (Ok (head.End tag vr next)) inside = Unit {0}
  Finds (Err c) inside = Unit {0}

  module _ (kind : Kind) (depth end : ℕ) (d : Bool) (first : ℕ) (at_head : ℕ → ℕ → Result Head Fault) (inside : ℕ → ℕ → Cursor → Run)
      (heads : (at least : ℕ) → at_head at least ≡ head_of kind (8 - depth) s end d at least)
      (grows : (at least : ℕ) → Grows s kind depth least at end d (at_head at least) inside)
      (finds : (at least : ℕ) → Stands s kind depth at end d least → Finds (at_head at least) inside)
    where
      level-finds : (turns at least : ℕ) (before : List Row) → end < at + turns → Stands s kind depth at end d least
          → level at_head inside depth first turns at least before ≡ refused fault offset → RefusedThere s fault offset
      unfolding level
      level-finds zero at least before m st e = let w = stands-within st in absurd (omega (arith, w.low))
      level-finds (suc turns) at least before m st e =
          on-head (λ next tag new. level-finds turns next (tag + 1) (before ++ new)) (at_head at least) refl (grows at least)
          (finds at least st) e
        where
          Next : Type 0
          Next = (next tag : ℕ) (new : List Row) → end < next + turns → Stands s kind depth next end d (tag + 1)
              → level at_head inside depth first turns next (tag + 1) (before ++ new) ≡ refused fault offset → RefusedThere s fault offset

          here : (c : Fault) → at_head at least ≡ Err c → RefusedThere s c at
          here c p =
              record {
                kind = kind;
                depth = depth;
                end = end;
                delimited = d;
                least = least;
                stands = st;
                refuses = sym (heads at least) ∙ p;
              }

          on-run : Next → (tag vr : ℕ) (v : Cursor) (o : Run) → inside (first + length before + 1) vr v ≡ o
              → ((stop next : ℕ) (below : List Row) → inside (first + length before + 1) vr v ≡ done stop next below
              → (next ≤ end) × Grown s kind depth least at first before tag
              (row tag vr depth v.at (stop - v.at) (length below) first ∷ below) next)
              → ((n : ℕ) → inside n vr v ≡ refused fault offset → RefusedThere s fault offset)
              → on_run o (λ stop next below. level at_head inside depth first turns next (tag + 1)
              (before ++ (row tag vr depth v.at (stop - v.at) (length below) first ∷ below))) ≡ refused fault offset
              → RefusedThere s fault offset
          on-run k tag vr v (refused c q) p g f e = f (first + length before + 1) (p ∙ e)
          on-run k tag vr v unfinished p g f e = f (first + length before + 1) (p ∙ e)
          on-run k tag vr v (done stop next below) p g f e =
              let new : List Row = row tag vr depth v.at (stop - v.at) (length below) first ∷ below in
              let w = g stop next below p in
              let t = w.1 next (tag + 1) (before ++ new) (nothing s kind depth (tag + 1) next first (before ++ new)) in
              k next tag new (omega (arith, grown-on before new t (omega arith)))
              (subst (λ (l : ℕ). Stands s kind depth next end d l) t.last
              (after t.forest next st t.valid t.size w.0 t.spelt)) e

          on-head : Next → (h : Result Head Fault) → at_head at least ≡ h → Grows s kind depth least at end d h inside → Finds h inside → on_head h
              (λ c. refused c at)
              (λ next. done at next before)
              (λ tag vr v. on_run (inside (first + length before + 1) vr v) (λ stop next below.
              level at_head inside depth first turns next (tag + 1)
              (before ++ (row tag vr depth v.at (stop - v.at) (length below) first ∷ below)))) ≡ refused fault offset
              → RefusedThere s fault offset
          on-head k (Err c) p g f e =
              let a : c ≡ fault = cc in
              let b : at ≡ offset = cc in
              subst (λ (x : Fault). RefusedThere s x offset) a (subst (λ (y : ℕ). RefusedThere s c y) b (here c p))
          on-head k (Ok (head.End tag vr next)) p g f e = let z : ◌≡◌ {A = ℕ} 0 1 = cc in absurd (omega arith)
          on-head k (Ok (head.Header tag vr v)) p g f e =
              on-run k tag vr v (inside (first + length before + 1) vr v) refl (g first before) f e

  abbrev FindsIn : Kind → ℕ → (ℕ → Cursor → Run) → Type 0
  FindsIn kind levels run = (n : ℕ) (v : Cursor) → v.end ≤ length s → Stands s kind (depths - levels) v.at v.end v.delimited 0
      → run n v ≡ refused fault offset → RefusedThere s fault offset

  abbrev Below : ℕ → Type 0
  Below zero = Unit {0}
  Below (suc levels) = FindsIn items levels (items_at levels s)

  sequence-stands : (levels : ℕ) → suc levels ≤ 8 → (c : Cursor) (least tag : ℕ) (v : Cursor) → Element s c least (suc levels) tag SQ v
      → Stands s elements (depths - suc levels) c.at c.end c.delimited least
      → Stands s items (depths - levels) v.at v.end v.delimited 0
  sequence-stands levels few c least tag v g st =
      let z : depths - suc levels + 1 ≡ depths - levels = omega arith in
      subst (λ (x : Cursor). Stands s items (depths - levels) x.at x.end x.delimited 0) (sym g.opens.is)
      (subst (λ (k : ℕ). Stands s items k (c.at + header_size SQ) (inner_end g.extent (c.at + header_size SQ) g.size c.end)
      (inner_mark g.extent) 0) z
      (in-sequence tag g.extent g.size st g.good (omega arith)
      (record { fits = g.opens.fits; even = g.opens.even; bytes = g.opens.bytes })))

  item-stands : (depth least : ℕ) (c v : Cursor) (tag vr : ℕ) → Item s c tag vr v
      → Stands s items depth c.at c.end c.delimited least
      → Stands s elements depth v.at v.end v.delimited 0
  item-stands depth least c v tag vr g st =
      subst (λ (x : Cursor). Stands s elements depth x.at x.end x.delimited 0) (sym g.opens.is)
      (in_item g.extent g.size st (record { fits = g.opens.fits; even = g.opens.even; bytes = g.opens.bytes }))

  -- A refusal inside a sequence or an item, where a header stands too.
  value-finds : (levels : ℕ) → levels ≤ 8 → Below levels → (c : Cursor) (least tag vr : ℕ) (v : Cursor) → Element s c least levels tag vr v
      → c.end ≤ length s → Stands s elements (depths - levels) c.at c.end c.delimited least → (t : Bool) → eqb vr SQ ≡ t
      → (n : ℕ) → value_run levels s n vr v ≡ refused fault offset → RefusedThere s fault offset
  value-finds zero few below c least tag vr v g room st true q n e = absurd (g.deep (eqb-true vr SQ q) refl)
  value-finds (suc levels) few below c least tag vr v g room st true q n e =
      let z : vr ≡ SQ = eqb-true vr SQ q in
      subst (λ (x : ℕ). Element s c least (suc levels) tag x v → value_run (suc levels) s n x v ≡ refused fault offset
      → RefusedThere s fault offset) (sym z)
      (λ g e. below n v (omega (arith, value-high s bytes c (header_size SQ) (element_header tag SQ) g.extent g.size v g.opens))
      (sequence-stands levels few c least tag v g st) (sym (value-sq levels s n v) ∙ e)) g e
  value-finds levels few below c least tag vr v g room st false q n e =
      let a : done v.end v.end [] ≡ refused fault offset = sym (value-plain levels s n vr v (eqb-false vr SQ q)) ∙ e in
      let z : ◌≡◌ {A = ℕ} 0 1 = cc in
      absurd (omega arith)

  element-finds : (levels : ℕ) → levels ≤ 8 → Below levels → (c : Cursor) (least : ℕ) → c.end ≤ length s → (h : Result Head Fault)
      → Says s elements least levels c h → Stands s elements (depths - levels) c.at c.end c.delimited least
      → Finds h (value_run levels s)
  element-finds levels few below c least room (Err k) g st = tt
  element-finds levels few below c least room (Ok (head.End tag vr next)) g st = tt
  element-finds levels few below c least room (Ok (head.Header tag vr v)) g st = value-finds levels few below c least tag vr v g room st
      (eqb vr SQ) refl

  member-finds : (levels : ℕ) → FindsIn elements levels (elements_at levels s) → (c : Cursor) (least : ℕ) → c.end ≤ length s → (h : Result Head Fault)
      → Says s items least levels c h → Stands s items (depths - levels) c.at c.end c.delimited least
      → Finds h (λ n vr v. elements_at levels s n v)
  member-finds levels inside c least room (Err k) g st = tt
  member-finds levels inside c least room (Ok (head.End tag vr next)) g st = tt
  member-finds levels inside c least room (Ok (head.Header tag vr v)) g st = λ n e.
      inside n v (omega (arith, value-high s bytes c 8 (item_header item_tag) g.extent g.size v g.opens))
      (item-stands (depths - levels) least c v tag vr g st) e

  items-find : (levels : ℕ) → levels ≤ 8 → FindsIn elements levels (elements_at levels s) → FindsIn items levels (items_at levels s)
  items-find levels few inside first c room st e =
      level-finds items (depths - levels) c.end c.delimited first (λ at least. item_at s (moved c at))
      (λ n vr v. elements_at levels s n v)
      (λ at least. refl)
      (λ at least. member-grows s bytes levels (elements-make s bytes levels few) (moved c at) least room (item_at s (moved c at))
      (item-says s bytes (moved c at) room least levels))
      (λ at least st. member-finds levels inside (moved c at) least room (item_at s (moved c at))
      (item-says s bytes (moved c at) room least levels) st)
      (length s + 1) c.at 0 [] (omega arith) st e

  elements-find-by : (levels : ℕ) → levels ≤ 8 → Deeper s bytes levels → Below levels → FindsIn elements levels (elements_at levels s)
  elements-find-by levels few deeper below first c room st e =
      let z : levels ≡ 8 - (depths - levels) = omega arith in
      level-finds elements (depths - levels) c.end c.delimited first (λ at least. element_at s (moved c at) least levels)
      (value_run levels s)
      (λ at least. ap (λ (l : ℕ). element_at s (moved c at) least l) z)
      (λ at least. element-grows s bytes levels few deeper (moved c at) least room (element_at s (moved c at) least levels)
      (element-says s bytes (moved c at) room least levels))
      (λ at least st. element-finds levels few below (moved c at) least room (element_at s (moved c at) least levels)
      (element-says s bytes (moved c at) room least levels) st)
      (length s + 1) c.at 0 [] (omega arith) st e

  elements-find : (levels : ℕ) → levels ≤ 8 → FindsIn elements levels (elements_at levels s)
  elements-find zero few = elements-find-by zero few tt tt
  elements-find (suc levels) few =
      elements-find-by (suc levels) few (items-make s bytes levels (elements-make s bytes levels (omega arith)))
      (items-find levels (omega arith) (elements-find levels (omega arith)))

-- ---- The whole

there : (s : List ℕ) → IsBytes s → (fault : Fault) (offset : ℕ) → reading_of s ≡ refused_at fault offset → RefusedThere s fault offset
unfolding reading_of
there s bytes fault offset e = by_size (ltb largest (length s)) refl e
  where
    all : Cursor
    all = cursor 0 (length s) false

    by-run : (o : Run) → elements_at 8 s 0 all ≡ o → whole o ≡ refused_at fault offset → RefusedThere s fault offset
    by-run (done stop next rows) p f = let z : ◌≡◌ {A = ℕ} 0 1 = cc in absurd (omega arith)
    by-run (refused c q) p f =
        let a : refused c q ≡ refused fault offset = cc in
        elements-find s bytes fault offset 8 (omega arith) 0 all (omega arith) start (p ∙ a)
    by-run unfinished p f = absurd (finished 8 s (omega arith) 0 all (omega arith) (omega arith) p)

    by_size : (t : Bool) → ltb largest (length s) ≡ t → cond t too_large (whole (elements_at depths s 0 all)) ≡ refused_at fault offset
        → RefusedThere s fault offset
    by_size true t f = let z : ◌≡◌ {A = ℕ} 0 1 = cc in absurd (omega arith)
    by_size false t f = by-run (elements_at 8 s 0 all) refl f

pub places : (s : List ℕ) → Places s
places s = record { there = there s; only = only s }
