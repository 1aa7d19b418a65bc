-- The rows that a reading makes are a forest: each header adds one row and, after it, the forest of its value. So it
-- is shown once for a turn of the definition `level`, and holds of elements and items by its recursion.
use mathlib.Core.Path.{◌≡◌, refl, sym, ap, ◌∙◌, subst}
use mathlib.Core.Bool.{Bool, true, false, cond}
use Prim.Native.Nat.{ℕ, zero, suc, ◌+◌, ◌-◌, ◌*◌, ◌≤◌, ◌<◌}
use native.Mathlib.Omega.{arith}
use native.Mathlib.Nat.{zero-add, add-zero}
use borrow.Author.Tests.{ltb-false, eqb-true, eqb-false}
use lib.Dec.{eqb, ltb}
use mathlib.Core.List.{List, [], ◌∷◌, ◌++◌, append_assoc, append-nil}
use lib.ListN.{length, length-append, get_or-append}
use lib.Seq.{get_or-append-add}
use Rattle.std.specs.Prelude.{Result, Ok, Err}
use Rattle.dataset.specs.declared.Fault.{Fault}
use Rattle.dataset.specs.declared.Cursor.{Cursor}
use Rattle.dataset.specs.declared.Head.{Head}
use Rattle.dataset.specs.declared.Head.TheVariants as head
use Rattle.basics.specs.Vr.{form_of, SQ}
use Rattle.basics.specs.Bytes.{le32}
use Rattle.dataset.specs.Header.{when, cursor, moved, header_by, delimiter_by, nested_by, defined_by, long_by, typed_at, tagged_at}
use Rattle.basics.specs.Tags.{item_tag}
use Rattle.dataset.specs.Header.{sized_by, member_at, element_at, item_at}
use Rattle.dataset.specs.declared.Row.{Row}
use Rattle.dataset.specs.Reading.{row, Run, done, refused, unfinished, on_head, on_run, level, value_run, elements_at, Reading, depths, turns_for}
use Rattle.dataset.specs.Internal.{items_at}
use Rattle.dataset.specs.Reading.{too_large, refused_at, read, whole, reading_of}
use Rattle.basics.specs.Limits.{largest, most_rows}
use Rattle.dataset.proofs.Levels.{sequence-level}
use Rattle.dataset.specs.Tree.{rows_in, rows_of, no_row, row_at, next_row, Kind, elements, items, Member, kind_inside, depth_inside, Members}

-- The members of one container with all that is below them, as a list.
-- Its first row is row `from`.
pub data Forest (size : ℕ) : Kind → ℕ → ℕ → ℕ → ℕ → List Row → Type 0 where
  empty : {kind : Kind} {depth holder from least : ℕ} → Forest size kind depth holder from least []
  grow : {kind : Kind} {depth holder from least : ℕ} {r : Row} {below rest : List Row}
      → Member size kind depth holder least r → r.descendants ≡ length below
      → Forest size (kind_inside kind) (depth_inside kind depth) (from + 1) (from + 1) 0 below
      → Forest size kind depth holder (from + 1 + length below) (r.tag + 1) rest
      → Forest size kind depth holder from least (r ∷ (below ++ rest))

-- ---- A header says a member's tag and VR, and moves on within the known end

abbrev Named : Kind → ℕ → ℕ → ℕ → Type 0
Named elements least tag vr = (least ≤ tag) × (form_of vr ≡ 0 → ⊥)
Named items least tag vr = (tag ≡ item_tag) × (vr ≡ 0)

abbrev Moves : Kind → ℕ → Cursor → Result Head Fault → Type 0
Moves kind least c (Ok (head.Header tag vr v)) = (c.at + 8 ≤ v.at) × ((v.at ≤ v.end) × ((v.end ≤ c.end) × Named kind least tag vr))
Moves kind least c (Ok (head.End tag vr next)) = (c.at ≤ next.at) × (next.at ≤ c.end)
Moves kind least c (Err fault) = Unit {0}

module _ (kind : Kind) (least : ℕ) (c : Cursor) where
  by-test : (t : Bool) (a b : Result Head Fault) → (t ≡ true → Moves kind least c a) → (t ≡ false → Moves kind least c b)
      → Moves kind least c (when t a b)
  unfolding when
  by-test true a b p q = p refl
  by-test false a b p q = q refl

  delimiter-moves : (tag due len : ℕ) → c.at + 8 ≤ c.end → Moves kind least c (delimiter_by c tag due len)
  unfolding delimiter_by
  delimiter-moves tag due len p =
      by-test _ _ _
      (λ _. by-test _ _ _ (λ _. by-test _ _ _ (λ _. omega arith) (λ _. omega arith)) (λ _. omega arith))
      (λ _. omega arith)

  header-moves : (h : Result Head Fault) → c.at ≤ c.end → (c.at + 8 ≤ c.end → Moves kind least c h) → Moves kind least c (header_by c h)
  unfolding header_by
  header-moves h p q =
      by-test _ _ _ (λ _. by-test _ _ _ (λ _. omega arith) (λ _. omega arith))
      (λ _. by-test _ _ _ (λ _. omega arith) (λ k. let l : 8 ≤ c.end - c.at = ltb-false (c.end - c.at) 8 k in q (omega arith)))

  module _ (tag vr : ℕ) (named : Named kind least tag vr) (start : ℕ) (p : c.at + 8 ≤ start) where
    level-moves : (levels stop : ℕ) (delimited : Bool) → start ≤ stop → stop ≤ c.end
        → Moves kind least c (nested_by tag vr levels (cursor start stop delimited))
    unfolding nested_by
    level-moves levels stop delimited q r =
        by-test _ _ _ (λ _. by-test _ _ _ (λ _. omega arith) (λ _. (p, (q, (r, named))))) (λ _. (p, (q, (r, named))))

    defined-moves : (len levels : ℕ) → start ≤ c.end → Moves kind least c (defined_by c tag vr start len levels)
    unfolding defined_by
    defined-moves len levels q =
        by-test _ _ _ (λ _. omega arith)
        (λ _. by-test _ _ _ (λ _. omega arith)
        (λ k. let l : len ≤ c.end - start = ltb-false (c.end - start) len k in
        level-moves levels (start + len) false (omega arith) (omega arith)))

    long-moves : (len levels : ℕ) → start ≤ c.end → Moves kind least c (long_by c tag vr start len levels)
    unfolding long_by
    long-moves len levels q =
        by-test _ _ _
        (λ _. by-test _ _ _ (λ _. level-moves levels c.end true q (omega arith)) (λ _. omega arith))
        (λ _. defined-moves len levels q)

module _ (s : List ℕ) (c : Cursor) (k : c.at + 8 ≤ c.end) where
  typed-moves : (tag least vr short levels : ℕ) → least ≤ tag → Moves elements least c (typed_at s c tag vr (form_of vr) short levels)
  unfolding typed_at
  typed-moves tag least vr short levels p =
      by-test elements least c _ _ _ (λ _. omega arith)
      (λ f. let n : Named elements least tag vr = (p, eqb-false (form_of vr) 0 f) in
      by-test elements least c _ _ _ (λ _. defined-moves elements least c tag vr n (c.at + 8) (omega arith) short levels k)
      (λ _. by-test elements least c _ _ _ (λ _. omega arith)
      (λ m. let l : 12 ≤ c.end - c.at = ltb-false (c.end - c.at) 12 m in
      by-test elements least c _ _ _
      (λ _. long-moves elements least c tag vr n (c.at + 12) (omega arith) (le32 s (c.at + 8)) levels (omega arith))
      (λ _. omega arith))))

  tagged-moves : (tag least levels : ℕ) → Moves elements least c (tagged_at s c tag least levels)
  unfolding tagged_at
  tagged-moves tag least levels =
      by-test elements least c _ _ _ (λ _. delimiter-moves elements least c tag _ _ k)
      (λ _. by-test elements least c _ _ _ (λ _. omega arith)
      (λ t. typed-moves tag least _ _ levels (ltb-false tag least t)))

  sized-moves : (least len : ℕ) → Moves items least c (sized_by c len)
  unfolding sized_by
  sized-moves least len =
      by-test items least c _ _ _ (λ _. (omega arith, (k, (omega arith, (refl, refl)))))
      (λ _. defined-moves items least c item_tag 0 (refl, refl) (c.at + 8) (omega arith) len 0 k)

  member-moves : (tag least : ℕ) → Moves items least c (member_at s c tag)
  unfolding member_at
  member-moves tag least =
      by-test items least c _ _ _ (λ _. sized-moves least _) (λ _. delimiter-moves items least c tag _ _ k)

-- ---- A run that is done has added a forest; one that is refused has a fault and an offset within the known end; and none is unfinished

record Added (size : ℕ) (kind : Kind) (depth holder from least at end : ℕ) (before : List Row) (stop next : ℕ) (rows : List Row) : Type
    0 where
  rest : List Row
  is : rows ≡ before ++ rest
  start : at ≤ stop
  close : stop ≤ next
  high : next ≤ end
  few : at + 8 * length rest ≤ stop
  forest : Forest size kind depth holder from least rest

abbrev Adds : ℕ → Kind → ℕ → ℕ → ℕ → ℕ → ℕ → ℕ → List Row → Run → Type 0
Adds size kind depth holder from least at end before (done stop next rows) = Added size kind depth holder from least at end before stop next
    rows
Adds size kind depth holder from least at end before (refused fault offset) = (at ≤ offset) × (offset ≤ end)
Adds size kind depth holder from least at end before unfinished = ⊥

-- A run that is done without rows stops where it started.
abbrev Bare : ℕ → Run → Type 0
Bare at (done stop next rows) = length rows ≡ 0 → stop ≡ at
Bare at (refused fault offset) = Unit {0}
Bare at unfinished = Unit {0}

-- Only a sequence and an item have rows below them; without any they are of length 0. A sequence is read where a level is left.
abbrev Childless : Kind → ℕ → ℕ → ℕ → Run → Type 0
Childless elements depth vr at (done stop next below) = ((vr ≡ SQ → ⊥) → length below ≡ 0)
    × (vr ≡ SQ → depth < 8 → length below ≡ 0 → stop ≡ at)
Childless elements depth vr at (refused fault offset) = Unit {0}
Childless elements depth vr at unfinished = Unit {0}
Childless items depth vr at o = Bare at o

abbrev Leveled : Kind → ℕ → ℕ → Type 0
Leveled elements depth vr = vr ≡ SQ → depth < 8
Leveled items depth vr = Unit {0}

-- A value whose rows start at row `first`.
abbrev Inside : ℕ → Kind → ℕ → ℕ → ℕ → Cursor → Run → Type 0
Inside size kind depth first vr v o = Adds size (kind_inside kind) (depth_inside kind depth) first first 0 v.at v.end [] o
    × Childless kind depth vr v.at o

named-member : (size : ℕ) (kind : Kind) (depth holder least tag vr at stop next : ℕ) (below : List Row) → Named kind least tag vr
    → Childless kind depth vr at (done stop next below) → Leveled kind depth vr → depth ≤ depths → at + 8 * length below ≤ stop
    → stop ≤ size
    → Member size kind depth holder least (row tag vr depth at (stop - at) (length below) holder)
named-member size elements depth holder least tag vr at stop next below n b u d p q =
    record {
      is = (n.0, (n.1, b.0));
      level = refl;
      deep = d;
      within = omega arith;
      held = refl;
      roomy = omega arith;
      bare = λ e z. let f : stop ≡ at = b.1 e (u e) z in omega (arith, f);
    }
named-member size items depth holder least tag vr at stop next below n b u d p q =
    record {
      is = n;
      level = refl;
      deep = d;
      within = omega arith;
      held = refl;
      roomy = omega arith;
      bare = λ _ z. let f : stop ≡ at = b z in omega (arith, f);
    }

-- A member in front of what the turns after it add.
member-first : (size : ℕ) (kind : Kind) (depth holder from least at next end : ℕ) (before : List Row) (r : Row) (below : List Row)
    → Member size kind depth holder least r → r.descendants ≡ length below
    → Forest size (kind_inside kind) (depth_inside kind depth) (from + 1) (from + 1) 0 below
    → at + 8 + 8 * length below ≤ next
    → (o : Run) → Adds size kind depth holder (from + 1 + length below) (r.tag + 1) next end (before ++ (r ∷ below)) o
    → Adds size kind depth holder from least at end before o
member-first size kind depth holder from least at next end before r below m d f p (refused fault offset) a = omega (arith, a)
member-first size kind depth holder from least at next end before r below m d f p unfinished a = a
member-first size kind depth holder from least at next end before r below m d f p (done stop after rows) a =
    record {
      rest = r ∷ (below ++ a.rest);
      is = a.is ∙ append_assoc before (r ∷ below) a.rest;
      start = omega (arith, a.start);
      close = a.close;
      high = a.high;
      few = omega (arith, a.few, length-append below a.rest);
      forest = grow m d f a.forest;
    }

module _ (size : ℕ) (kind : Kind) (depth first : ℕ) (header : ℕ → ℕ → Result Head Fault) (inside : ℕ → ℕ → Cursor → Run) (c : Cursor)
    (high : c.end ≤ size) (deep : depth ≤ depths)
    (moves : (at least : ℕ) → at ≤ c.end → Moves kind least (moved c at) (header at least))
    (leveled : (at least tag vr : ℕ) (v : Cursor) → header at least ≡ Ok (head.Header tag vr v) → Leveled kind depth vr)
    (value : (n vr : ℕ) (v : Cursor) → v.at ≤ v.end → v.end ≤ size → Inside size kind depth n vr v (inside n vr v)) where
  level-adds : (turns from at least : ℕ) (before : List Row) → from ≡ first + length before → at ≤ c.end → c.end < at + turns
      → Adds size kind depth first from least at c.end before (level header inside depth first turns at least before)
  unfolding level
  level-adds zero from at least before g h t = absurd (omega arith)
  level-adds (suc turns) from at least before g h t =
      on-head (λ next tag r below p q.
      level-adds turns (from + 1 + length below) next (tag + 1) (before ++ (r ∷ below)) (omega (arith, length-append before (r ∷ below))) p
      q)
      (header at least) refl (moves at least h)
    where
      Next : Type 0
      Next = (next tag : ℕ) (r : Row) (below : List Row) → next ≤ c.end → c.end < next + turns
          → Adds size kind depth first (from + 1 + length below) (tag + 1) next c.end (before ++ (r ∷ below))
          (level header inside depth first turns next (tag + 1) (before ++ (r ∷ below)))

      on-run : Next → (tag vr : ℕ) (v : Cursor) → at + 8 ≤ v.at → v.end ≤ c.end → Named kind least tag vr → Leveled kind depth vr
          → (o : Run) → Inside size kind depth (from + 1) vr v o
          → Adds size kind depth first from least at c.end before (on_run o (λ stop next below.
          level header inside depth first turns next (tag + 1)
          (before ++ (row tag vr depth v.at (stop - v.at) (length below) first ∷ below))))
      on-run k tag vr v m n w u (refused fault offset) g = omega (arith, g.0)
      on-run k tag vr v m n w u unfinished g = g.0
      on-run k tag vr v m n w u (done stop next below) g =
          let r : Row = row tag vr depth v.at (stop - v.at) (length below) first in
          let e : below ≡ g.0.rest = g.0.is in
          let f : Forest size (kind_inside kind) (depth_inside kind depth) (from + 1) (from + 1) 0 below =
          subst (λ (l : List Row). Forest size (kind_inside kind) (depth_inside kind depth) (from + 1) (from + 1) 0 l) (sym e)
          g.0.forest in
          let l : length below ≡ length g.0.rest = ap length e in
          member-first size kind depth first from least at next c.end before r below
          (named-member size kind depth first least tag vr v.at stop next below w g.1 u deep (omega (arith, l, g.0.few))
          (omega (arith, g.0.close, g.0.high)))
          refl f (omega (arith, l, g.0.few, g.0.close)) (level header inside depth first turns next (tag + 1) (before ++ (r ∷ below)))
          (k next tag r below (omega (arith, g.0.high)) (omega (arith, g.0.start, g.0.close)))

      on-head : Next → (h : Result Head Fault) → header at least ≡ h → Moves kind least (moved c at) h
          → Adds size kind depth first from least at c.end before (on_head h
          (λ fault. refused fault at)
          (λ next. done at next before)
          (λ tag vr v. on_run (inside (first + length before + 1) vr v) (λ stop next below.
          level header inside depth first turns next (tag + 1)
          (before ++ (row tag vr depth v.at (stop - v.at) (length below) first ∷ below)))))
      on-head k (Err fault) e m = (omega arith, h)
      on-head k (Ok (head.End tag vr next)) e m =
          record {
            rest = [];
            is = sym (append-nil before);
            start = omega arith;
            close = m.0;
            high = m.1;
            few = omega (arith, m.0);
            forest = empty;
          }
      on-head k (Ok (head.Header tag vr v)) e m =
          on-run k tag vr v m.0 m.1.1.0 m.1.1.1 (leveled at least tag vr v e) (inside (first + length before + 1) vr v)
          (subst (λ (n : ℕ). Inside size kind depth n vr v (inside (first + length before + 1) vr v)) (omega arith)
          (value (first + length before + 1) vr v m.1.0 (omega (arith, m.1.1.0))))

-- ---- A level without rows

-- A run keeps the rows that it was given.
abbrev Long : ℕ → Run → Type 0
Long n (done stop next rows) = n ≤ length rows
Long n (refused fault offset) = Unit {0}
Long n unfinished = Unit {0}

level-long : (header : ℕ → ℕ → Result Head Fault) (inside : ℕ → ℕ → Cursor → Run) (depth first turns at least : ℕ) (rows : List Row) (n : ℕ)
    → n ≤ length rows
    → Long n (level header inside depth first turns at least rows)
unfolding level
level-long header inside depth first zero at least rows n h = tt
level-long header inside depth first (suc turns) at least rows n h =
    on-head (λ next tag more k. level-long header inside depth first turns next (tag + 1) more n k) (header at least)
  where
    Next : Type 0
    Next = (next tag : ℕ) (more : List Row) → n ≤ length more → Long n (level header inside depth first turns next (tag + 1) more)

    on-run : Next → (tag vr : ℕ) (v : Cursor) (o : Run) → Long n (on_run o (λ stop next below.
        level header inside depth first turns next (tag + 1)
        (rows ++ (row tag vr depth v.at (stop - v.at) (length below) first ∷ below))))
    on-run k tag vr v (refused fault offset) = tt
    on-run k tag vr v unfinished = tt
    on-run k tag vr v (done stop next below) =
        k next tag (rows ++ (row tag vr depth v.at (stop - v.at) (length below) first ∷ below))
        (omega (arith, h, length-append rows (row tag vr depth v.at (stop - v.at) (length below) first ∷ below)))

    on-head : Next → (x : Result Head Fault) → Long n (on_head x (λ fault. refused fault at) (λ next. done at next rows)
        (λ tag vr v. on_run (inside (first + length rows + 1) vr v) (λ stop next below.
        level header inside depth first turns next (tag + 1)
        (rows ++ (row tag vr depth v.at (stop - v.at) (length below) first ∷ below)))))
    on-head k (Err fault) = tt
    on-head k (Ok (head.End tag vr next)) = h
    on-head k (Ok (head.Header tag vr v)) = on-run k tag vr v (inside (first + length rows + 1) vr v)

long-bare : (at : ℕ) (o : Run) → Long 1 o → Bare at o
long-bare at (refused fault offset) h = tt
long-bare at unfinished h = tt
long-bare at (done stop next rows) h = λ e. absurd (omega (arith, h, e))

level-bare : (header : ℕ → ℕ → Result Head Fault) (inside : ℕ → ℕ → Cursor → Run) (depth first turns at least : ℕ)
    → Bare at (level header inside depth first turns at least [])
unfolding level
level-bare header inside depth first zero at least = tt
level-bare header inside depth first (suc turns) at least = on-head (header at least)
  where
    on-run : (tag vr : ℕ) (v : Cursor) (o : Run) → Bare at (on_run o (λ stop next below.
        level header inside depth first turns next (tag + 1) (row tag vr depth v.at (stop - v.at) (length below) first ∷ below)))
    on-run tag vr v (refused fault offset) = tt
    on-run tag vr v unfinished = tt
    on-run tag vr v (done stop next below) =
        long-bare at
        (level header inside depth first turns next (tag + 1) (row tag vr depth v.at (stop - v.at) (length below) first ∷ below))
        (level-long header inside depth first turns next (tag + 1) (row tag vr depth v.at (stop - v.at) (length below) first ∷ below) 1
        (omega arith))

    on-head : (x : Result Head Fault) → Bare at
        (on_head x (λ fault. refused fault at) (λ next. done at next []) (λ tag vr v. on_run (inside (first + 0 + 1) vr v) (λ stop next below.
        level header inside depth first turns next (tag + 1) (row tag vr depth v.at (stop - v.at) (length below) first ∷ below))))
    on-head (Err fault) = tt
    on-head (Ok (head.End tag vr next)) = λ _. refl
    on-head (Ok (head.Header tag vr v)) = on-run tag vr v (inside (first + 0 + 1) vr v)

-- ---- The whole

by_cond : (t : Bool) (size : ℕ) (depth first vr : ℕ) (v : Cursor) (a b : Run) → (t ≡ true → Inside size elements depth first vr v a)
    → (t ≡ false → Inside size elements depth first vr v b)
    → Inside size elements depth first vr v (cond t a b)
by_cond true size depth first vr v a b p q = p refl
by_cond false size depth first vr v a b p q = q refl

leaf-inside : (size depth first vr : ℕ) (v : Cursor) → v.at ≤ v.end → (vr ≡ SQ → depth < 8 → ⊥)
    → Inside size elements depth first vr v (done v.end v.end [])
leaf-inside size depth first vr v p n = (
  record { rest = []; is = refl; start = p; close = omega arith; high = omega arith; few = omega (arith, p); forest = empty },
  (λ _. refl, λ e d. absurd (n e d)),
)

-- A run over items is no leaf's.
items-inside : (size depth first vr : ℕ) (v : Cursor) (o : Run) → vr ≡ SQ → Adds size items (depth + 1) first first 0 v.at v.end [] o
    → Bare v.at o
    → Inside size elements depth first vr v o
items-inside size depth first vr v (refused fault offset) e a b = (a, tt)
items-inside size depth first vr v unfinished e a b = absurd a
items-inside size depth first vr v (done stop next below) e a b = (a, (λ n. absurd (n e), λ _ _. b))

elements-adds : (levels : ℕ) (s : List ℕ) → levels ≤ depths
    → ((n vr : ℕ) (v : Cursor) → v.at ≤ v.end → v.end ≤ length s
    → Inside (length s) elements (depths - levels) n vr v (value_run levels s n vr v))
    → (first : ℕ) (c : Cursor) → c.at ≤ c.end → c.end ≤ length s
    → Adds (length s) elements (depths - levels) first first 0 c.at c.end [] (elements_at levels s first c)
elements-adds levels s d inside first c p q =
    level-adds (length s) elements (depths - levels) first (λ at least. element_at s (moved c at) least levels) (value_run levels s) c q
    (omega arith)
    (λ at least r. header-moves elements least (moved c at) _ r (λ k. tagged-moves s (moved c at) k _ least levels))
    (λ at least tag vr v e q. let k : 1 ≤ levels = sequence-level levels s (moved c at) least e q in omega (arith, d, k)) inside
    (turns_for s) first c.at 0 [] (sym (add-zero first)) p (omega arith)

value-inside : (levels : ℕ) (s : List ℕ) → levels ≤ depths → (first vr : ℕ) (v : Cursor) → v.at ≤ v.end → v.end ≤ length s
    → Inside (length s) elements (depths - levels) first vr v (value_run levels s first vr v)
unfolding value_run
value-inside zero s d first vr v p q = leaf-inside (length s) 8 first vr v p (λ _ h. omega (arith, h))
value-inside (suc levels) s d first vr v p q =
    let e : depths - levels ≡ (depths - suc levels) + 1 = omega arith in
    by_cond (eqb vr SQ) (length s) (depths - suc levels) first vr v (items_at levels s first v) (done v.end v.end [])
    (λ t. items-inside (length s) (depths - suc levels) first vr v (items_at levels s first v) (eqb-true vr SQ t)
    (subst (λ (n : ℕ). Adds (length s) items n first first 0 v.at v.end [] (items_at levels s first v)) e
    (level-adds (length s) items (depths - levels) first (λ at least. item_at s (moved v at)) (λ n _ c. elements_at levels s n c) v q
    (omega arith)
    (λ at least r. header-moves items least (moved v at) _ r (λ k. member-moves s (moved v at) k _ least))
    (λ at least tag r w e. tt)
    (λ n r c k l. (
      elements-adds levels s (omega arith) (value-inside levels s (omega arith)) n c k l,
      level-bare (λ at least. element_at s (moved c at) least levels) (value_run levels s) (depths - levels) n (turns_for s) c.at 0,
    ))
    (turns_for s) first v.at 0 [] (sym (add-zero first)) p (omega arith)))
    (level-bare (λ at least. item_at s (moved v at)) (λ n _ c. elements_at levels s n c) (depths - levels) first (turns_for s) v.at 0))
    (λ t. leaf-inside (length s) (depths - suc levels) first vr v p (λ e _. eqb-false vr SQ t e))

-- No reading runs out of turns: neither that of a whole data set nor that of a part of one.
pub finished : (levels : ℕ) (s : List ℕ) → levels ≤ depths → (first : ℕ) (c : Cursor) → c.at ≤ c.end → c.end ≤ length s
    → elements_at levels s first c ≡ unfinished → ⊥
finished levels s d first c p q e =
    subst (λ (o : Run). Adds (length s) elements (depths - levels) first first 0 c.at c.end [] o) e
    (elements-adds levels s d (value-inside levels s d) first c p q)

-- What a reading says: rows that are a forest, and no more than one to 8 bytes; or a code 1 to 6 within the data set.
pub record Rows (s : List ℕ) (rows : List Row) : Type 0 where
  pub forest : Forest (length s) elements 0 0 0 0 rows
  pub sparse : 8 * length rows ≤ length s
  pub small : length rows ≤ most_rows

abbrev pub Reads : List ℕ → Reading → Type 0
Reads s too_large = Unit {0}
Reads s (refused_at fault offset) = offset ≤ largest
Reads s (read rows) = Rows s rows

pub reading-reads : (s : List ℕ) → Reads s (reading_of s)
unfolding reading_of
reading-reads s = by_size (ltb largest (length s)) refl
  where
    all : Cursor
    all = cursor 0 (length s) false

    by-run : length s ≤ largest → (o : Run) → Adds (length s) elements 0 0 0 0 0 (length s) [] o → Reads s (whole o)
    by-run h (refused fault offset) a = omega (arith, a)
    by-run h unfinished a = absurd a
    by-run h (done stop next rows) a =
        let e : rows ≡ a.rest = a.is in
        let f : Forest (length s) elements 0 0 0 0 rows = subst (λ (l : List Row). Forest (length s) elements 0 0 0 0 l) (sym e)
        a.forest in
        let l : length rows ≡ length a.rest = ap length e in
        record { forest = f; sparse = omega (arith, l, a.few, a.close, a.high); small = omega (arith, l, a.few, a.close, a.high) }

    by_size : (t : Bool) → ltb largest (length s) ≡ t → Reads s (cond t too_large (whole (elements_at 8 s 0 all)))
    by_size true e = tt
    by_size false e =
        by-run (ltb-false largest (length s) e) (elements_at 8 s 0 all)
        (elements-adds 8 s (omega arith) (value-inside 8 s (omega arith)) 0 all (omega arith) (omega arith))

pub rows-read : (s : List ℕ) → Rows s (rows_of s)
unfolding rows_of
rows-read s = go (reading_of s) (reading-reads s)
  where
    nothing : Rows s []
    nothing = record { forest = empty; sparse = omega arith; small = omega arith }

    go : (o : Reading) → Reads s o → Rows s (rows_in o)
    go too_large r = nothing
    go (refused_at fault offset) r = nothing
    go (read rows) r = r

-- ---- The members, by their row numbers

module _ (all : List Row) (size : ℕ) where
  -- The rows stand at row i of all.
  abbrev Stand : List Row → ℕ → Type 0
  Stand rows i = (k : ℕ) → k < length rows → row_at all (i + k) ≡ row_at rows k

  forest-members : {kind : Kind} {depth holder i least : ℕ} {rows : List Row} → Forest size kind depth holder i least rows → (to : ℕ)
      → Stand rows i → i + length rows ≡ to
      → Members all size kind depth holder least i to
  forest-members (empty {from = i}) to s e = let z : i ≡ to = omega arith in Members.end z
  forest-members (grow {kind} {depth} {holder} {from = i} {least} {r} {below} {rest} m d f g) to s e =
      let l : length (below ++ rest) ≡ length below + length rest = length-append below rest in
      let a : row_at all i ≡ r = at i 0 (omega arith) (omega arith) in
      let n : next_row all i ≡ i + 1 + length below = ap (λ (x : Row). i + 1 + x.descendants) a ∙ ap (λ (x : ℕ). i + 1 + x) d in
      let b : next_row all i ≤ to = omega arith in
      Members.member b (subst (λ (x : Row). Member size kind depth holder least x) (sym a) m)
      (forest-members f (next_row all i)
      (λ k h. at (i + 1 + k) (suc k) (omega arith) (omega arith) ∙ get_or-append below rest no_row k h) (omega arith))
      (subst (λ (x : Row). Members all size kind depth holder (x.tag + 1) (next_row all i) to) (sym a)
      (subst (λ (k : ℕ). Members all size kind depth holder (r.tag + 1) k to) (sym n)
      (forest-members g to
      (λ k h. at (i + 1 + length below + k) (suc (length below + k)) (omega arith) (omega arith) ∙ get_or-append-add below rest k no_row)
      (omega arith))))
    where
      at : (j k : ℕ) → j ≡ i + k → k < length (r ∷ (below ++ rest)) → row_at all j ≡ row_at (r ∷ (below ++ rest)) k
      at j k p h = ap (row_at all) p ∙ s k h

pub rows-members : (s : List ℕ) → Members (rows_of s) (length s) elements 0 0 0 0 (length (rows_of s))
rows-members s =
    forest-members (rows_of s) (length s) (rows-read s).forest (length (rows_of s)) (λ k _. ap (row_at (rows_of s)) (zero-add k))
    (zero-add (length (rows_of s)))
