-- What callers may rely on in the rows of every data set. Each row is a member of some container among the members of
-- the root, so that what holds of a member in its container holds of each row.
use mathlib.Core.Path.{◌≡◌, refl, ap, ◌∙◌, subst}
use mathlib.Core.Bool.{Bool, true, false, cond}
use Prim.Native.Nat.{ℕ, zero, suc, ◌+◌, ◌*◌, ◌≤◌, ◌<◌}
use native.Mathlib.Omega.{arith}
use native.Mathlib.Nat.{zero-add}
use borrow.Author.Tests.{ltb-true, ltb-false}
use lib.Dec.{ltb}
use mathlib.Core.List.{List, [], ◌∷◌, ◌++◌}
use lib.ListN.{length, get_or, get_or-append}
use lib.Seq.{get_or-append-add}
use Rattle.basics.specs.Limits.{most_rows, largest}
use Rattle.std.specs.Prelude.{Result, Ok, Err}
use Rattle.dataset.specs.declared.Fault.{Fault}
use Rattle.dataset.specs.declared.Fault.TheVariants as faults
use Rattle.dataset.specs.declared.ReadError.{ReadError}
use Rattle.dataset.specs.declared.ReadError.TheVariants as errors
use Rattle.dataset.specs.Fault.{code_of}
use Rattle.basics.specs.Vr.{form_of, listed, SQ}
use Rattle.dataset.specs.declared.Row.{Row}
use Rattle.dataset.specs.Reading.{Reading, too_large, refused_at, read, reading_of, depths}
use Rattle.dataset.specs.Answer.{flat, fits, answer_of, width}
use Rattle.dataset.specs.Tree.{rows_of, row_at, next_row, Kind, elements, items, Member, kind_inside, depth_inside, Members}
use Rattle.dataset.proofs.Tree.{Reads, reading-reads, rows-read, rows-members}

-- ---- The numbers of an answer and of a buffer

-- The numbers of an answer are small.
abbrev pub Small : Result ℕ ReadError → Type 0
Small (Ok n) = n ≤ most_rows
Small (Err (errors.Refused r)) = (1 ≤ code_of r.fault) × ((code_of r.fault ≤ 6) × (r.offset ≤ largest))
Small (Err errors.TooLarge) = Unit {0}
Small (Err errors.NoRoom) = Unit {0}

pub code-small : (fault : Fault) → (1 ≤ code_of fault) × (code_of fault ≤ 6)
code-small faults.CutShort = omega arith
code-small faults.NotAscending = omega arith
code-small faults.UnlistedVr = omega arith
code-small faults.OddLength = omega arith
code-small faults.NotDue = omega arith
code-small faults.TooDeep = omega arith

pub answer-small : (s buffer : List ℕ) → Small (answer_of (reading_of s) buffer)
answer-small s buffer = by-reading (reading_of s) (reading-reads s)
  where
    by-room : (t : Bool) (n : ℕ) → n ≤ most_rows → Small (cond t (Ok n) (Err errors.NoRoom))
    by-room true n h = h
    by-room false n h = tt

    by-reading : (o : Reading) → Reads s o → Small (answer_of o buffer)
    by-reading too_large r = tt
    by-reading (refused_at fault offset) r = let k = code-small fault in (k.0, (k.1, r))
    by-reading (read rows) r = by-room (fits rows buffer) (length rows) r.small

-- The numbers of row i stand side by side, whatever follows the rows.
pub number_at : (rows : List Row) (rest : List ℕ) (i k : ℕ) → i < length rows → k < width
    → get_or (flat rows ++ rest) (width * i + k) 0 ≡ get_or (flat (row_at rows i ∷ [])) k 0
number_at [] rest i k h l = absurd (omega arith)
number_at (r ∷ rs) rest zero k h l = rw (zero-add k) (get_or-append (flat (r ∷ [])) (flat rs ++ rest) 0 k l)
number_at (r ∷ rs) rest (suc i) k h l =
    let e : width * suc i + k ≡ width + (width * i + k) = omega arith in
    rw e (get_or-append-add (flat (r ∷ [])) (flat rs ++ rest) (width * i + k) 0 ∙ number_at rs rest i k (omega arith) l)

-- ---- The members of one container, step by step

-- The first member, and what is after it.
pub record First (rows : List Row) (size : ℕ) (kind : Kind) (depth holder least i to : ℕ) : Type 0 where
  pub here : Member size kind depth holder least (row_at rows i)
  pub fit : next_row rows i ≤ to
  pub below : Members rows size (kind_inside kind) (depth_inside kind depth) (i + 1) 0 (i + 1) (next_row rows i)
  pub after : Members rows size kind depth holder ((row_at rows i).tag + 1) (next_row rows i) to

pub members-first : {rows : List Row} {size : ℕ} {kind : Kind} {depth holder least i to : ℕ}
    → Members rows size kind depth holder least i to → i < to
    → First rows size kind depth holder least i to
members-first (Members.end e) h = absurd (omega arith)
members-first (Members.member f m b r) h = record { here = m; fit = f; below = b; after = r }

pub members-ascend : {rows : List Row} {size depth holder least i to : ℕ} → Members rows size elements depth holder least i to → i < to
    → next_row rows i < to
    → (row_at rows i).tag < (row_at rows (next_row rows i)).tag
members-ascend m h k = omega (arith, (members-first (members-first m h).after k).here.is.0)

-- ---- Row i among the members of a container, or below them

-- Row i is a member of some container, of that depth at least, that ends within the row `to`.
pub record Found (rows : List Row) (size depth i to : ℕ) : Type 0 where
  pub kind : Kind
  pub depth_here : ℕ
  pub holder : ℕ
  pub least : ℕ
  pub last : ℕ
  pub deeper : depth ≤ depth_here
  pub first : First rows size kind depth_here holder least i last
  pub within : last ≤ to

inside-deeper : (kind : Kind) (depth : ℕ) → depth ≤ depth_inside kind depth
inside-deeper elements depth = omega arith
inside-deeper items depth = omega arith

pub row-found : {rows : List Row} {size : ℕ} {kind : Kind} {depth holder least from to : ℕ}
    → Members rows size kind depth holder least from to
    → (i : ℕ) → from ≤ i → i < to → Found rows size depth i to
row-found (Members.end e) i p q = absurd (omega arith)
row-found {rows} {size} (Members.member {kind} {depth} {holder} {least} {i = from} {to} f m b r) i p q =
    go (row-found b i) (row-found r i) (ltb from i) refl (ltb i (next_row rows from)) refl
  where
    go : (from + 1 ≤ i → i < next_row rows from → Found rows size (depth_inside kind depth) i (next_row rows from))
        → (next_row rows from ≤ i → i < to → Found rows size depth i to)
        → (t : Bool) → ltb from i ≡ t → (u : Bool) → ltb i (next_row rows from) ≡ u → Found rows size depth i to
    go x y false d u e =
        let l : from ≡ i = omega (arith, ltb-false from i d) in
        subst (λ (j : ℕ). Found rows size depth j to) l
        (record {
          kind = kind;
          depth_here = depth;
          holder = holder;
          least = least;
          last = to;
          deeper = omega arith;
          first = record { here = m; fit = f; below = b; after = r };
          within = omega arith;
        })
    go x y true d true e =
        let g = x (omega (arith, ltb-true from i d)) (ltb-true i (next_row rows from) e) in
        record {
          kind = g.kind;
          depth_here = g.depth_here;
          holder = g.holder;
          least = g.least;
          last = g.last;
          deeper = omega (arith, g.deeper, inside-deeper kind depth);
          first = g.first;
          within = omega (arith, g.within);
        }
    go x y true d false e = y (ltb-false i (next_row rows from) e) q

-- An item has no form: its VR is 0.
pub item-formless : (vr : ℕ) → vr ≡ 0 → form_of vr ≡ 0
unfolding form_of listed
item-formless vr e = rw e

-- ---- An element and the element of its depth next after it

abbrev pub IsElement : Row → Type 0
IsElement r = form_of r.vr ≡ 0 → ⊥

-- Of two members of one container in a row, the second has the higher tag, where the first is an element.
member-ascends : (size : ℕ) (kind : Kind) (depth holder least : ℕ) (r q : Row) → Member size kind depth holder least r
    → Member size kind depth holder (r.tag + 1) q → IsElement r → r.tag < q.tag
member-ascends size elements depth holder least r q m n x = omega (arith, n.is.0)
member-ascends size items depth holder least r q m n x = absurd (x (item-formless r.vr m.is.1))

-- What follows the last row below a member is an item, or less deep.
member-less-deep : (size : ℕ) (kind : Kind) (depth holder least : ℕ) (q : Row) → Member size kind depth holder least q → IsElement q
    → q.depth < depth_inside kind depth
member-less-deep size elements depth holder least q m y = omega (arith, m.level)
member-less-deep size items depth holder least q m y = absurd (y (item-formless q.vr m.is.1))

next-ascends : {rows : List Row} {size : ℕ} {kind : Kind} {depth holder least from to : ℕ}
    → Members rows size kind depth holder least from to
    → (i : ℕ) → from ≤ i → i < to → next_row rows i < to → IsElement (row_at rows i) → IsElement (row_at rows (next_row rows i))
    → (row_at rows i).depth ≡ (row_at rows (next_row rows i)).depth → (row_at rows i).tag < (row_at rows (next_row rows i)).tag
next-ascends (Members.end e) i p q l x y d = absurd (omega arith)
next-ascends {rows} {size} (Members.member {kind} {depth} {holder} {least} {i = from} {to} f m b r) i p q l x y d =
    go (λ u v w. next-ascends b i u v w x y d) (λ u. next-ascends r i u q l x y d) (ltb from i) refl (ltb i (next_row rows from)) refl
  where
    Claim : ℕ → Type 0
    Claim j = (row_at rows i).tag < (row_at rows j).tag

    same : from ≡ i → Claim (next_row rows i)
    same z =
        let a = members-first r (omega (arith, ap (next_row rows) z)) in
        member-ascends size kind depth holder least (row_at rows i) (row_at rows (next_row rows i))
        (subst (λ (j : ℕ). Member size kind depth holder least (row_at rows j)) z m)
        (subst (λ (j : ℕ). Member size kind depth holder ((row_at rows j).tag + 1) (row_at rows (next_row rows j))) z a.here) x

    last : from < i → i < next_row rows from → (next_row rows i < next_row rows from → Claim (next_row rows i))
        → (t : Bool) → ltb (next_row rows i) (next_row rows from) ≡ t → Claim (next_row rows i)
    last u v w true e = w (ltb-true (next_row rows i) (next_row rows from) e)
    last u v w false e =
        let g = row-found b i (omega arith) v in
        let z : next_row rows i
        ≡ next_row rows from = omega (arith, ltb-false (next_row rows i) (next_row rows from) e, g.first.fit, g.within) in
        let a = members-first r (omega arith) in
        let y' : IsElement (row_at rows (next_row rows from)) = subst (λ (j : ℕ). IsElement (row_at rows j)) z y in
        let d' : (row_at rows i).depth ≡ (row_at rows (next_row rows from)).depth = d ∙ ap (λ (j : ℕ). (row_at rows j).depth) z in
        absurd (omega (arith, member-less-deep size kind depth holder _ _ a.here y', g.deeper, g.first.here.level, d'))

    go : (from + 1 ≤ i → i < next_row rows from → next_row rows i < next_row rows from → Claim (next_row rows i))
        → (next_row rows from ≤ i → Claim (next_row rows i))
        → (t : Bool) → ltb from i ≡ t → (u : Bool) → ltb i (next_row rows from) ≡ u → Claim (next_row rows i)
    go k n false c u e = same (omega (arith, ltb-false from i c))
    go k n true c true e =
        let v : i < next_row rows from = ltb-true i (next_row rows from) e in
        let w : from < i = ltb-true from i c in
        last w v (k (omega arith) v) (ltb (next_row rows i) (next_row rows from)) refl
    go k n true c false e = n (ltb-false i (next_row rows from) e)

-- ---- The rows of a data set

pub row_count : (s : List ℕ) → 8 * length (rows_of s) ≤ length s
row_count s = (rows-read s).sparse

pub row-few : (s : List ℕ) → length (rows_of s) ≤ most_rows
row-few s = (rows-read s).small

module _ (s : List ℕ) (i : ℕ) (h : i < length (rows_of s)) where
  found : Found (rows_of s) (length s) 0 i (length (rows_of s))
  found = row-found (rows-members s) i (omega arith) h

  pub row_within : (row_at (rows_of s) i).offset + (row_at (rows_of s) i).size ≤ length s
  row_within = found.first.here.within

  pub row-deep : (row_at (rows_of s) i).depth ≤ depths
  row-deep = found.first.here.deep

  pub row_next : next_row (rows_of s) i ≤ length (rows_of s)
  row_next = omega (arith, found.first.fit, found.within)

  pub row-nested : (j : ℕ) → i < j → j < next_row (rows_of s) i → next_row (rows_of s) j ≤ next_row (rows_of s) i
  row-nested j p q = let g = row-found found.first.below j (omega arith) q in omega (arith, g.first.fit, g.within)

  -- Below an item are its elements, of its own depth; below any other row are items, one deeper.
  pub item-members : (row_at (rows_of s) i).vr ≡ 0
      → Members (rows_of s) (length s) elements (row_at (rows_of s) i).depth (i + 1) 0 (i + 1) (next_row (rows_of s) i)
  item-members e = by_kind found.kind found.first
    where
      by_kind : (kind : Kind) {depth holder least last : ℕ} → First (rows_of s) (length s) kind depth holder least i last
          → Members (rows_of s) (length s) elements (row_at (rows_of s) i).depth (i + 1) 0 (i + 1) (next_row (rows_of s) i)
      by_kind elements f = absurd (f.here.is.1.0 (item-formless _ e))
      by_kind items f = rw f.here.level f.below

  pub element-members : ((row_at (rows_of s) i).vr ≡ 0 → ⊥)
      → Members (rows_of s) (length s) items ((row_at (rows_of s) i).depth + 1) (i + 1) 0 (i + 1) (next_row (rows_of s) i)
  element-members n = by_kind found.kind found.first
    where
      by_kind : (kind : Kind) {depth holder least last : ℕ} → First (rows_of s) (length s) kind depth holder least i last
          → Members (rows_of s) (length s) items ((row_at (rows_of s) i).depth + 1) (i + 1) 0 (i + 1) (next_row (rows_of s) i)
      by_kind elements f = rw f.here.level f.below
      by_kind items f = absurd (n f.here.is.1)

  pub row-childless : ((row_at (rows_of s) i).vr ≡ 0 → ⊥) → ((row_at (rows_of s) i).vr ≡ SQ → ⊥) → (row_at (rows_of s) i).descendants ≡ 0
  row-childless n q = by_kind found.kind found.first
    where
      by_kind : (kind : Kind) {depth holder least last : ℕ} → First (rows_of s) (length s) kind depth holder least i last
          → (row_at (rows_of s) i).descendants ≡ 0
      by_kind elements f = f.here.is.1.1 q
      by_kind items f = absurd (n f.here.is.1)

  -- Each row below a row takes 8 bytes of it; and a sequence with no row below it is of length 0.
  pub row-roomy : 8 * (row_at (rows_of s) i).descendants ≤ (row_at (rows_of s) i).size
  row-roomy = found.first.here.roomy

  pub sequence-bare : (row_at (rows_of s) i).vr ≡ SQ → (row_at (rows_of s) i).descendants ≡ 0 → (row_at (rows_of s) i).size ≡ 0
  sequence-bare q z = by_kind found.kind found.first
    where
      by_kind : (kind : Kind) {depth holder least last : ℕ} → First (rows_of s) (length s) kind depth holder least i last
          → (row_at (rows_of s) i).size ≡ 0
      by_kind elements f = f.here.bare q z
      by_kind items f = absurd (omega (arith, q, f.here.is.1))

  -- An element's tag is below the next one's of its depth, where that follows it and its descendants.
  pub row-ascends : next_row (rows_of s) i < length (rows_of s) → IsElement (row_at (rows_of s) i)
      → IsElement (row_at (rows_of s) (next_row (rows_of s) i))
      → (row_at (rows_of s) i).depth ≡ (row_at (rows_of s) (next_row (rows_of s) i)).depth
      → (row_at (rows_of s) i).tag < (row_at (rows_of s) (next_row (rows_of s) i)).tag
  row-ascends l x y e = next-ascends (rows-members s) i (omega arith) h l x y e
