-- A row's parent is the innermost row that counts it among its rows below; there is none at the root. So following parents meets those
-- rows, from the innermost on. Each step comes one nearer to the root: from an element to its item, or from an item to its sequence.
use mathlib.Core.Path.{◌≡◌, refl, sym, ap, ◌∙◌, subst}
use mathlib.Core.Bool.{Bool, true, false}
use mathlib.Core.Logic.{◌⊎◌, inl, inr}
use Prim.Native.Nat.{ℕ, zero, suc, ◌+◌, ◌*◌, ◌≤◌, ◌<◌}
use native.Mathlib.Omega.{arith}
use native.Mathlib.Numerals.{add-one}
use borrow.Author.Tests.{ltb-true, ltb-false, eqb-true, eqb-false}
use lib.Dec.{eqb, ltb}
use mathlib.Core.List.{List}
use lib.ListN.{length}
use Rattle.basics.specs.Vr.{SQ}
use Rattle.dataset.specs.declared.Row.{Row}
use Rattle.dataset.specs.Tree.{rows_of, row_at, next_row, Kind, elements, items, Member, kind_inside, depth_inside, Members}
use Rattle.dataset.specs.Parents.{parent_of, climb, Counts, Meets, Parents}
use Rattle.dataset.proofs.Tree.{rows-members}
use Rattle.dataset.proofs.Laws.{item-formless, row-found, row-nested, row-deep}

-- ---- What stands around a row

-- What a member is, and its depth.
abbrev Stands : Kind → ℕ → Row → Type 0
Stands elements depth r = (r.vr ≡ 0 → ⊥) × (r.depth ≡ depth)
Stands items depth r = (r.vr ≡ 0) × (r.depth ≡ depth)

stands : (size : ℕ) (kind : Kind) (depth holder least : ℕ) (r : Row) → Member size kind depth holder least r → Stands kind depth r
stands size elements depth holder least r m = (λ e. m.is.1.0 (item-formless r.vr e), m.level)
stands size items depth holder least r m = (m.is.1, m.level)

-- An item under its sequence, or an element under its item.
abbrev Under : Row → Row → Type 0
Under r q = ((r.vr ≡ 0) × ((q.vr ≡ SQ) × (r.depth ≡ q.depth + 1))) ⊎ ((r.vr ≡ 0 → ⊥) × ((q.vr ≡ 0) × (r.depth ≡ q.depth)))

under : (size : ℕ) (kind : Kind) (depth holder least : ℕ) (r q : Row) → Member size kind depth holder least q → (q.descendants ≡ 0 → ⊥)
    → Stands (kind_inside kind) (depth_inside kind depth) r → Under r q
under size elements depth holder least r q m n x = inl (x.0, (sequence (eqb q.vr SQ) refl, omega (arith, x.1, m.level)))
  where
    sequence : (t : Bool) → eqb q.vr SQ ≡ t → q.vr ≡ SQ
    sequence true e = eqb-true q.vr SQ e
    sequence false e = absurd (n (m.is.1.1 (eqb-false q.vr SQ e)))
under size items depth holder least r q m n x = inr (x.0, (m.is.1, omega (arith, x.1, m.level)))

-- Row p is the innermost row that counts row i.
pub record Innermost (rows : List Row) (i p : ℕ) : Type 0 where
  pub is : (row_at rows i).parent ≡ suc p
  pub low : p < i
  pub high : i < next_row rows p
  pub least : (j : ℕ) → p < j → j < i → next_row rows j ≤ i
  pub under : Under (row_at rows i) (row_at rows p)

-- Row i is a member, and no row from `from` on counts it; or there is an innermost one that does.
pub record Outermost (rows : List Row) (kind : Kind) (depth holder from i : ℕ) : Type 0 where
  pub is : (row_at rows i).parent ≡ holder
  pub stands : Stands kind depth (row_at rows i)
  pub least : (j : ℕ) → from ≤ j → j < i → next_row rows j ≤ i

abbrev pub Placed : List Row → Kind → ℕ → ℕ → ℕ → ℕ → Type 0
Placed rows kind depth holder from i = Outermost rows kind depth holder from i ⊎ ((p : ℕ) × ((from ≤ p) × Innermost rows i p))

pub placed : {rows : List Row} {size : ℕ} {kind : Kind} {depth holder least from to : ℕ} → Members rows size kind depth holder least from to
    → (i : ℕ) → from ≤ i → i < to → Placed rows kind depth holder from i
placed (Members.end e) i p q = absurd (omega arith)
placed {rows} {size} (Members.member {kind} {depth} {holder} {least} {i = from} {to} f m b r) i p q =
    go (placed b i) (placed r i) (ltb from i) refl (ltb i (next_row rows from)) refl
  where
    nested : (j : ℕ) → from ≤ j → j < next_row rows from → next_row rows j ≤ next_row rows from
    nested j u v = by_first (ltb from j) refl
      where
        by_first : (t : Bool) → ltb from j ≡ t → next_row rows j ≤ next_row rows from
        by_first true e =
            let g = row-found b j (omega (arith, ltb-true from j e)) v in
            omega (arith, g.first.fit, g.within)
        by_first false e =
            let z : j ≡ from = omega (arith, ltb-false from j e) in
            omega (arith, ap (next_row rows) z)

    inner : from < i → i < next_row rows from → Placed rows (kind_inside kind) (depth_inside kind depth) (from + 1) (from + 1) i
        → Placed rows kind depth holder from i
    inner u v (inl o) =
        inr (
          from,
          (
            omega arith,
            record {
              is = o.is ∙ add-one from;
              low = u;
              high = v;
              least = λ j k l. o.least j (omega arith) l;
              under = under size kind depth holder least (row_at rows i) (row_at rows from) m (λ z. omega arith) o.stands;
            },
          ),
        )
    inner u v (inr (k, (l, x))) = inr (k, (omega arith, x))

    later : next_row rows from ≤ i → Placed rows kind depth holder (next_row rows from) i → Placed rows kind depth holder from i
    later u (inl o) = inl (record { is = o.is; stands = o.stands; least = λ j k l. before j k l (ltb j (next_row rows from)) refl })
      where
        before : (j : ℕ) → from ≤ j → j < i → (t : Bool) → ltb j (next_row rows from) ≡ t → next_row rows j ≤ i
        before j k l true e = omega (arith, nested j k (ltb-true j (next_row rows from) e))
        before j k l false e = o.least j (ltb-false j (next_row rows from) e) l
    later u (inr (k, (l, x))) = inr (k, (omega arith, x))

    go : (from + 1 ≤ i → i < next_row rows from → Placed rows (kind_inside kind) (depth_inside kind depth) (from + 1) (from + 1) i)
        → (next_row rows from ≤ i → i < to → Placed rows kind depth holder (next_row rows from) i)
        → (t : Bool) → ltb from i ≡ t → (u : Bool) → ltb i (next_row rows from) ≡ u → Placed rows kind depth holder from i
    go x y false d u e =
        let l : from ≡ i = omega (arith, ltb-false from i d) in
        subst (λ (j : ℕ). Placed rows kind depth holder from j) l
        (inl (record {
          is = m.held;
          stands = stands size kind depth holder least (row_at rows from) m;
          least = λ j v w. absurd (omega arith);
        }))
    go x y true d true e =
        let v : i < next_row rows from = ltb-true i (next_row rows from) e in
        let u : from < i = ltb-true from i d in
        inner u v (x (omega arith) v)
    go x y true d false e =
        let u : next_row rows from ≤ i = ltb-false i (next_row rows from) e in
        later u (y u q)

-- ---- Following parents

climb-root : (rows : List Row) (steps : ℕ) → climb rows steps 0 ≡ 0
unfolding climb
climb-root rows zero = refl
climb-root rows (suc steps) = climb-root rows steps

climb-on : (rows : List Row) (steps i n : ℕ) → (row_at rows i).parent ≡ n → climb rows (suc steps) (suc i) ≡ climb rows steps n
unfolding climb
climb-on rows steps i n e = ap (climb rows steps) e

-- The last step is from where the others led.
climb-last : (rows : List Row) (steps n : ℕ) → climb rows (suc steps) n ≡ parent_of rows (climb rows steps n)
unfolding climb
climb-last rows zero n = refl
climb-last rows (suc steps) n = climb-last rows steps (parent_of rows n)

-- So many steps are enough from a row.
abbrev Near : ℕ → Row → Type 0
Near steps r = ((r.vr ≡ 0) × (2 * r.depth ≤ steps)) ⊎ ((r.vr ≡ 0 → ⊥) × (2 * r.depth < steps))

nearer : (steps : ℕ) (r q : Row) → Under r q → Near (suc steps) r → Near steps q
nearer steps r q (inl (v, (w, d))) (inl (z, n)) = inr (λ e. omega (arith, sym w ∙ e), omega arith)
nearer steps r q (inl (v, (w, d))) (inr (z, n)) = absurd (z v)
nearer steps r q (inr (v, (w, d))) (inl (z, n)) = absurd (v z)
nearer steps r q (inr (v, (w, d))) (inr (z, n)) = inl (w, omega arith)

module _ (s : List ℕ) where
  place : (i : ℕ) → i < length (rows_of s) → Placed (rows_of s) elements 0 0 0 i
  place i h = placed (rows-members s) i (omega arith) h

  reaches : (steps i : ℕ) → i < length (rows_of s) → Near steps (row_at (rows_of s) i) → climb (rows_of s) steps (suc i) ≡ 0
  reaches zero i h (inl (z, n)) = by_place (place i h)
    where
      by_place : Placed (rows_of s) elements 0 0 0 i → climb (rows_of s) 0 (suc i) ≡ 0
      by_place (inl o) = absurd (o.stands.0 z)
      by_place (inr (p, (l, x))) = by-under x.under
        where
          by-under : Under (row_at (rows_of s) i) (row_at (rows_of s) p) → climb (rows_of s) 0 (suc i) ≡ 0
          by-under (inl (v, (w, d))) = absurd (omega arith)
          by-under (inr (v, (w, d))) = absurd (v z)
  reaches zero i h (inr (z, n)) = absurd (omega arith)
  reaches (suc steps) i h n = by_place (reaches steps) (place i h)
    where
      by_place : ((p : ℕ) → p < length (rows_of s) → Near steps (row_at (rows_of s) p) → climb (rows_of s) steps (suc p) ≡ 0)
          → Placed (rows_of s) elements 0 0 0 i → climb (rows_of s) (suc steps) (suc i) ≡ 0
      by_place k (inl o) = climb-on (rows_of s) steps i 0 o.is ∙ climb-root (rows_of s) steps
      by_place k (inr (p, (l, x))) =
          climb-on (rows_of s) steps i (suc p) x.is
          ∙ k p (omega (arith, x.low)) (nearer steps (row_at (rows_of s) i) (row_at (rows_of s) p) x.under n)

  near : (i : ℕ) → i < length (rows_of s) → Near 17 (row_at (rows_of s) i)
  near i h = by-vr (eqb (row_at (rows_of s) i).vr 0) refl
    where
      by-vr : (t : Bool) → eqb (row_at (rows_of s) i).vr 0 ≡ t → Near 17 (row_at (rows_of s) i)
      by-vr true e = inl (eqb-true (row_at (rows_of s) i).vr 0 e, omega (arith, row-deep s i h))
      by-vr false e = inr (eqb-false (row_at (rows_of s) i).vr 0 e, omega (arith, row-deep s i h))

  root_none : (steps j : ℕ) → climb (rows_of s) steps 0 ≡ suc j → ⊥
  root_none steps j q = omega (arith, sym (climb-root (rows_of s) steps) ∙ q)

  met-counts : (more i j : ℕ) → i < length (rows_of s) → climb (rows_of s) (suc more) (suc i) ≡ suc j → Counts (rows_of s) j i
  unfolding climb
  met-counts zero i j h e = by_place (place i h)
    where
      by_place : Placed (rows_of s) elements 0 0 0 i → Counts (rows_of s) j i
      by_place (inl o) = absurd (root_none 0 j (sym o.is ∙ e))
      by_place (inr (p, (l, x))) =
          let z : p ≡ j = omega (arith, sym x.is ∙ e) in
          subst (λ (k : ℕ). Counts (rows_of s) k i) z (x.low, x.high)
  met-counts (suc more) i j h e = by_place (met-counts more) (place i h)
    where
      by_place : ((p k : ℕ) → p < length (rows_of s) → climb (rows_of s) (suc more) (suc p) ≡ suc k → Counts (rows_of s) k p)
          → Placed (rows_of s) elements 0 0 0 i → Counts (rows_of s) j i
      by_place k (inl o) = absurd (root_none (suc more) j (sym (climb-on (rows_of s) (suc more) i 0 o.is) ∙ e))
      by_place k (inr (p, (l, x))) =
          let g : p < length (rows_of s) = omega (arith, x.low) in
          let c = k p j g (sym (climb-on (rows_of s) (suc more) i (suc p) x.is) ∙ e) in
          (omega (arith, c.0, x.low), omega (arith, x.high, row-nested s j (omega (arith, c.0)) p c.0 c.1))

  counts-met : (bound i j : ℕ) → i < bound → i < length (rows_of s) → Counts (rows_of s) j i → Meets (rows_of s) i j
  unfolding climb
  counts-met zero i j b h c = absurd (omega arith)
  counts-met (suc bound) i j b h c = by_place (counts-met bound) (place i h)
    where
      Before : Type 0
      Before = (p k : ℕ) → p < bound → p < length (rows_of s) → Counts (rows_of s) k p → Meets (rows_of s) p k

      on : (p : ℕ) → Innermost (rows_of s) i p → Meets (rows_of s) p j → Meets (rows_of s) i j
      on p x (more, e) = (suc more, climb-on (rows_of s) (suc more) i (suc p) x.is ∙ e)

      here : (p : ℕ) → Innermost (rows_of s) i p → p ≡ j → Meets (rows_of s) i j
      here p x z = (0, x.is ∙ ap suc z)

      compare : Before → (p : ℕ) → Innermost (rows_of s) i p → (t : Bool) → ltb j p ≡ t → (u : Bool) → ltb p j ≡ u → Meets (rows_of s) i j
      compare k p x true d u e =
          on p x (k p j (omega (arith, x.low)) (omega (arith, x.low)) (ltb-true j p d, omega (arith, x.low, c.1)))
      compare k p x false d true e = absurd (omega (arith, x.least j (ltb-true p j e) c.0, c.1))
      compare k p x false d false e = here p x (omega (arith, ltb-false j p d, ltb-false p j e))

      by_place : Before → Placed (rows_of s) elements 0 0 0 i → Meets (rows_of s) i j
      by_place k (inl o) = absurd (omega (arith, o.least j (omega arith) c.0, c.1))
      by_place k (inr (p, (l, x))) = compare k p x (ltb j p) refl (ltb p j) refl

  parent-before : (i : ℕ) → i < length (rows_of s) → (row_at (rows_of s) i).parent ≤ i
  parent-before i h = by_place (place i h)
    where
      by_place : Placed (rows_of s) elements 0 0 0 i → (row_at (rows_of s) i).parent ≤ i
      by_place (inl o) = omega (arith, o.is)
      by_place (inr (p, (l, x))) = omega (arith, x.is, x.low)

  met-within : (steps i j : ℕ) → i < length (rows_of s) → climb (rows_of s) steps (suc i) ≡ suc j → j < length (rows_of s)
  unfolding climb
  met-within zero i j h e = omega (arith, e)
  met-within (suc more) i j h e = omega (arith, (met-counts more i j h e).0)

  next-before : (steps i j : ℕ) → i < length (rows_of s) → climb (rows_of s) steps (suc i) ≡ suc j → climb (rows_of s) (suc steps) (suc i) ≤ j
  next-before steps i j h e =
      let q : climb (rows_of s) (suc steps) (suc i)
      ≡ (row_at (rows_of s) j).parent = climb-last (rows_of s) steps (suc i) ∙ ap (parent_of (rows_of s)) e in
      omega (arith, q, parent-before j (met-within steps i j h e))

-- ---- The theorem

pub parents : (s : List ℕ) → Parents s
parents s i h =
    record {
      counts = λ j m. met-counts s m.0 i j h m.1;
      meets = λ j c. counts-met s (suc i) i j (omega arith) h c;
      descends = λ steps j e. next-before s steps i j h e;
      ends = (17, (omega arith, reaches s 17 i h (near s i h)));
      item = λ j e v. item j e v (place s i h);
      element = λ j e n. element j e n (place s i h);
      root = λ e. root e (place s i h);
    }
  where
    Here : Type 0
    Here = Placed (rows_of s) elements 0 0 0 i

    item : (j : ℕ) → (row_at (rows_of s) i).parent ≡ suc j → (row_at (rows_of s) i).vr ≡ 0 → Here
        → ((row_at (rows_of s) j).vr ≡ SQ) × ((row_at (rows_of s) i).depth ≡ (row_at (rows_of s) j).depth + 1)
    item j e v (inl o) = absurd (omega (arith, o.is, e))
    item j e v (inr (p, (l, x))) = by-under
        (subst (λ (k : ℕ). Under (row_at (rows_of s) i) (row_at (rows_of s) k)) (omega (arith, x.is, e)) x.under)
      where
        by-under : Under (row_at (rows_of s) i) (row_at (rows_of s) j)
            → ((row_at (rows_of s) j).vr ≡ SQ) × ((row_at (rows_of s) i).depth ≡ (row_at (rows_of s) j).depth + 1)
        by-under (inl (w, y)) = y
        by-under (inr (w, y)) = absurd (w v)

    element : (j : ℕ) → (row_at (rows_of s) i).parent ≡ suc j → ((row_at (rows_of s) i).vr ≡ 0 → ⊥) → Here
        → ((row_at (rows_of s) j).vr ≡ 0) × ((row_at (rows_of s) i).depth ≡ (row_at (rows_of s) j).depth)
    element j e n (inl o) = absurd (omega (arith, o.is, e))
    element j e n (inr (p, (l, x))) = by-under
        (subst (λ (k : ℕ). Under (row_at (rows_of s) i) (row_at (rows_of s) k)) (omega (arith, x.is, e)) x.under)
      where
        by-under : Under (row_at (rows_of s) i) (row_at (rows_of s) j)
            → ((row_at (rows_of s) j).vr ≡ 0) × ((row_at (rows_of s) i).depth ≡ (row_at (rows_of s) j).depth)
        by-under (inl (w, y)) = absurd (n w)
        by-under (inr (w, y)) = y

    root : (row_at (rows_of s) i).parent ≡ 0 → Here → ((row_at (rows_of s) i).vr ≡ 0 → ⊥) × ((row_at (rows_of s) i).depth ≡ 0)
    root e (inl o) = o.stands
    root e (inr (p, (l, x))) = absurd (omega (arith, x.is, e))
