-- One level of reading, turn by turn: what a loop along the headers keeps, and what each way out of it comes to. The
-- same laws serve elements and items, since both loops have one shape.
use mathlib.Core.Path.{◌≡◌, refl, sym, ap, ◌∙◌, subst}
use Prim.Native.Nat.{ℕ, zero, suc, ◌+◌, ◌-◌, ◌*◌, ◌≤◌, ◌<◌}
use native.Mathlib.Omega.{arith}
use native.Mathlib.Numerals.{sub-one}
use native.Mathlib.Nat.{add-zero}
use borrow.Author.Tests.{eq-eqb, ne_eqb}
use mathlib.Core.List.{List, [], ◌∷◌, ◌++◌}
use lib.ListN.{length, length-append}
use lib.Seq.{sets}
use Rattle.dataset.specs.declared.Cursor.{Cursor}
use Rattle.dataset.specs.declared.Head.{Head}
use Rattle.dataset.specs.declared.Head.TheVariants as heads
use Rattle.dataset.specs.declared.Walk.{Walk}
use Rattle.dataset.specs.declared.Fault.{Fault}
use Rattle.dataset.specs.declared.Refusal.{Refusal}
use Rattle.dataset.specs.Fault.{refusal}
use Rattle.std.specs.Prelude.{Option, Result, Ok, Err}
use Rattle.basics.specs.Vr.{SQ}
use Rattle.dataset.specs.Header.{moved}
use Rattle.dataset.specs.declared.Row.{Row}
use Rattle.dataset.specs.Reading.{row, Run, done, refused, unfinished, on_head, on_run, level, turns_for, value_run}
use Rattle.dataset.specs.Answer.{flat, width}
use Rattle.dataset.specs.Internal.{Within, RunWithin, Walked, Replaced, LeafWalked, items_at, walk, told}
use Rattle.dataset.proofs.Buffer.{length-flat, flat_append, sets-append, sets_over, row-over}

-- ---- A header and a walk, once it is known which they are

pub found : {r : Result Head Fault} {x y : Head} → r ≡ Ok x → x ≡ y → r ≡ Ok y
found e f = e ∙ ap (λ (h : Head). Ok h) f

pub within : (c : Cursor) {h g : Result Head Fault} → h ≡ g → Within c h → Within c g
within c e w = subst (λ (x : Result Head Fault). Within c x) e w

pub walked : {o : Run} {c : Cursor} {first : ℕ} {buffer after : List ℕ} {r q : Result Walk Refusal} → r ≡ q → Walked o c first buffer after r
    → Walked o c first buffer after q
walked {o} {c} {first} {buffer} {after} e w = subst (λ (x : Result Walk Refusal). Walked o c first buffer after x) e w

pub of-run : {o p : Run} {c : Cursor} {first : ℕ} {buffer after : List ℕ} {r : Result Walk Refusal} → o ≡ p → Walked o c first buffer after r
    → Walked p c first buffer after r
of-run {o} {p} {c} {first} {buffer} {after} {r} e w = subst (λ (x : Run). Walked x c first buffer after r) e w

pub leaf_walked : (o : Run) (c : Cursor) (first : ℕ) (buffer after : List ℕ) {r q : Result (Option Walk) Refusal} → r ≡ q → LeafWalked o c first buffer after r
    → LeafWalked o c first buffer after q
leaf_walked o c first buffer after e w = subst (λ (x : Result (Option Walk) Refusal). LeafWalked o c first buffer after x) e w

-- A walk over what a given up walk left behind.
pub over : (o : Run) {c : Cursor} {first : ℕ} {buffer after last : List ℕ} {r : Result Walk Refusal} → length after ≡ length buffer
    → Replaced first o buffer after
    → Walked o c first after last r → Walked o c first buffer last r
over (done stop next rows) l p w = record { is = w.is; within = w.within; wrote = λ h. w.wrote (omega arith) ∙ p h }
over (refused fault offset) l p w = record { is = w.is; within = w.within; wrote = tt }
over unfinished l p w = absurd w.within

-- What stands at a cursor that was moved along its level.
pub stands : (c here : Cursor) (f : Cursor → Result Head Fault) {h g : Result Head Fault} → here ≡ moved c here.at → (h ≡ f here) × Within here h → h ≡ g
    → (f (moved c here.at) ≡ g) × Within (moved c here.at) g
stands c here f {h} {g} e p q = (sym (ap f e) ∙ sym p.0 ∙ q, subst (λ (x : Cursor). Within x g) e (within here q p.1))

pub moved-along : (c here r : Cursor) {next : ℕ} → here ≡ moved c here.at → r ≡ moved here next → (r ≡ moved c r.at) × (r.at ≡ next)
moved-along c here r {next} e p =
    let a : r.at ≡ next = ap (λ (x : Cursor). x.at) p in
    (p ∙ ap (λ (x : Cursor). moved x next) e ∙ ap (λ (x : ℕ). moved c x) (sym a), a)

-- What a walk that was done says of its run.
pub record Below (o : Run) (v : Cursor) (first : ℕ) (buffer after : List ℕ) (w : Walk) : Type 0 where
  pub rows : List Row
  pub is : o ≡ done w.stop w.next rows
  pub count : w.rows ≡ first + length rows
  pub within : RunWithin v (done w.stop w.next rows)
  pub wrote : width * w.rows ≤ length buffer → after ≡ sets buffer (width * first) (flat rows)

pub below : (o : Run) {v : Cursor} {first : ℕ} {buffer after : List ℕ} {w : Walk} → Walked o v first buffer after (Ok w)
    → Below o v first buffer after w
below (done stop next rows) {v} {first} {buffer} {after} {w} r =
    let t : told first (done stop next rows) ≡ Ok w = sym r.is in
    let e : walk stop next (first + length rows) ≡ w = cc in
    subst (λ (x : Walk). Below (done stop next rows) v first buffer after x) e
    (record { rows = rows; is = refl; count = refl; within = r.within; wrote = r.wrote })
below (refused fault offset) {w} r =
    let t : Ok w ≡ Err (refusal fault offset) = r.is in
    let z : ◌≡◌ {A = ℕ} 0 1 = cc in
    absurd (omega arith)
below unfinished r = absurd r.within

-- What a walk that was refused says of its run.
pub stopped : (o : Run) {v : Cursor} {first : ℕ} {buffer after : List ℕ} {r : Refusal} → Walked o v first buffer after (Err r)
    → (o ≡ refused r.fault r.offset) × RunWithin v (refused r.fault r.offset)
stopped (done stop next rows) {first} {r} w =
    let t : Err r ≡ Ok (walk stop next (first + length rows)) = w.is in
    let z : ◌≡◌ {A = ℕ} 0 1 = cc in
    absurd (omega arith)
stopped (refused fault offset) {v} {first} {buffer} {after} {r} w =
    let t : Err (refusal fault offset) ≡ Err r = sym w.is in
    let e : refusal fault offset ≡ r = cc in
    subst (λ (x : Refusal). (refused fault offset ≡ refused x.fault x.offset) × RunWithin v (refused x.fault x.offset)) e (refl, w.within)
stopped unfinished w = absurd w.within

-- ---- One turn

module _ (head : ℕ → ℕ → Result Head Fault) (inside : ℕ → ℕ → Cursor → Run) (depth first turns at least : ℕ) (rows : List Row) where
  pub level-refused : (fault : Fault) → head at least ≡ Err fault
      → level head inside depth first (suc turns) at least rows ≡ refused fault at
  unfolding level
  level-refused fault e = rw e

  pub level-end : (tag vr : ℕ) (next : Cursor) → head at least ≡ Ok (heads.End tag vr next)
      → level head inside depth first (suc turns) at least rows ≡ done at next.at rows
  unfolding level
  level-end tag vr next e = rw e

  pub level-stop : (tag vr : ℕ) (fault : Fault) (offset : ℕ) (v : Cursor) → head at least ≡ Ok (heads.Header tag vr v)
      → inside (first + length rows + 1) vr v ≡ refused fault offset
      → level head inside depth first (suc turns) at least rows ≡ refused fault offset
  unfolding level
  level-stop tag vr fault offset v e f = rw (e, f)

  pub level-on : (tag vr stop next : ℕ) (v : Cursor) (below : List Row) → head at least ≡ Ok (heads.Header tag vr v)
      → inside (first + length rows + 1) vr v ≡ done stop next below
      → level head inside depth first (suc turns) at least rows
      ≡ level head inside depth first turns next (tag + 1) (rows ++ (row tag vr depth v.at (stop - v.at) (length below) first ∷ below))
  unfolding level
  level-on tag vr stop next v below e f = rw (e, f)

-- A level that is done has the rows so far among its rows.
pub level-grows : (head : ℕ → ℕ → Result Head Fault) (inside : ℕ → ℕ → Cursor → Run) (depth first turns at least : ℕ) (rows : List Row) (stop next : ℕ)
    (all : List Row)
    → level head inside depth first turns at least rows ≡ done stop next all → length rows ≤ length all
unfolding level
level-grows head inside depth first zero at least rows stop next all e =
    let z : ◌≡◌ {A = ℕ} 0 1 = cc in
    absurd (omega arith)
level-grows head inside depth first (suc turns) at least rows stop next all e =
    by-head (head at least) (λ next' tag below. level-grows head inside depth first turns next' (tag + 1) (rows ++ below) stop next all) e
  where
    Go : Type 0
    Go = (next' tag : ℕ) (below : List Row)
        → level head inside depth first turns next' (tag + 1) (rows ++ below) ≡ done stop next all → length (rows ++ below) ≤ length all

    by-run : (r : Run) (tag vr : ℕ) (v : Cursor) → Go
        → on_run r (λ stop next below. level head inside depth first turns next (tag + 1)
        (rows ++ (row tag vr depth v.at (stop - v.at) (length below) first ∷ below))) ≡ done stop next all
        → length rows ≤ length all
    by-run (refused fault offset) tag vr v go q =
        let z : ◌≡◌ {A = ℕ} 0 1 = cc in
        absurd (omega arith)
    by-run unfinished tag vr v go q =
        let z : ◌≡◌ {A = ℕ} 0 1 = cc in
        absurd (omega arith)
    by-run (done stop' next' below) tag vr v go q =
        let new : List Row = row tag vr depth v.at (stop' - v.at) (length below) first ∷ below in
        omega (arith, go next' tag new q, length-append rows new)

    by-head : (h : Result Head Fault) → Go
        → on_head h (λ fault. refused fault at) (λ next. done at next rows)
        (λ tag vr value. on_run (inside (first + length rows + 1) vr value) (λ stop next below. level head inside depth first turns next
        (tag + 1) (rows ++ (row tag vr depth value.at (stop - value.at) (length below) first ∷ below))))
        ≡ done stop next all
        → length rows ≤ length all
    by-head (Err fault) go q =
        let z : ◌≡◌ {A = ℕ} 0 1 = cc in
        absurd (omega arith)
    by-head (Ok (heads.End tag vr next')) go q =
        let f : rows ≡ all = cc in
        omega (arith, ap (λ (l : List Row). length l) f)
    by-head (Ok (heads.Header tag vr v)) go q = by-run (inside (first + length rows + 1) vr v) tag vr v go q

-- ---- The loop: at `at`, with the rows so far, what is left to read comes to what the whole level does

pub record Inv (head : ℕ → ℕ → Result Head Fault) (inside : ℕ → ℕ → Cursor → Run) (depth : ℕ) (o : Run) (start end first : ℕ) (buffer₀ buffer : List ℕ)
    (at n least : ℕ) : Type 0 where
  pub rows : List Row
  pub turns : ℕ
  pub rest : level head inside depth first turns at least rows ≡ o
  pub enough : end < at + turns
  pub low : start ≤ at
  pub high : at ≤ end
  pub count : n ≡ first + length rows
  pub few : start + 8 * length rows ≤ at
  pub kept : length buffer ≡ length buffer₀
  pub wrote : width * n ≤ length buffer₀ → buffer ≡ sets buffer₀ (width * first) (flat rows)

module _ (head : ℕ → ℕ → Result Head Fault) (inside : ℕ → ℕ → Cursor → Run) (depth : ℕ) (o : Run) (c : Cursor) (first : ℕ) (buffer₀ : List ℕ) where
  abbrev pub Here : List ℕ → ℕ → ℕ → ℕ → Type 0
  Here buffer at n least = Inv head inside depth o c.at c.end first buffer₀ buffer at n least

  -- The same of the cursor that the loop carries.
  abbrev pub Along : List ℕ → Cursor → ℕ → ℕ → Type 0
  Along buffer here n least = (here ≡ moved c here.at) × Here buffer here.at n least

  pub along : {buffer : List ℕ} (here r : Cursor) {next n least : ℕ} → here ≡ moved c here.at → r ≡ moved here next
      → Here buffer next n least → Along buffer r n least
  along {buffer} here r {next} {n} {least} e p i =
      let m = moved-along c here r e p in
      (m.0, subst (λ (x : ℕ). Here buffer x n least) (sym m.1) i)

  -- There is a turn left.
  turn : (at least : ℕ) (rows : List Row) (turns : ℕ) → at ≤ c.end → level head inside depth first turns at least rows ≡ o
      → c.end < at + turns
      → (t : ℕ) × ((level head inside depth first (suc t) at least rows ≡ o) × (c.end < at + suc t))
  turn at least rows zero h e lt = absurd (omega arith)
  turn at least rows (suc t) h e lt = (t, (e, lt))

  pub started : (s : List ℕ) → c.at ≤ c.end → c.end ≤ length s → level head inside depth first (turns_for s) c.at 0 [] ≡ o
      → Here buffer₀ c.at first 0
  started s h k e =
      record {
        rows = [];
        turns = turns_for s;
        rest = e;
        enough = omega arith;
        low = omega arith;
        high = h;
        count = omega arith;
        few = omega arith;
        kept = refl;
        wrote = λ _. refl;
      }

  module _ {buffer : List ℕ} {at n least : ℕ} (i : Here buffer at n least) where
    pub ended-run : {tag vr : ℕ} {next : Cursor} → head at least ≡ Ok (heads.End tag vr next) → done at next.at i.rows ≡ o
    ended-run {tag} {vr} {next} e =
        let m = turn at least i.rows i.turns i.high i.rest i.enough in
        sym (level-end head inside depth first m.0 at least i.rows tag vr next e) ∙ m.1.0

    pub ended : {tag vr : ℕ} {next : Cursor} → head at least ≡ Ok (heads.End tag vr next) → at ≤ next.at → next.at ≤ c.end
        → Walked o c first buffer₀ buffer (Ok (walk at next.at n))
    ended {tag} {vr} {next} e p q =
        let d : done at next.at i.rows ≡ o = ended-run e in
        subst (λ (x : Run). Walked x c first buffer₀ buffer (Ok (walk at next.at n))) d
        (record {
          is = ap (λ (k : ℕ). Ok (walk at next.at k)) i.count;
          within = omega (arith, i.low, i.few);
          wrote = λ h. i.wrote (omega (arith, i.count));
        })

    pub refuses : {fault : Fault} → head at least ≡ Err fault → Walked o c first buffer₀ buffer (Err (refusal fault at))
    refuses {fault} e =
        let m = turn at least i.rows i.turns i.high i.rest i.enough in
        let d : refused fault at ≡ o = sym (level-refused head inside depth first m.0 at least i.rows fault e) ∙ m.1.0 in
        subst (λ (x : Run). Walked x c first buffer₀ buffer (Err (refusal fault at))) d
        (record { is = refl; within = (i.low, i.high); wrote = tt })

    -- The walk is given up here.
    pub given-up : Replaced first o buffer₀ buffer
    given-up = by-run o i.rest
      where
        by-run : (x : Run) → level head inside depth first i.turns at least i.rows ≡ x → Replaced first x buffer₀ buffer
        by-run (refused fault offset) e = tt
        by-run unfinished e = tt
        by-run (done stop next all) e = λ h.
            let g : length i.rows ≤ length all = level-grows head inside depth first i.turns at least i.rows stop next all e in
            ap (λ (b : List ℕ). sets b (width * first) (flat all)) (i.wrote (omega (arith, i.count)))
            ∙ sets_over (flat i.rows) (flat all) buffer₀ (width * first) (omega (arith, length-flat i.rows, length-flat all))

    -- The next turn, and the rows that it has more.
    pub record Next (tag vr : ℕ) (v : Cursor) (after : List ℕ) (w : Walk) : Type 0 where
      pub inner : List Row
      pub is : inside (n + 1) vr v ≡ done w.stop w.next inner
      pub here : Here after w.next w.rows (tag + 1)
      pub more : here.rows ≡ i.rows ++ (row tag vr depth v.at (w.stop - v.at) (length inner) first ∷ inner)

    module _ {tag vr : ℕ} {v : Cursor} (e : head at least ≡ Ok (heads.Header tag vr v))
        (w : Within (record { at = at; end = c.end; delimited = c.delimited }) (Ok (heads.Header tag vr v))) {buffer₁ : List ℕ} where
      pub fails : {r : Refusal} → Walked (inside (n + 1) vr v) v (n + 1) buffer buffer₁ (Err r)
          → Walked o c first buffer₀ buffer₁ (Err r)
      fails {r} u =
          let k = stopped (inside (n + 1) vr v) u in
          let m = turn at least i.rows i.turns i.high i.rest i.enough in
          let d : refused r.fault r.offset ≡ o = sym (level-stop head inside depth first m.0 at least i.rows tag vr r.fault r.offset v e
          (ap (λ (x : ℕ). inside x vr v) (omega (arith, i.count)) ∙ k.0)) ∙ m.1.0 in
          subst (λ (x : Run). Walked x c first buffer₀ buffer₁ (Err r)) d
          (record { is = refl; within = omega (arith, k.1, i.low, w); wrote = tt })

      pub onward : {f : Walk} {buffer₂ : List ℕ} (descendants : ℕ) → length buffer₁ ≡ length buffer → length buffer₂ ≡ length buffer₁
          → Walked (inside (n + 1) vr v) v (n + 1) buffer buffer₁ (Ok f) → n + 1 + descendants ≡ f.rows
          → (width * n + width ≤ length buffer₁
          → buffer₂ ≡ sets buffer₁ (width * n) (flat (row tag vr depth v.at (f.stop - v.at) descendants first ∷ [])))
          → Next tag vr v buffer₂ f
      onward {f} {buffer₂} descendants l₁ l₂ u m put =
          let b = below (inside (n + 1) vr v) u in
          let k = turn at least i.rows i.turns i.high i.rest i.enough in
          let r : Row = row tag vr depth v.at (f.stop - v.at) (length b.rows) first in
          let size : descendants ≡ length b.rows = omega (arith, b.count) in
          record {
            inner = b.rows;
            is = b.is;
            here =
                record {
                  rows = i.rows ++ (r ∷ b.rows);
                  turns = k.0;
                  rest = sym (level-on head inside depth first k.0 at least i.rows tag vr f.stop f.next v b.rows e
                      (ap (λ (x : ℕ). inside x vr v) (omega (arith, i.count)) ∙ b.is)) ∙ k.1.0;
                  enough = omega (arith, k.1.1, b.within, w);
                  low = omega (arith, i.low, b.within, w);
                  high = omega (arith, b.within, w);
                  count = simp length-append (omega (arith, i.count, b.count));
                  few = simp length-append (omega (arith, i.few, b.within, w));
                  kept = l₂ ∙ l₁ ∙ i.kept;
                  wrote = λ h.
                      let e₀ : buffer ≡ sets buffer₀ (width * first) (flat i.rows) = i.wrote (omega (arith, b.count)) in
                      let e₁ : buffer₁ ≡ sets buffer (width * (n + 1)) (flat b.rows) = b.wrote (omega (arith, i.kept)) in
                      let e₂ : buffer₂
                      ≡ sets buffer₁ (width * n) (flat (row tag vr depth v.at (f.stop - v.at) descendants first ∷ [])) = put
                      (omega (arith, i.kept, b.count)) in
                      let g : width * n ≡ width * first + length (flat i.rows) = omega (arith, length-flat i.rows, i.count) in
                      e₂
                      ∙ ap (λ (x : ℕ). sets buffer₁ (width * n) (flat (row tag vr depth v.at (f.stop - v.at) x first ∷ []))) size
                      ∙ ap (λ (x : List ℕ). sets x (width * n) (flat (r ∷ []))) e₁
                      ∙ row-over buffer n r b.rows
                      ∙ ap (λ (x : List ℕ). sets x (width * n) (flat (r ∷ b.rows))) e₀
                      ∙ ap (λ (x : ℕ). sets (sets buffer₀ (width * first) (flat i.rows)) x (flat (r ∷ b.rows))) g
                      ∙ sym (sets-append (flat i.rows) buffer₀ (width * first) (flat (r ∷ b.rows)))
                      ∙ ap (λ (x : List ℕ). sets buffer₀ (width * first) x) (sym (flat_append i.rows (r ∷ b.rows)));
                };
            more = refl;
          }

      pub again : {f : Walk} {buffer₂ : List ℕ} (descendants : ℕ) → length buffer₁ ≡ length buffer → length buffer₂ ≡ length buffer₁
          → Walked (inside (n + 1) vr v) v (n + 1) buffer buffer₁ (Ok f) → n + 1 + descendants ≡ f.rows
          → (width * n + width ≤ length buffer₁
          → buffer₂ ≡ sets buffer₁ (width * n) (flat (row tag vr depth v.at (f.stop - v.at) descendants first ∷ [])))
          → Here buffer₂ f.next f.rows (tag + 1)
      again descendants l₁ l₂ u m put = (onward descendants l₁ l₂ u m put).here

-- ---- The value of an element

pub value-plain : (levels : ℕ) (s : List ℕ) (first vr : ℕ) (v : Cursor) → (vr ≡ SQ → ⊥)
    → value_run levels s first vr v ≡ done v.end v.end []
unfolding value_run
value-plain zero s first vr v e = refl
value-plain (suc levels) s first vr v e = rw (ne_eqb vr SQ e)

pub value-items : (levels : ℕ) (s : List ℕ) (first vr : ℕ) (v : Cursor) → (levels ≡ 0 → ⊥) → vr ≡ SQ
    → value_run levels s first vr v ≡ items_at (levels - 1) s first v
unfolding value_run
value-items zero s first vr v n e = absurd (n refl)
value-items (suc levels) s first vr v n e = rw (eq-eqb vr SQ e, sub-one (suc levels))

-- A value without rows.
pub leaf : (o : Run) (v : Cursor) (first : ℕ) (buffer : List ℕ) → v.at ≤ v.end → o ≡ done v.end v.end []
    → Walked o v first buffer buffer (Ok (walk v.end v.end first))
leaf o v first buffer h e =
    subst (λ (x : Run). Walked x v first buffer buffer (Ok (walk v.end v.end first))) (sym e)
    (record { is = ap (λ (k : ℕ). Ok (walk v.end v.end k)) (sym (add-zero first)); within = omega arith; wrote = λ _. refl })
