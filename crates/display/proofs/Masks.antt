-- Every frame of an accepted object has a mask: each of rules 31 to 37 says of an element just what the step that reads it
-- needs, so that no read of steps 2 to 4 lacks its answer.
use Rattle.std.specs.Prelude.{Option, Some, None}
use mathlib.Core.Path.{◌≡◌, refl, sym, ◌∙◌, ap, subst}
use mathlib.Core.Bool.{Bool, true, false, cond, not, ◌&&◌, ◌||◌}
use mathlib.Core.List.{List, [], ◌∷◌}
use Prim.Native.Nat.{ℕ, zero, suc, ◌+◌, ◌-◌, ◌%◌, ◌≤◌}
use package.native.Mathlib.Omega.{arith}
use lib.ListN.{length, drop}
use lib.Dec.{eqb, leb}
use borrow.Author.Tests.{eq-eqb, eqb-true, leb-true}
use Rattle.basics.specs.Vr.{SQ, SS, US, FL}
use Rattle.value.specs.declared.Signed.{Signed}
use Rattle.value.specs.declared.Signed.TheVariants as signed
use Rattle.value.specs.Text.{ascii}
use Rattle.value.specs.Number.{us_values, ss_of, is_number}
use Rattle.value.specs.Internal.{SizeBelow}
use Rattle.shift.specs.declared.Shift.{Shift}
use Rattle.shift.specs.declared.Shift.TheVariants as shift
use Rattle.shift.specs.declared.Moves.{Moves}
use Rattle.shift.specs.Shift.{largest_move, is_short, item_shift, frame_shift, moves_of, is_shift_of, is_frame_shift}
use Rattle.shift.specs.Internal.{too_far}
use Rattle.shift.proofs.Laws.{moves_both, as-item, shift-length, item-is, frame_is}
use Rattle.basics.proofs.Tests.{false-is-true, and_both, both}
use Rattle.node.specs.Nodes.{Node, node_at, next_node, root, inside}
use Rattle.node.proofs.Tests.{holds-is, holds_of}
use Rattle.node.specs.Find.{holds, if_present, and_then, find, find_vr, of_vr, filled}
use Rattle.node.proofs.Walks.{members-end}
use Rattle.basics.specs.Tags
use Rattle.element.specs.Elements as elements
use Rattle.element.specs.Elements.{value_at, first, inside_of, items_in, has_pairs, every}
use Rattle.element.specs.Frames.{frames_of, frame_items, frame_item, shared_item, group_of, mask_items, id_in, operation_is}
use Rattle.rules.specs.Frame.{at_frame, has_id, unique_ids, is_shift_item, is_shift_group, item37, rule37}
use Rattle.rules.specs.Mask.{is_operation, is_mask, rule31, is_range, range_fits, rule32, all_frames, are_mask_frames, average_fits, averages_fit}
use Rattle.rules.specs.Mask.{rule33, is_offset, offset_fits, rule34, is_shift_at, shift_fits, rule35, has_shift_group, any_shift, masks_have_ids}
use Rattle.rules.specs.Mask.{rule36}
use Rattle.conformance.specs.declared.Finding.TheVariants.{Accepted}
use Rattle.conformance.specs.Judging.{finding_of}
use Rattle.steps.specs.Given.{need, check, then}
use Rattle.steps.specs.Steps.{is_in_pairs, range_has, range_holds, first_holding, on_mask, applying_to, average_frames, offset_at}
use Rattle.steps.specs.Steps.{offset_of, less, tid_frame, naming, own_in, item_shift_at, shift_from, shift_for, moves_for, native, masked}
use Rattle.steps.specs.Steps.{on_tid, mask_by, mask_on, mask_for}
use Rattle.steps.proofs.Given.{checked}
use Rattle.display.specs.Internal.{AllWithin, Short, Gives}
use Rattle.display.proofs.Rules.{at-items, group-is, r31, r32, r33, r34, r35, r36, r37}

-- ---- Tests

true-either : (a b : Bool) → a ≡ true → (a || b) ≡ true
true-either true b e = refl
true-either false b e = absurd (false-is-true e)

true-or : (a b : Bool) → b ≡ true → (a || b) ≡ true
true-or true b e = refl
true-or false b e = e

where-true : (t a : Bool) → t ≡ true → cond t a true ≡ true → a ≡ true
where-true true a p e = e
where-true false a p e = absurd (false-is-true p)

-- ---- Members

pub data Among (j : ℕ) : List ℕ → Type 0 where
  here : {l : List ℕ} → Among j (j ∷ l)
  there : {k : ℕ} {l : List ℕ} → Among j l → Among j (k ∷ l)

pub every-at : (p : ℕ → Bool) {j : ℕ} {l : List ℕ} → Among j l → every p l ≡ true → p j ≡ true
unfolding every
every-at p {j} (here) e = (and_both (p j) _ e).0
every-at p (there {k} m) e = every-at p m (and_both (p k) _ e).1

some_at : (p : ℕ → Bool) {j : ℕ} {l : List ℕ} → Among j l → p j ≡ true → elements.some p l ≡ true
unfolding elements.some
some_at p {j} (here) e = true-either (p j) _ e
some_at p (there {k} m) e = true-or (p k) _ (some_at p m e)

first-among : (k i : ℕ) (l : List ℕ) → first (drop k l) ≡ Some i → Among i l
first-among zero i [] e = let z : ◌≡◌ {A = ℕ} 0 1 = cc in absurd (omega arith)
first-among zero i (x ∷ l) e =
    let q : x ≡ i = cc in
    subst (λ (y : ℕ). Among i (y ∷ l)) (sym q) here
first-among (suc k) i [] e = let z : ◌≡◌ {A = ℕ} 0 1 = cc in absurd (omega arith)
first-among (suc k) i (x ∷ l) e = there (first-among k i l e)

of-vr : (ns : List Node) (vr i : ℕ) → eqb (node_at ns i).vr vr ≡ true → of_vr ns vr i ≡ Some i
unfolding of_vr
of-vr ns vr i e = rw e

-- ---- Step 2: a range that fits is read, so that the first item that applies is found

pub data Applies (l : List ℕ) (a : Option (Option ℕ)) : Type 0 where
  nothing : a ≡ Some None → Applies l a
  item : (j : ℕ) → Among j l → a ≡ Some (Some j) → Applies l a

module _ (ns : List Node) (f n : ℕ) where
  range-has : (o : Option ℕ) → if_present o (is_range ns n) ≡ true → (h : Bool) × (range_has ns f o ≡ Some h)
  unfolding is_range
  range-has None e = (true, refl)
  range-has (Some r) e =
      (is_in_pairs f (us_values (value_at ns r)), checked _ _ (and_both (has_pairs ns r) _ e).0)

  range-holds : (j : ℕ) → range_fits ns n j ≡ true → (h : Bool) × (range_holds ns f j ≡ Some h)
  unfolding range_fits range_holds
  range-holds j e = range-has (find ns Tags.ApplicableFrameRange (inside ns j)) e

  first_next : (j : ℕ) (l : List ℕ) (h : Bool) → range_holds ns f j ≡ Some h → Applies l (first_holding ns f l)
      → Applies (j ∷ l) (first_holding ns f (j ∷ l))
  unfolding first_holding
  first_next j l true q r = item j here (rw q)
  first_next j l false q (nothing e) = nothing (rw q e)
  first_next j l false q (item k m e) = item k (there m) (rw q e)

  first-applies : (l : List ℕ) → every (range_fits ns n) l ≡ true → Applies l (first_holding ns f l)
  unfolding every first_holding
  first-applies [] e = nothing refl
  first-applies (j ∷ l) e =
      let a = and_both (range_fits ns n j) _ e in
      let h = range-holds j a.0 in
      first_next j l h.0 h.1 (first-applies l a.1)

  on-mask : (o : Option ℕ) → if_present o (is_mask ns) ≡ true → every (range_fits ns n) (inside_of ns (and_then o (of_vr ns SQ))) ≡ true
      → Applies (inside_of ns (and_then o (of_vr ns SQ))) (on_mask ns f o)
  unfolding is_mask
  on-mask None e w = nothing refl
  on-mask (Some m) e w =
      let v : eqb (node_at ns m).vr SQ ≡ true = (and_both (eqb (node_at ns m).vr SQ) _ e).0 in
      let q : of_vr ns SQ m ≡ Some m = of-vr ns SQ m v in
      let w' : every (range_fits ns n) (inside ns m) ≡ true = rw q at w in
      rw (q, v) (first-applies (inside ns m) w')

  pub applies : rule31 ns ≡ true → every (range_fits ns n) (mask_items ns) ≡ true → Applies (mask_items ns) (applying_to ns f)
  unfolding rule31 mask_items items_in applying_to
  applies e w = on-mask (find ns Tags.MaskSubtractionSequence (root ns)) e w

operations-in : (ns : List Node) (o : Option ℕ) → if_present o (is_mask ns) ≡ true
    → every (is_operation ns) (inside_of ns (and_then o (of_vr ns SQ))) ≡ true
unfolding is_mask every
operations-in ns None e = refl
operations-in ns (Some m) e =
    let a = and_both (eqb (node_at ns m).vr SQ) _ e in
    let b = and_both (leb 1 (length (inside ns m)) && leb (length (inside ns m)) 16) _ a.1 in
    let q : of_vr ns SQ m ≡ Some m = of-vr ns SQ m a.0 in
    rw q b.1

operations : (ns : List Node) → rule31 ns ≡ true → every (is_operation ns) (mask_items ns) ≡ true
unfolding rule31 mask_items items_in
operations ns e = operations-in ns (find ns Tags.MaskSubtractionSequence (root ns)) e

-- ---- Step 4: two moves of at most the largest

-- A shift that a step gives, of which `fit` holds.
abbrev pub GivesShift : (Shift → Bool) → Option Shift → Type 0
GivesShift fit o = (s : Shift) × ((o ≡ Some s) × (fit s ≡ true))

short-number : (w : Option Signed) → is_short w ≡ true → is_number w ≡ true
short-number (Some (signed.Plus k)) e = refl
short-number (Some (signed.Minus k)) e = refl
short-number None e = e

short-size : (w : Option Signed) → is_short w ≡ true → SizeBelow too_far w
short-size (Some (signed.Plus k)) e = omega (arith, leb-true k largest_move e)
short-size (Some (signed.Minus k)) e = omega (arith, leb-true k largest_move e)
short-size None e = tt

moves : (ns : List Node) (f j : ℕ) → GivesShift is_shift_of (shift_for ns f j) → (m : Moves) × ((moves_for ns f j ≡ Some m) × Short m)
unfolding moves_for
moves ns f j (s, (q, e)) =
    let b = moves_both s e in
    let v : is_number (moves_of s).vertical ≡ true = short-number (moves_of s).vertical b.0 in
    let h : is_number (moves_of s).horizontal ≡ true = short-number (moves_of s).horizontal b.1 in (
      moves_of s,
      (
        rw q (checked _ _ (both v h)),
        record {
          vertical = v;
          horizontal = h;
          sizes = record { vertical = short-size (moves_of s).vertical b.0; horizontal = short-size (moves_of s).horizontal b.1 };
        },
      ),
    )

pub data Named (l : List ℕ) (o : Option (Option ℕ)) : Type 0 where
  unnamed : o ≡ Some None → Named l o
  named : (k : ℕ) → Among k l → o ≡ Some (Some k) → Named l o

module _ (ns : List Node) where
  item-shift : (o : Option ℕ) → if_present o (is_shift_at ns) ≡ true → GivesShift is_shift_of (item_shift_at ns o)
  unfolding is_shift_at is_shift_of moves_of
  item-shift None e = (shift.None, (refl, refl))
  item-shift (Some k) e =
      let a = and_both (eqb (node_at ns k).vr FL) _ e in (
        item_shift (value_at ns k),
        (checked _ _ (both a.0 (eq-eqb _ _ (shift-length (value_at ns k) a.1))), item-is (value_at ns k) a.1),
      )

  frame_at : (o : Option ℕ) → holds o (λ x. is_frame_shift (value_at ns x)) ≡ true
      → GivesShift is_shift_of (need o (λ x. check (eqb (length (value_at ns x)) 8) (Some (frame_shift (value_at ns x)))))
  frame_at None e = absurd (false-is-true e)
  frame_at (Some x) e =
      let v = value_at ns x in
      let a = sym (as-item v) ∙ e in
      (frame_shift v, (checked _ _ (eq-eqb _ _ (shift-length v a)), frame_is v a))

  frame-shift : (k : ℕ) → is_shift_item ns k ≡ true → (j : ℕ) → GivesShift is_shift_of (shift_from ns j (Some k))
  unfolding is_shift_item
  frame-shift k e j = frame_at (find_vr ns Tags.MaskSubPixelShift FL (inside ns k)) (and_both (has_id ns k) _ e).1

  pub id-is : (j : ℕ) → has_id ns j ≡ true → (x : ℕ) × (id_in ns j ≡ Some x)
  unfolding has_id
  id-is j e =
      let x = holds-is (id_in ns j) _ e in
      (x.0, x.1.0)

  name-next : (id k : ℕ) (l : List ℕ) (x : ℕ) → id_in ns k ≡ Some x → Named l (naming ns id l) → (t : Bool) → eqb x id ≡ t
      → Named (k ∷ l) (naming ns id (k ∷ l))
  unfolding naming
  name-next id k l x q r true t = named k here (rw (q, t))
  name-next id k l x q (unnamed e) false t = unnamed (rw (q, t) e)
  name-next id k l x q (named i m e) false t = named i (there m) (rw (q, t) e)

  pub names : (id : ℕ) (l : List ℕ) → every (is_shift_item ns) l ≡ true → Named l (naming ns id l)
  unfolding every naming is_shift_item
  names id [] e = unnamed refl
  names id (k ∷ l) e =
      let a = and_both (is_shift_item ns k) _ e in
      let b = and_both (has_id ns k) _ a.0 in
      let x = id-is k b.0 in
      name-next id k l x.0 x.1 (names id l a.1) (eqb x.0 id) refl

  -- A group that is there and fits is filled, so that rule 36 asks every mask item for its ID.
  group-filled : (g : ℕ) → is_shift_group ns g ≡ true → (eqb (node_at ns g).vr SQ ≡ true) × (filled ns g ≡ true)
  unfolding is_shift_group filled
  group-filled g e = (a.0, rw a.0 (go (eqb (node_at ns g).descendants 0) refl))
    where
      a : (eqb (node_at ns g).vr SQ ≡ true)
          × ((leb 1 (length (inside ns g)) && (every (is_shift_item ns) (inside ns g) && unique_ids ns (inside ns g))) ≡ true)
      a = and_both (eqb (node_at ns g).vr SQ) _ e

      go : (t : Bool) → eqb (node_at ns g).descendants 0 ≡ t → not t ≡ true
      go false h = refl
      go true h =
          let z : (node_at ns g).descendants ≡ 0 = eqb-true _ _ h in
          let y : inside ns g ≡ [] = members-end ns (g + 1) (next_node ns g) (omega arith) in
          let l : 1 ≤ length (inside ns g) = leb-true _ _ (and_both (leb 1 (length (inside ns g))) _ a.1).0 in
          absurd (omega (arith, ap length y))

  has-group : (s i g : ℕ) → group_of ns Tags.FramePixelShiftSequence s i ≡ Some g → is_shift_group ns g ≡ true → has_shift_group ns s i ≡ true
  unfolding has_shift_group
  has-group s i g q e =
      let a = group-filled g e in
      rw (q, of-vr ns SQ g a.0) a.1

  item-first : (f i : ℕ) → frame_item ns f ≡ Some i → first (drop (f - 1) (frame_items ns)) ≡ Some i
  item-first f i = go (leb 1 f)
    where
      go : (t : Bool) → cond t (first (drop (f - 1) (frame_items ns))) None ≡ Some i → first (drop (f - 1) (frame_items ns)) ≡ Some i
      go true e = e
      go false e = let z : ◌≡◌ {A = ℕ} 0 1 = cc in absurd (omega arith)

  pub shift-ids : rule36 ns ≡ true → (f s i g : ℕ) → shared_item ns ≡ Some s → frame_item ns f ≡ Some i
      → group_of ns Tags.FramePixelShiftSequence s i ≡ Some g
      → is_shift_group ns g ≡ true → every (has_id ns) (mask_items ns) ≡ true
  unfolding rule36 any_shift masks_have_ids
  shift-ids r f s i g p q h e =
      let t : any_shift ns s
      ≡ true = some_at (has_shift_group ns s) (first-among (f - 1) i (frame_items ns) (item-first f i q)) (has-group s i g h e) in
      let u : cond (any_shift ns s) (masks_have_ids ns) true ≡ true = holds_of (shared_item ns) _ s p r in
      (and_both (every (has_id ns) (mask_items ns)) _ (where-true _ _ t u)).0

  -- A test of a group with at least one item, each of which passes p.
  pub group-each : (g : ℕ) (p : ℕ → Bool) (last : Bool)
      → (eqb (node_at ns g).vr SQ && (leb 1 (length (inside ns g)) && (every p (inside ns g) && last))) ≡ true
      → every p (inside ns g) ≡ true
  group-each g p last e =
      let a = and_both (eqb (node_at ns g).vr SQ) _ e in
      let b = and_both (leb 1 (length (inside ns g))) _ a.1 in
      (and_both (every p (inside ns g)) _ b.1).0

  group-items : (g : ℕ) → is_shift_group ns g ≡ true → every (is_shift_item ns) (inside ns g) ≡ true
  unfolding is_shift_group
  group-items g e = group-each g (is_shift_item ns) _ e

-- The shift that step 4 takes, whatever is asked of shifts: the mask item's own, or that of the item in the frame's group that names it.
module _ (ns : List Node) (fit : Shift → Bool) (j : ℕ)
    (own : GivesShift fit (item_shift_at ns (find ns Tags.MaskSubPixelShift (inside ns j)))) where
  by_name : (l : List ℕ) (o : Option (Option ℕ)) → ((k : ℕ) → Among k l → GivesShift fit (shift_from ns j (Some k))) → Named l o
      → GivesShift fit (then o (shift_from ns j))
  by_name l o each (unnamed q) = rw q own
  by_name l o each (named k m q) = rw q (each k m)

  in_group : (g : ℕ) → is_shift_group ns g ≡ true → has_id ns j ≡ true
      → ((k : ℕ) → Among k (inside ns g) → GivesShift fit (shift_from ns j (Some k)))
      → GivesShift fit (then (own_in ns j (Some g)) (shift_from ns j))
  unfolding is_shift_group
  in_group g e i each =
      let a = and_both (eqb (node_at ns g).vr SQ) _ e in
      let b = and_both (leb 1 (length (inside ns g))) _ a.1 in
      let c = and_both (every (is_shift_item ns) (inside ns g)) _ b.1 in
      let x = id-is ns j i in
      let y : need (id_in ns j) (λ id. naming ns id (inside ns g)) ≡ naming ns x.0 (inside ns g) = rw x.1 in
      let q : own_in ns j (Some g) ≡ naming ns x.0 (inside ns g) = checked _ _ (both a.0 b.0) ∙ y in
      by_name (inside ns g) (own_in ns j (Some g)) each (rw q (names ns x.0 (inside ns g) c.0))

  -- What is asked of the group is no less than rule 37 asks.
  module _ (asked : ℕ → Bool) (ruled : (g : ℕ) → asked g ≡ true → is_shift_group ns g ≡ true)
      (each : (g k : ℕ) → asked g ≡ true → Among k (inside ns g) → GivesShift fit (shift_from ns j (Some k))) where
    own-or-named : (o : Option ℕ) → if_present o asked ≡ true → ((g : ℕ) → o ≡ Some g → is_shift_group ns g ≡ true → has_id ns j ≡ true)
        → GivesShift fit (then (own_in ns j o) (shift_from ns j))
    own-or-named None e ids = own
    own-or-named (Some g) e ids = in_group g (ruled g e) (ids g refl (ruled g e)) (λ k m. each g k e m)

    pub shift_by : (f : ℕ) → rule36 ns ≡ true
        → at_frame ns f (λ s i. if_present (group_of ns Tags.FramePixelShiftSequence s i) asked) ≡ true
        → Among j (mask_items ns) → GivesShift fit (shift_for ns f j)
    unfolding shift_for
    shift_by f r e m =
        let at = at-items ns f (λ s i. if_present (group_of ns Tags.FramePixelShiftSequence s i) asked) e in
        rw (group-is ns f Tags.FramePixelShiftSequence at.s at.i at.shared at.item)
        (own-or-named (group_of ns Tags.FramePixelShiftSequence at.s at.i) at.holds
        (λ g q h. every-at (has_id ns) m (shift-ids ns r f at.s at.i g at.shared at.item q h)))

shift-for : (ns : List Node) (f j : ℕ) → rule36 ns ≡ true → rule37 ns f ≡ true → Among j (mask_items ns) → shift_fits ns j ≡ true
    → GivesShift is_shift_of (shift_for ns f j)
unfolding rule37 item37 shift_fits
shift-for ns f j r e m w =
    shift_by ns is_shift_of j (item-shift ns (find ns Tags.MaskSubPixelShift (inside ns j)) w) (is_shift_group ns) (λ g h. h)
    (λ g k h a. frame-shift ns k (every-at (is_shift_item ns) a (group-items ns g h)) j) f r e m

-- ---- Step 3: the mask frames

all-within : (n : ℕ) (l : List ℕ) → all_frames n l ≡ true → AllWithin n l
unfolding all_frames
all-within n [] e = tt
all-within n (k ∷ l) e =
    let a = and_both (leb 1 k && leb k n) _ e in
    let b = and_both (leb 1 k) (leb k n) a.0 in
    ((leb-true 1 k b.0, leb-true k n b.1), all-within n l a.1)

-- A number that is there.
a-number : (w : Option Signed) → is_number w ≡ true → (d : Signed) × (w ≡ Some d)
a-number (Some d) e = (d, refl)
a-number None e = absurd (false-is-true e)

module _ (ns : List Node) (n j : ℕ) where
  average-at : (o : Option ℕ) → holds o (λ k. are_mask_frames n (value_at ns k)) ≡ true
      → (ks : List ℕ) × ((need o
      (λ k. check (eqb (length (value_at ns k) % 2) 0 && leb 1 (length (us_values (value_at ns k)))) (Some (us_values (value_at ns k))))
      ≡ Some ks) × ((1 ≤ length ks) × ((length ks ≤ 64) × AllWithin n ks)))
  unfolding are_mask_frames
  average-at None e = absurd (false-is-true e)
  average-at (Some k) e =
      let a = and_both (eqb (length (value_at ns k) % 2) 0) _ e in
      let b = and_both (leb 1 (length (us_values (value_at ns k))) && leb (length (us_values (value_at ns k))) 64) _ a.1 in
      let c = and_both (leb 1 (length (us_values (value_at ns k)))) _ b.0 in (
        us_values (value_at ns k),
        (checked _ _ (both a.0 c.0), (leb-true _ _ c.0, (leb-true _ _ c.1, all-within n _ b.1))),
      )

  averages : operation_is ns (ascii "AVG_SUB") j ≡ true → averages_fit ns n j ≡ true
      → (ks : List ℕ) × ((average_frames ns j ≡ Some ks) × ((1 ≤ length ks) × ((length ks ≤ 64) × AllWithin n ks)))
  unfolding averages_fit average_fits average_frames
  averages op e =
      let a : average_fits ns n j ≡ true = where-true (operation_is ns (ascii "AVG_SUB") j) (average_fits ns n j) op e in
      average-at (find_vr ns Tags.MaskFrameNumbers US (inside ns j))
      (and_both (holds (find_vr ns Tags.MaskFrameNumbers US (inside ns j)) (λ k. are_mask_frames n (value_at ns k))) _ a).0

  offset_at_lem : (o : Option ℕ) → if_present o (is_offset ns) ≡ true → (d : Signed) × (offset_at ns o ≡ Some d)
  unfolding is_offset
  offset_at_lem None e = (signed.Plus 1, refl)
  offset_at_lem (Some k) e =
      let a = and_both (eqb (node_at ns k).vr SS) _ e in
      let d = a-number (ss_of (value_at ns k)) a.1 in
      (d.0, checked _ _ a.0 ∙ d.1)

  offset : operation_is ns (ascii "TID") j ≡ true → offset_fits ns j ≡ true → (d : Signed) × (offset_of ns j ≡ Some d)
  unfolding offset_fits offset_of
  offset op e = offset_at_lem (find ns Tags.TIDOffset (inside ns j)) (where-true (operation_is ns (ascii "TID") j) _ op e)

-- ---- Steps 2 to 4 together

module _ (ns : List Node) (f n j : ℕ) (m : Moves) (moved : moves_for ns f j ≡ Some m) (sound : Short m) where
  by-average : (o : Option (List ℕ)) (ks : List ℕ) → o ≡ Some ks → 1 ≤ length ks → length ks ≤ 64 → AllWithin n ks
      → Gives n (then o (λ l. then (moves_for ns f j) (λ x. Some (masked l x))))
  by-average o ks q a b c = record { m = masked ks m; mask = rw (q, moved); sound = (a, (b, (c, sound))) }

  by-tid : (k : ℕ) (t : Bool) → (leb 1 k && leb k n) ≡ t → Gives n (on_tid ns f j (cond t (Some k) None))
  by-tid k false e = record { m = native; mask = refl; sound = tt }
  by-tid k true e =
      let a = and_both (leb 1 k) _ e in
      record {
        m = masked (k ∷ []) m;
        mask = rw moved;
        sound = (omega arith, (omega arith, (((leb-true 1 k a.0, leb-true k n a.1), tt), sound)));
      }

  tid : frames_of ns ≡ Some n → (d : Signed) → offset_of ns j ≡ Some d → Gives n (then (tid_frame ns f j) (on_tid ns f j))
  unfolding tid_frame
  tid count d q = rw (q, count) (by-tid (less f d) (leb 1 (less f d) && leb (less f d) n) refl)

  mask-by : frames_of ns ≡ Some n → is_operation ns j ≡ true → averages_fit ns n j ≡ true → offset_fits ns j ≡ true → Gives n (mask_by ns f j)
  unfolding mask_by is_operation
  mask-by count op av off =
      go (operation_is ns (ascii "NONE") j) refl (operation_is ns (ascii "AVG_SUB") j) refl (operation_is ns (ascii "TID") j) refl
    where
      go : (a : Bool) → operation_is ns (ascii "NONE") j ≡ a → (b : Bool) → operation_is ns (ascii "AVG_SUB") j ≡ b → (c : Bool)
          → operation_is ns (ascii "TID") j ≡ c
          → Gives n (cond a (Some native) (cond b (then (average_frames ns j) (λ ks. then (moves_for ns f j) (λ x. Some (masked ks x))))
          (cond c (then (tid_frame ns f j) (on_tid ns f j)) None)))
      go true p b q c r = record { m = native; mask = refl; sound = tt }
      go false p true q c r =
          let w = averages ns n j q av in
          by-average (average_frames ns j) w.0 w.1.0 w.1.1.0 w.1.1.1.0 w.1.1.1.1
      go false p false q true r =
          let d = offset ns n j r off in
          tid count d.0 d.1
      go false p false q false r = absurd (false-is-true (rw (p, q, r) at op))

module _ (ns : List Node) (ok : finding_of ns ≡ Accepted) where
  module _ (n : ℕ) (count : frames_of ns ≡ Some n) where
    pub ranges : every (range_fits ns n) (mask_items ns) ≡ true
    unfolding rule32
    ranges = holds_of (frames_of ns) _ n count (r32 ns ok)

    averages-fit : every (averages_fit ns n) (mask_items ns) ≡ true
    unfolding rule33
    averages-fit = holds_of (frames_of ns) _ n count (r33 ns ok)

    offsets-fit : every (offset_fits ns) (mask_items ns) ≡ true
    unfolding rule34
    offsets-fit = r34 ns ok

    shifts_fit : every (shift_fits ns) (mask_items ns) ≡ true
    unfolding rule35
    shifts_fit = r35 ns ok

    module _ (f : ℕ) (low : 1 ≤ f) (high : f ≤ n) where
      by-item : (j : ℕ) → Among j (mask_items ns) → Gives n (mask_by ns f j)
      by-item j a =
          let m = moves ns f j (shift-for ns f j (r36 ns ok) (r37 ns ok n f count low high) a (every-at (shift_fits ns) a shifts_fit)) in
          mask-by ns f n j m.0 m.1.0 m.1.1 count (every-at (is_operation ns) a (operations ns (r31 ns ok)))
          (every-at (averages_fit ns n) a averages-fit) (every-at (offset_fits ns) a offsets-fit)

      mask-on : (o : Option (Option ℕ)) → Applies (mask_items ns) o → Gives n (then o (mask_on ns f))
      mask-on o (nothing q) = record { m = native; mask = rw q; sound = tt }
      mask-on o (item j a q) = rw q (by-item j a)

      mask-for : Gives n (mask_for ns f)
      unfolding mask_for
      mask-for = mask-on (applying_to ns f) (applies ns f n (r31 ns ok) ranges)

-- What demand 3 asks of steps 2 to 4.
pub masking : (ns : List Node) → finding_of ns ≡ Accepted → (n : ℕ) → frames_of ns ≡ Some n → 1 ≤ n → n ≤ 65535 → (f : ℕ) → 1 ≤ f → f ≤ n
    → Gives n (mask_for ns f)
masking ns ok n count some-frame few f low high = mask-for ns ok n count f low high
