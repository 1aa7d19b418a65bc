-- What the code's answers say of the steps, where a step is known to give something.
use Rattle.std.specs.Prelude.{Option, Some, None, is_some, IsSome}
use mathlib.Core.Path.{◌≡◌, refl, sym, ap, ◌∙◌, subst}
use mathlib.Core.Bool.{Bool, true, false, cond, ◌&&◌}
use mathlib.Core.List.{List, [], ◌∷◌}
use Prim.Native.Nat.{ℕ}
use native.Mathlib.Omega.{arith}
use borrow.Author.Tests.{le-leb}
use Rattle.value.specs.declared.Signed.{Signed}
use Rattle.value.specs.declared.Signed.TheVariants as signed
use Rattle.value.specs.Number.{us_values, is_number}
use Rattle.value.specs.Internal.{SizeBelow}
use Rattle.shift.specs.declared.Shift.{Shift}
use Rattle.shift.specs.declared.Moves.{Moves}
use Rattle.shift.specs.Shift.{largest_move, is_short, is_shift_of, moves_of}
use Rattle.shift.specs.Internal.{too_far, short_moves_of}
use Rattle.shift.proofs.Laws.{moves-short}
use Rattle.node.specs.Nodes.{Node}
use Rattle.steps.specs.Given.{check, then}
use Rattle.value.specs.Text.{ascii}
use Rattle.element.specs.Elements.{value_at}
use Rattle.element.specs.Frames.{operation_is}
use Rattle.steps.specs.declared.Operation.{Operation}
use Rattle.steps.specs.declared.Operation.TheVariants as operation
use Rattle.steps.specs.declared.Told.{Told}
use Rattle.steps.specs.Internal.{operation_of, frames_in, IsTold}
use Rattle.steps.specs.Steps.{Mask, average_frames, tid_frame, on_tid, shift_for, moves_for, applying_to, mask_by, mask_for, native as no_mask, masked as mask_of}
use Rattle.display.specs.Internal.{Short, SoundMask, Gives, GivesMoves, average_by, tid_by, operated}
use Rattle.steps.proofs.Given.{never, same_some, then_some}

short-is : (x : Option Signed) → is_number x ≡ true → SizeBelow too_far x → is_short x ≡ true
short-is (Some (signed.Plus n)) e h = le-leb n largest_move (omega arith)
short-is (Some (signed.Minus n)) e h = le-leb n largest_move (omega arith)
short-is None e h = e

is-shift : (s : Shift) → Short (moves_of s) → is_shift_of s ≡ true
unfolding is_shift_of
is-shift s h =
    rw (
      short-is (moves_of s).vertical h.vertical h.sizes.vertical,
      short-is (moves_of s).horizontal h.horizontal h.sizes.horizontal,
    )

-- The short moves of the shift that a step gave are the step's moves.
checked-moves : (t : Bool) (s : Shift) (m : Moves) → check t (Some (moves_of s)) ≡ Some m → Short m
    → check t (Some (moves_of s)) ≡ Some (short_moves_of s)
checked-moves true s m e h =
    let q : m ≡ moves_of s = cc in
    ap Some (moves-short s (is-shift s (subst Short q h)))
checked-moves false s m e h = absurd (never e)

-- Where a step is known to give something, the code's answer is there.
pub there : {A : Type 0} {r o : Option A} {a : A} → r ≡ o → o ≡ Some a → IsSome r
there p q = ap is_some (p ∙ q)

module _ (ns : List Node) (f j : ℕ) {r : Option Shift} (e : r ≡ shift_for ns f j) (g : GivesMoves (moves_for ns f j)) where
  pub shift-there : IsSome r
  unfolding moves_for
  shift-there = there e (then_some (shift_for ns f j) _ g.is).1.0

  pub moves-are : {s : Shift} {m : Moves} → r ≡ Some s → m ≡ short_moves_of s → moves_for ns f j ≡ Some m
  unfolding moves_for
  moves-are {s} q h =
      let u : moves_for ns f j
      ≡ check (is_number (moves_of s).vertical && is_number (moves_of s).horizontal) (Some (moves_of s)) = rw (sym e ∙ q) in
      u ∙ checked-moves (is_number (moves_of s).vertical && is_number (moves_of s).horizontal) s g.m (sym u ∙ g.is) g.short
      ∙ ap Some (sym h)

pub ruleset moves = (shift-there, moves-are)

-- A mask that a step gives has its moves.
pub gives-moves : (n : ℕ) (ks : List ℕ) (o : Option Moves) → Gives n (then o (λ m. Some (mask_of ks m))) → GivesMoves o
gives-moves n ks None g = absurd (never g.mask)
gives-moves n ks (Some mv) g =
    let q : g.m ≡ mask_of ks mv = cc in
    record { m = mv; is = refl; short = (subst (SoundMask n) q g.sound).1.1.1 }

-- What a step gives is sound.
pub gives-sound : (n : ℕ) (m : Mask) (o : Option Mask) → o ≡ Some m → Gives n o → SoundMask n m
gives-sound n m o e g =
    let q : g.m ≡ m = same_some g.mask e in
    subst (SoundMask n) q g.sound

-- A mask item's steps 3 and 4 go by its operation.
pub by-operation : (ns : List Node) (f j : ℕ) → mask_by ns f j ≡ operated ns f j (operation_of ns j)
unfolding mask_by operation_of
by-operation ns f j = go (operation_is ns (ascii "NONE") j) (operation_is ns (ascii "AVG_SUB") j) (operation_is ns (ascii "TID") j)
  where
    go : (a b d : Bool) → cond a (Some no_mask) (cond b (average_by ns f j) (cond d (tid_by ns f j) None))
        ≡ operated ns f j (cond a (Some operation.Native) (cond b (Some operation.Average) (cond d (Some operation.Tid) None)))
    go true b d = refl
    go false true d = refl
    go false false true = refl
    go false false false = refl

-- So for what is told of it, and each operation has what it needs.
module _ (ns : List Node) (f j : ℕ) (t : Told) (told : IsTold ns j t) where
  pub by-told : {o : Option Operation} → t.operation ≡ o → mask_by ns f j ≡ operated ns f j o
  by-told e = by-operation ns f j ∙ ap (operated ns f j) (sym told.operation-is ∙ e)

  pub operation-there : (n : ℕ) → Gives n (mask_by ns f j) → IsSome t.operation
  operation-there n g = go t.operation (by-told refl)
    where
      go : (o : Option Operation) → mask_by ns f j ≡ operated ns f j o → IsSome o
      go (Some o) e = refl
      go None e = absurd (never (sym e ∙ g.mask))

  module _ {o : Operation} (is : t.operation ≡ Some o) where
    pub native-is : o ≡ operation.Native → Some no_mask ≡ mask_by ns f j
    native-is e = sym (by-told (is ∙ ap Some e))

    module _ (e : o ≡ operation.Average) (r : Option ℕ) (found : frames_in ns r ≡ average_frames ns j) where
      averages : mask_by ns f j ≡ average_by ns f j
      averages = by-told (is ∙ ap Some e)

      pub average-there : (n : ℕ) → Gives n (mask_by ns f j) → IsSome r
      average-there n g = go r (found ∙ (then_some (average_frames ns j) _ (sym averages ∙ g.mask)).1.0)
        where
          go : (x : Option ℕ) {ks : List ℕ} → frames_in ns x ≡ Some ks → IsSome x
          go (Some k) q = refl
          go None q = absurd (never q)

      module _ {k : ℕ} (q : r ≡ Some k) where
        averaged : mask_by ns f j ≡ then (moves_for ns f j) (λ m. Some (mask_of (us_values (value_at ns k)) m))
        averaged =
            averages ∙ ap (λ (x : Option (List ℕ)). then x (λ ks. then (moves_for ns f j) (λ m. Some (mask_of ks m))))
            (sym found ∙ ap (frames_in ns) q)

        pub average-moves : (n : ℕ) → Gives n (mask_by ns f j) → GivesMoves (moves_for ns f j)
        average-moves n g = gives-moves n _ (moves_for ns f j) (subst (Gives n) averaged g)

        pub average-is : {m : Moves} → moves_for ns f j ≡ Some m → Some (mask_of (us_values (value_at ns k)) m) ≡ mask_by ns f j
        average-is h = sym (averaged ∙ rw h)

    module _ (e : o ≡ operation.Tid) {r : Option (Option ℕ)} (found : r ≡ tid_frame ns f j) where
      offsets : mask_by ns f j ≡ then r (on_tid ns f j)
      offsets = by-told (is ∙ ap Some e) ∙ ap (λ (x : Option (Option ℕ)). then x (on_tid ns f j)) (sym found)

      pub tid-there : (n : ℕ) → Gives n (mask_by ns f j) → IsSome r
      tid-there n g = there refl (then_some r (on_tid ns f j) (sym offsets ∙ g.mask)).1.0

      module _ {x : Option ℕ} (q : r ≡ Some x) where
        pub tid-native : x ≡ None → Some no_mask ≡ mask_by ns f j
        tid-native h = sym (offsets ∙ rw (q, h))

        module _ {k : ℕ} (h : x ≡ Some k) where
          offset-by : mask_by ns f j ≡ then (moves_for ns f j) (λ m. Some (mask_of (k ∷ []) m))
          offset-by = offsets ∙ rw (q, h)

          pub tid-moves : (n : ℕ) → Gives n (mask_by ns f j) → GivesMoves (moves_for ns f j)
          tid-moves n g = gives-moves n _ (moves_for ns f j) (subst (Gives n) offset-by g)

          pub tid-is : {m : Moves} → moves_for ns f j ≡ Some m → Some (mask_of (k ∷ []) m) ≡ mask_by ns f j
          tid-is z = sym (offset-by ∙ rw z)

pub ruleset operations =
    (operation-there, native-is, average-there, average-moves, average-is, tid-there, tid-native, tid-moves, tid-is)

-- Where a mask item applies it gives the mask, and where none does the frame is native.
module _ (ns : List Node) (f : ℕ) {a : Option ℕ} (is : applying_to ns f ≡ Some a) where
  pub none-applies : a ≡ None → Some no_mask ≡ mask_for ns f
  unfolding mask_for
  none-applies e = sym (rw (is, e))

  module _ {j : ℕ} (e : a ≡ Some j) where
    pub item-applies : {m : Option Mask} → m ≡ mask_by ns f j → m ≡ mask_for ns f
    unfolding mask_for
    item-applies h = rw (is, e) h

    pub item-gives : (n : ℕ) → Gives n (mask_for ns f) → Gives n (mask_by ns f j)
    item-gives n g = subst (Gives n) (sym (item-applies refl)) g

pub ruleset applications = (none-applies, item-applies, item-gives)

-- Where the steps give a mask, the search for a mask item lacks nothing.
pub applying-some : (ns : List Node) (f n : ℕ) → applying_to ns f ≡ None → Gives n (mask_for ns f) → ⊥
unfolding mask_for
applying-some ns f n e g =
    let u : mask_for ns f ≡ None = rw e in
    never (sym u ∙ g.mask)
