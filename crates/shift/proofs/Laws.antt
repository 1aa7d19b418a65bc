-- For callers: what a value in rule 35's form has, so that its shift moves the mask by short quarters.
use Rattle.std.specs.Prelude.{Option, Some, None}
use Rattle.std.proofs.Common.{◌≡◌, ℕ, Bool, true, false, cond, ◌&&◌, eqb, List, length, sym, refl, ap, ◌∙◌, eqb-true}
use lib.Ieee.{Float}
use Rattle.basics.proofs.Tests.{and_both}
use Rattle.value.specs.declared.Signed.{Signed}
use Rattle.value.specs.declared.Signed.TheVariants.{Plus, Minus}
use Rattle.value.specs.Number.{is_number}
use Rattle.shift.specs.declared.Shift.{Shift}
use Rattle.shift.specs.declared.Shift.TheVariants as shift
use Rattle.shift.specs.Shift.{float_at, quarters_of, is_short, moves_of, is_shift_of, item_shift, frame_shift, is_shift}
use Rattle.shift.specs.Internal.{short_of, short_moves_of}
use Rattle.shift.specs.Shift.{is_frame_shift}

-- ---- One number

-- The code's test of a number: it has one where the number is short.
pub number_short : (x : Float) → is_number (short_of x) ≡ is_short (quarters_of x)
unfolding short_of
number_short x = go (quarters_of x)
  where
    kept : (t : Bool) (w : Option Signed) → is_number w ≡ true → is_number (cond t w None) ≡ t
    kept true w h = h
    kept false w h = refl

    go : (w : Option Signed) → is_number (cond (is_short w) w None) ≡ is_short w
    go (Some (Plus n)) = kept (is_short (Some (Plus n))) (Some (Plus n)) refl
    go (Some (Minus n)) = kept (is_short (Some (Minus n))) (Some (Minus n)) refl
    go None = refl

pub short-is : (x : Float) → is_short (quarters_of x) ≡ true → quarters_of x ≡ short_of x
unfolding short_of
short-is x h = rw h

-- ---- Two numbers

-- The code's test of a shift.
pub shift-numbers : (s : Shift) → is_shift_of s ≡ is_number (short_moves_of s).vertical && is_number (short_moves_of s).horizontal
unfolding is_shift_of moves_of short_moves_of
shift-numbers shift.None = refl
shift-numbers (shift.Item v h) = rw (number_short v, number_short h)
shift-numbers (shift.Frame v h) = rw (number_short v, number_short h)

-- Both numbers of a shift are short.
pub moves_both : (s : Shift) → is_shift_of s ≡ true → (is_short (moves_of s).vertical ≡ true) × (is_short (moves_of s).horizontal ≡ true)
unfolding is_shift_of
moves_both s h = and_both (is_short (moves_of s).vertical) (is_short (moves_of s).horizontal) h

-- So the moves of a shift are its short moves.
pub moves-short : (s : Shift) → is_shift_of s ≡ true → moves_of s ≡ short_moves_of s
unfolding moves_of short_moves_of
moves-short shift.None h = refl
moves-short (shift.Item v h) e = rw (short-is v (moves_both (shift.Item v h) e).0, short-is h (moves_both (shift.Item v h) e).1)
moves-short (shift.Frame v h) e = rw (short-is v (moves_both (shift.Frame v h) e).0, short-is h (moves_both (shift.Frame v h) e).1)

-- ---- A value

-- What says nothing of whose the numbers are is the same of the item's and of the frame's own.
pub same_of : {A : Type 0} (f : Shift → A) → ((a b : Float) → f (shift.Item a b) ≡ f (shift.Frame a b)) → (v : List ℕ)
    → f (item_shift v) ≡ f (frame_shift v)
unfolding item_shift frame_shift
same_of f same v = go (eqb (length v) 8)
  where
    go : (t : Bool)
        → f (cond t (shift.Item (float_at v 0) (float_at v 4)) shift.None) ≡ f (cond t (shift.Frame (float_at v 0) (float_at v 4)) shift.None)
    go true = same (float_at v 0) (float_at v 4)
    go false = refl

pub same_test : (v : List ℕ) → is_shift_of (item_shift v) ≡ is_shift_of (frame_shift v)
unfolding is_shift_of moves_of
same_test = same_of is_shift_of (λ a b. refl)

-- A frame's own numbers are tested as the item's are.
pub as-item : (v : List ℕ) → is_frame_shift v ≡ is_shift v
unfolding is_shift is_frame_shift
as-item v = ap (λ (t : Bool). eqb (length v) 8 && t) (sym (same_test v))

module _ (v : List ℕ) (is : is_shift v ≡ true) where
  pub shift-length : length v ≡ 8
  unfolding is_shift
  shift-length = eqb-true _ _ (and_both (eqb (length v) 8) _ is).0

  pub item-is : is_shift_of (item_shift v) ≡ true
  unfolding is_shift
  item-is = (and_both (eqb (length v) 8) _ is).1

  pub frame_is : is_shift_of (frame_shift v) ≡ true
  frame_is = sym (same_test v) ∙ item-is
