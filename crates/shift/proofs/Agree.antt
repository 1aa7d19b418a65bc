-- Whole shifts and quarters agree: what was a shift of whole pixels is a shift still, by the same distance in quarters.
use Rattle.std.specs.Prelude.{Option, Some, None}
use Rattle.std.proofs.Common.{◌≡◌, ℕ, zero, suc, ◌*◌, ◌/◌, ◌%◌, ◌<◌, Bool, true, false, cond, ◌&&◌, eqb, leb, List, length, sym, refl, ap, ◌∙◌, true≢false, mul_comm, div-add-mod', arith, eqb-true, le-leb, leb-true}
use native.Mathlib.Nat.{mul-mod_left, mul-div_cancel_left}
use lib.Ieee.{Float, nan, inf, fin, up, down}
use lib.Ieee.Fits.{down_pos}
use Rattle.basics.proofs.Tests.{and_both, false-is-true}
use Rattle.value.specs.declared.Signed.{Signed}
use Rattle.value.specs.declared.Signed.TheVariants.{Plus, Minus}
use Rattle.value.specs.Number.{is_number}
use Rattle.shift.specs.declared.Shift.{Shift}
use Rattle.shift.specs.declared.Shift.TheVariants as shift
use Rattle.shift.specs.declared.Moves.{Moves}
use Rattle.shift.specs.Shift.{shift_unit, largest_shift, largest_move, signed_size, quarters_of, is_short, moves_of, is_shift_of, item_shift}
use Rattle.shift.specs.Shift.{frame_shift, is_shift}
use Rattle.shift.proofs.Laws.{same_of}
use Rattle.shift.specs.Agree.{SameMoves, AgreeShifts, AgreeRule, AgreeBeyond}
use Rattle.shift.specs.Whole.{whole_float, whole_moves_of, is_short_whole, is_whole_shift_of, is_whole_shift, in_quarters}

-- ---- One number

-- A whole fraction times 4.
module _ (n d : ℕ) (some : 0 < d) (whole : n % d ≡ 0) where
  four-times : n * 4 ≡ 4 * (n / d) * d
  four-times =
      let e : n / d * d ≡ n = omega (arith, div-add-mod' n d) in
      let f : 4 * (n / d) * d ≡ 4 * (n / d * d) = omega arith in
      omega arith

  left-none : n * 4 % d ≡ 0
  left-none = ap (λ (x : ℕ). x % d) four-times ∙ mul-mod_left (4 * (n / d)) d

  quotient : n * 4 / d ≡ 4 * (n / d)
  quotient = ap (λ (x : ℕ). x / d) (four-times ∙ mul_comm (4 * (n / d)) d) ∙ mul-div_cancel_left (4 * (n / d)) some

signed : (s : Bool) (q : ℕ) → signed_size s (4 * q) ≡ in_quarters (signed_size s q)
signed false q = refl
signed true zero = refl
signed true (suc q) = go (4 * suc q) (omega arith)
  where
    go : (k : ℕ) → 0 < k → signed_size true k ≡ Some (Minus k)
    go zero h = absurd (omega arith)
    go (suc k) h = refl

-- A whole number is as many quarters, four times.
pub whole-quarters : (x : Float) → is_number (whole_float x) ≡ true → quarters_of x ≡ in_quarters (whole_float x)
unfolding whole_float quarters_of
whole-quarters nan h = refl
whole-quarters (inf s) h = refl
whole-quarters (fin s m e) h = go (eqb (m * up e % down e) 0) refl h
  where
    go : (t : Bool) → eqb (m * up e % down e) 0 ≡ t → is_number (cond t (signed_size s (m * up e / down e)) None) ≡ true
        → cond (eqb (m * up e * 4 % down e) 0) (signed_size s (m * up e * 4 / down e)) None
        ≡ in_quarters (cond t (signed_size s (m * up e / down e)) None)
    go true p h =
        let z : m * up e % down e ≡ 0 = eqb-true _ _ p in
        rw (left-none (m * up e) (down e) (down_pos e) z, quotient (m * up e) (down e) (down_pos e) z) (signed s (m * up e / down e))
    go false p h = absurd (false-is-true h)

short-number : (w : Option Signed) → is_short_whole w ≡ true → is_number w ≡ true
short-number (Some (Plus n)) h = refl
short-number (Some (Minus n)) h = refl
short-number None h = h

-- In quarters the limit is the same.
same-limit : (n : ℕ) → leb (shift_unit * n) largest_move ≡ leb n largest_shift
same-limit n = go (leb n largest_shift) (leb (shift_unit * n) largest_move) refl refl
  where
    go : (t u : Bool) → leb n largest_shift ≡ t → leb (shift_unit * n) largest_move ≡ u → u ≡ t
    go true true p q = refl
    go false false p q = refl
    go true false p q = absurd (true≢false (sym (le-leb (shift_unit * n) largest_move (omega (arith, leb-true n largest_shift p))) ∙ q))
    go false true p q = absurd (true≢false (sym (le-leb n largest_shift (omega (arith, leb-true (shift_unit * n) largest_move q))) ∙ p))

short-same : (w : Option Signed) → is_short (in_quarters w) ≡ is_short_whole w
short-same (Some (Plus n)) = same-limit n
short-same (Some (Minus n)) = same-limit n
short-same None = refl

short-quarters : (w : Option Signed) → is_short_whole w ≡ true → is_short (in_quarters w) ≡ true
short-quarters w h = short-same w ∙ h

-- ---- A shift

-- The step's moves, whatever their size.
pub whole-moves : AgreeBeyond
unfolding moves_of whole_moves_of
whole-moves shift.None v h = refl
whole-moves (shift.Item a b) v h = rw (whole-quarters a v, whole-quarters b h)
whole-moves (shift.Frame a b) v h = rw (whole-quarters a v, whole-quarters b h)

pub whole-shift-of : (s : Shift) → is_whole_shift_of s ≡ true → (is_shift_of s ≡ true) × SameMoves s
unfolding is_shift_of is_whole_shift_of
whole-shift-of s h =
    let p = and_both (is_short_whole (whole_moves_of s).vertical) (is_short_whole (whole_moves_of s).horizontal) h in
    let e = whole-moves s (short-number (whole_moves_of s).vertical p.0) (short-number (whole_moves_of s).horizontal p.1) in
    (rw (e, short-quarters (whole_moves_of s).vertical p.0, short-quarters (whole_moves_of s).horizontal p.1), e)

-- ---- Rule 35's form

-- Every value that was a shift still is.
pub whole-shift : (v : List ℕ) → is_whole_shift v ≡ true → is_shift v ≡ true
unfolding is_shift is_whole_shift
whole-shift v h =
    let p = and_both (eqb (length v) 8) (is_whole_shift_of (item_shift v)) h in
    rw (p.0, (whole-shift-of (item_shift v) p.1).0)

-- What is said of a value is said of its shift, the item's or the frame's own.
pub whole_item : (v : List ℕ) → is_whole_shift v ≡ true → is_whole_shift_of (item_shift v) ≡ true
unfolding is_whole_shift
whole_item v h = (and_both (eqb (length v) 8) (is_whole_shift_of (item_shift v)) h).1

pub whole-frame : (v : List ℕ) → is_whole_shift v ≡ true → is_whole_shift_of (frame_shift v) ≡ true
unfolding is_whole_shift_of whole_moves_of
whole-frame v h = sym (same_of is_whole_shift_of (λ a b. refl) v) ∙ whole_item v h

pub agree-rule : AgreeRule
unfolding is_shift is_whole_shift is_shift_of is_whole_shift_of
agree-rule v p q =
    let s : Shift = item_shift v in
    rw (whole-moves s p q, short-same (whole_moves_of s).vertical, short-same (whole_moves_of s).horizontal)

pub agree : AgreeShifts
agree v h =
    record {
      is = whole-shift v h;
      item = (whole-shift-of (item_shift v) (whole_item v h)).1;
      frame = (whole-shift-of (frame_shift v) (whole-frame v h)).1;
    }

-- Both numbers of a whole shift are numbers.
pub whole-both : (s : Shift) → is_whole_shift_of s ≡ true → is_number (whole_moves_of s).vertical && is_number (whole_moves_of s).horizontal ≡ true
unfolding is_whole_shift_of
whole-both s h =
    let p = and_both (is_short_whole (whole_moves_of s).vertical) (is_short_whole (whole_moves_of s).horizontal) h in
    rw (short-number (whole_moves_of s).vertical p.0, short-number (whole_moves_of s).horizontal p.1)

-- Numbers in quarters are numbers.
pub whole_numbers : (m : Moves) → is_number m.vertical ≡ true → is_number m.horizontal ≡ true
    → is_number (in_quarters m.vertical) && is_number (in_quarters m.horizontal) ≡ true
whole_numbers m v h = rw (one m.vertical v, one m.horizontal h)
  where
    one : (w : Option Signed) → is_number w ≡ true → is_number (in_quarters w) ≡ true
    one (Some (Plus n)) e = e
    one (Some (Minus n)) e = e
    one None e = e
