-- What is mapped depends on the row buffer only in whether the rows fit, as judging does; and a frame is mapped only where
-- the object was accepted, so that its rows stand in the buffer.
use Rattle.std.specs.Prelude.{Result, Ok, Err}
use mathlib.Core.Path.{◌≡◌, refl, sym, ap, ◌∙◌, subst⁻¹}
use mathlib.Core.Bool.{Bool, true, false, cond}
use mathlib.Core.List.{List}
use Prim.Native.Nat.{ℕ, ◌*◌, ◌≤◌, ◌<◌}
use native.Mathlib.Omega.{arith}
use lib.ListN.{length, take}
use lib.Dec.{leb}
use borrow.Author.Tests.{leb-true}
use Rattle.dataset.specs.Reading.{reading_of}
use Rattle.dataset.specs.Answer.{flat, buffer_of, width}
use Rattle.dataset.specs.Tree.{rows_of}
use Rattle.node.specs.Nodes.{Node, nodes_of}
use Rattle.node.specs.Internal.{Table}
use Rattle.conformance.specs.declared.NotAccepted.{NotAccepted}
use Rattle.conformance.specs.Judging.{accept_of}
use Rattle.judge_small.proofs.Room.{roomy-accept}
use Rattle.display.specs.Show.{is_frame_of, image_size}
use Rattle.linear.specs.declared.LinearError.{LinearError}
use Rattle.linear.specs.declared.LinearError.TheVariants as error
use Rattle.linear.specs.Mapping.{has_linear_item}
use Rattle.linear.specs.Answer.{entries_of, accepted_answer, answer_for, linear_of, values_by, values_left, fields_of}
use Rattle.display.proofs.Judged as judged
use Rattle.show_small.specs.declared.Sides.{Sides}
use Rattle.linear_small.specs.declared.Mapped.{Mapped}
use Rattle.linear_small.specs.Mapped.{sides_for, sized, linear_printed, values_printed}

-- ---- The row buffer

module _ (s : List ℕ) (f : ℕ) (buffer values : List ℕ) (h : width * length s ≤ 8 * length buffer) where
  same_answer : linear_of s f buffer values ≡ linear_of s f (flat (rows_of s)) values
  unfolding linear_of
  same_answer = ap (answer_for (nodes_of s) f values) (roomy-accept s buffer h)

  -- The answer, with the sides that go with it.
  pub mapped-as : {a x : Result ℕ LinearError} {z : Sides} → a ≡ linear_of s f buffer values → a ≡ x → z ≡ sides_for (nodes_of s) x
      → ◌≡◌ {A = Mapped} (record { answer = a; sides = z }) (linear_printed s f values)
  mapped-as {a} {x} {z} e t u =
      ap (λ (k : Sides). record { answer = a; sides = k }) (u ∙ sym (ap (sides_for (nodes_of s)) t))
      ∙ ap (sized (nodes_of s)) (e ∙ same_answer)

  pub values-as : {after : List ℕ} → after ≡ values_left s f buffer values → after ≡ values_printed s f values
  unfolding values_left
  values-as i = i ∙ ap (values_by (entries_of (nodes_of s) f) values) same_answer

-- ---- A frame that was mapped

clash : {A : Type 0} → ◌≡◌ {A = ℕ} 0 1 → A
clash z = absurd (omega arith)

mapped-accepted : (ns : List Node) (f : ℕ) (values : List ℕ) (a : Result ℕ NotAccepted) (d : ℕ) → Ok d ≡ answer_for ns f values a → a ≡ Ok d
unfolding accepted_answer
mapped-accepted ns f values (Err e) d q = clash cc
mapped-accepted ns f values (Ok k) d q = go (is_frame_of ns f) (has_linear_item ns f) (leb (image_size ns) (length values)) q
  where
    go : (t m u : Bool) → Ok d ≡ cond t (cond m (cond u (Ok k) (Err error.NoValuesRoom)) (Err error.NoItem)) (Err error.NoFrame)
        → ◌≡◌ {A = Result ℕ NotAccepted} (Ok k) (Ok d)
    go true true true e = ap (λ (x : Result ℕ LinearError). Ok (fields_of x).rows) (sym e)
    go true true false e = clash cc
    go true false u e = clash cc
    go false m u e = clash cc

-- The rows stand in the buffer.
module _ (s : List ℕ) (f : ℕ) (before values buffer : List ℕ) (d : ℕ) {a : Result ℕ LinearError} (answered : a ≡ linear_of s f before values)
    (mapped : a ≡ Ok d) (left : buffer ≡ buffer_of (reading_of s) before) where
  accepted : accept_of s before ≡ Ok d
  unfolding linear_of
  accepted = mapped-accepted (nodes_of s) f values (accept_of s before) d (sym mapped ∙ answered)

  pub rows-there : width * d ≤ length buffer
  rows-there = judged.rows-there s before buffer d refl accepted left

  pub rows-are : Table s (take (width * d) buffer)
  rows-are = judged.rows-are s before buffer d refl accepted left

  pub rows-few : width * d < 18446744073709551616
  rows-few = judged.rows-few s before buffer d refl accepted left

  pub rows-length : length (take (width * d) buffer) ≡ width * d
  rows-length = judged.rows-length s before buffer d refl accepted left

pub ruleset mapping = (rows-there, rows-are, rows-few, rows-length)

-- ---- There is room for the numbers

mapped-fits : (ns : List Node) (f : ℕ) (values : List ℕ) (a : Result ℕ NotAccepted)
    → let r = sized ns (answer_for ns f values a) in r.sides.height * r.sides.width ≤ length values
unfolding accepted_answer
mapped-fits ns f values (Err e) = omega arith
mapped-fits ns f values (Ok k) = go (is_frame_of ns f) (has_linear_item ns f) (leb (image_size ns) (length values)) (leb-true _ _)
  where
    go : (t m u : Bool) → (u ≡ true → image_size ns ≤ length values)
        → let r = sized ns (cond t (cond m (cond u (Ok k) (Err error.NoValuesRoom)) (Err error.NoItem)) (Err error.NoFrame)) in
        r.sides.height * r.sides.width ≤ length values
    go true true true h = h refl
    go true true false h = omega arith
    go true false u h = omega arith
    go false m u h = omega arith

pub fits : (s : List ℕ) (f : ℕ) (values : List ℕ) (r : Mapped) → r ≡ linear_printed s f values → r.sides.height * r.sides.width ≤ length values
unfolding linear_of
fits s f values r e =
    subst⁻¹ (λ (x : Mapped). x.sides.height * x.sides.width ≤ length values) e
    (mapped-fits (nodes_of s) f values (accept_of s (flat (rows_of s))))
