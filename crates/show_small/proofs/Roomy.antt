-- What is shown depends on the row buffer only in whether the rows fit, as judging does; and a frame is drawn only where
-- the object was accepted, so that its rows stand in the buffer.
use Rattle.std.specs.Prelude.{Result, Ok, Err}
use mathlib.Core.Path.{◌≡◌, refl, sym, ap, ◌∙◌, subst⁻¹}
use mathlib.Core.Bool.{Bool, true, false, cond}
use mathlib.Core.List.{List}
use Prim.Native.Nat.{ℕ, ◌*◌, ◌≤◌, ◌<◌}
use native.Mathlib.Omega.{arith}
use lib.ListN.{length, take}
use lib.Dec.{leb}
use borrow.Author.Tests.{leb-true}
use Rattle.dataset.specs.Reading.{reading_of}
use Rattle.dataset.specs.Answer.{flat, buffer_of, width}
use Rattle.dataset.specs.Tree.{rows_of}
use Rattle.node.specs.Nodes.{Node, nodes_of}
use Rattle.node.specs.Internal.{Table}
use Rattle.conformance.specs.declared.NotAccepted.{NotAccepted}
use Rattle.conformance.specs.Judging.{accept_of}
use Rattle.judge_small.proofs.Room.{roomy-accept}
use Rattle.display.specs.declared.Drawn.{Drawn}
use Rattle.display.specs.declared.ShowError.{ShowError}
use Rattle.display.specs.declared.ShowError.TheVariants as error
use Rattle.display.specs.Show.{is_frame_of, image_size, picture_of, accepted_answer, answer_for, show_of, image_by, image_of, fields_of}
use Rattle.display.proofs.Judged as judged
use Rattle.show_small.specs.declared.Sides.{Sides}
use Rattle.show_small.specs.declared.Shown.{Shown}
use Rattle.show_small.specs.Shown.{no_sides, sides_for, sized, show_printed, image_printed}

-- ---- The row buffer

module _ (s : List ℕ) (f : ℕ) (buffer image : List ℕ) (h : width * length s ≤ 8 * length buffer) where
  same_answer : show_of s f buffer image ≡ show_of s f (flat (rows_of s)) image
  unfolding show_of
  same_answer = ap (answer_for (nodes_of s) f image) (roomy-accept s buffer h)

  -- The answer, with the sides that go with it.
  pub shown-as : {a x : Result Drawn ShowError} {z : Sides} → a ≡ show_of s f buffer image → a ≡ x → z ≡ sides_for (nodes_of s) x
      → ◌≡◌ {A = Shown} (record { answer = a; sides = z }) (show_printed s f image)
  shown-as {a} {x} {z} e t u =
      ap (λ (k : Sides). record { answer = a; sides = k }) (u ∙ sym (ap (sides_for (nodes_of s)) t))
      ∙ ap (sized (nodes_of s)) (e ∙ same_answer)

  pub image-as : {after : List ℕ} → after ≡ image_of s f buffer image → after ≡ image_printed s f image
  unfolding image_of
  image-as i = i ∙ ap (image_by (picture_of (nodes_of s) f) image) same_answer

pub bare : {z : Sides} → z.width ≡ 0 → z.height ≡ 0 → z ≡ no_sides
bare {z} e f = ap (λ (k : ℕ). record { width = k; height = z.height }) e ∙ ap (λ (k : ℕ). record { width = 0; height = k }) f

-- ---- A frame that was drawn

clash : {A : Type 0} → ◌≡◌ {A = ℕ} 0 1 → A
clash z = absurd (omega arith)

drawn-accepted : (ns : List Node) (f : ℕ) (image : List ℕ) (a : Result ℕ NotAccepted) (d : Drawn) → Ok d ≡ answer_for ns f image a → a ≡ Ok d.rows
unfolding accepted_answer
drawn-accepted ns f image (Err e) d q = clash cc
drawn-accepted ns f image (Ok k) d q = go (is_frame_of ns f) (leb (image_size ns) (length image)) q
  where
    go : (t u : Bool) → Ok d ≡ cond t (cond u (Ok (record { rows = k; masked = (picture_of ns f).masked })) (Err error.NoImageRoom)) (Err error.NoFrame)
        → ◌≡◌ {A = Result ℕ NotAccepted} (Ok k) (Ok d.rows)
    go true true e = ap (λ (x : Result Drawn ShowError). Ok (fields_of x).rows) (sym e)
    go true false e = clash cc
    go false u e = clash cc

-- The rows stand in the buffer.
module _ (s : List ℕ) (f : ℕ) (before image buffer : List ℕ) (d : Drawn) {a : Result Drawn ShowError} (answered : a ≡ show_of s f before image)
    (shown : a ≡ Ok d) (left : buffer ≡ buffer_of (reading_of s) before) where
  accepted : accept_of s before ≡ Ok d.rows
  unfolding show_of
  accepted = drawn-accepted (nodes_of s) f image (accept_of s before) d (sym shown ∙ answered)

  pub rows-there : width * d.rows ≤ length buffer
  rows-there = judged.rows-there s before buffer d.rows refl accepted left

  pub rows-are : Table s (take (width * d.rows) buffer)
  rows-are = judged.rows-are s before buffer d.rows refl accepted left

  pub rows-few : width * d.rows < 18446744073709551616
  rows-few = judged.rows-few s before buffer d.rows refl accepted left

  pub rows-length : length (take (width * d.rows) buffer) ≡ width * d.rows
  rows-length = judged.rows-length s before buffer d.rows refl accepted left

pub ruleset showing = (rows-there, rows-are, rows-few, rows-length)

-- ---- The image has room for what was drawn

shown-fits : (ns : List Node) (f : ℕ) (image : List ℕ) (a : Result ℕ NotAccepted)
    → let r = sized ns (answer_for ns f image a) in r.sides.height * r.sides.width ≤ length image
unfolding accepted_answer
shown-fits ns f image (Err e) = omega arith
shown-fits ns f image (Ok k) = go (is_frame_of ns f) (leb (image_size ns) (length image)) (leb-true _ _)
  where
    go : (t u : Bool) → (u ≡ true → image_size ns ≤ length image)
        → let r = sized ns (cond t (cond u (Ok (record { rows = k; masked = (picture_of ns f).masked })) (Err error.NoImageRoom)) (Err error.NoFrame)) in
        r.sides.height * r.sides.width ≤ length image
    go true true h = h refl
    go true false h = omega arith
    go false u h = omega arith

pub fits : (s : List ℕ) (f : ℕ) (image : List ℕ) (r : Shown) → r ≡ show_printed s f image → r.sides.height * r.sides.width ≤ length image
unfolding show_of
fits s f image r e =
    subst⁻¹ (λ (x : Shown). x.sides.height * x.sides.width ≤ length image) e
    (shown-fits (nodes_of s) f image (accept_of s (flat (rows_of s))))
