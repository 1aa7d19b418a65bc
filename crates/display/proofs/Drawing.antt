-- The drawing part of demand 3: every frame of an accepted object can be drawn, and `show` draws exactly those, as the steps
-- say. The statement stands in specs/Drawing; here is its proof. That no step lacks anything is from Lacking; the rest follows
-- what `show` answers back to what it was asked.
use Rattle.std.specs.Prelude.{Some, Result, Ok, Err}
use mathlib.Core.Path.{◌≡◌, refl, ap, ◌∙◌, subst}
use mathlib.Core.Bool.{Bool, true, false, cond}
use mathlib.Core.List.{List, ◌++◌}
use Prim.Native.Nat.{ℕ, ◌≤◌}
use native.Mathlib.Omega.{arith}
use lib.ListN.{length, drop}
use lib.Dec.{leb}
use borrow.Author.Tests.{le-leb, leb-true}
use Rattle.value.specs.Number.{number_or0}
use Rattle.basics.specs.Bytes.{IsBytes}
use Rattle.dataset.specs.Tree.{rows_of}
use Rattle.node.specs.Nodes.{nodes_of}
use Rattle.element.specs.Frames.{frames_of}
use Rattle.steps.specs.Steps.{Picture, steps_of}
use Rattle.display.specs.declared.Drawn.{Drawn}
use Rattle.display.specs.declared.ShowError.{ShowError}
use Rattle.display.specs.declared.ShowError.TheVariants as error
use Rattle.display.specs.Show.{is_frame_of, image_size, picture_of, accepted_answer, answer_for as shown_for, show_of, image_of, fields_of}
use Rattle.display.specs.Drawing.{IsAccepted, IsFrame, HasRoom, Whole, HandsBack, Drawing}
use Rattle.display.proofs.Codes.{was-frame, judged-accepted, was-judged}
use Rattle.display.proofs.Lacking.{nothing-lacks}

-- ---- Where there is room, the answer is a picture

module _ (s : List ℕ) (f : ℕ) (buffer image : List ℕ) where
  answer-drawn : (n : ℕ) → IsFrame s f → HasRoom s buffer image
      → accepted_answer (nodes_of s) f image n ≡ Ok (record { rows = n; masked = (picture_of (nodes_of s) f).masked })
  unfolding accepted_answer
  answer-drawn n i r =
      rw (
        le-leb 1 f i.low,
        le-leb f (number_or0 (frames_of (nodes_of s))) i.high,
        le-leb (image_size (nodes_of s)) (length image) r.cells,
      )

  shows : (a : IsAccepted s) → IsFrame s f → HasRoom s buffer image
      → show_of s f buffer image ≡ Ok (record { rows = length (rows_of s); masked = (picture_of (nodes_of s) f).masked })
  unfolding show_of
  shows a i r = rw (judged-accepted s buffer a r.rows, answer-drawn (length (rows_of s)) i r)

  -- ---- And from a picture back to what there was

  -- What the answer of an accepted object says of the frame and of the image buffer.
  record Shown (n : ℕ) : Type 0 where
    pub frame : IsFrame s f
    pub cells : image_size (nodes_of s) ≤ length image

  was-shown : (n : ℕ) → (fields_of (accepted_answer (nodes_of s) f image n)).code ≡ 0 → Shown n
  unfolding accepted_answer
  was-shown n e = go (is_frame_of (nodes_of s) f) (leb (image_size (nodes_of s)) (length image)) refl refl e
    where
      go : (t u : Bool) → is_frame_of (nodes_of s) f ≡ t → leb (image_size (nodes_of s)) (length image) ≡ u
          → (fields_of (cond t (cond u (Ok (record { rows = n; masked = (picture_of (nodes_of s) f).masked })) (Err error.NoImageRoom)) (Err error.NoFrame))).code ≡ 0 → Shown n
      go true true p q e =
          record { frame = was-frame s f p; cells = leb-true (image_size (nodes_of s)) (length image) q }
      go true false p q e = absurd (omega (arith, e))
      go false u p q e = absurd (omega (arith, e))

  was-accepted : (fields_of (show_of s f buffer image)).code ≡ 0 → IsAccepted s × (IsFrame s f × HasRoom s buffer image)
  unfolding show_of
  was-accepted e =
      let j = was-judged s buffer (λ a. (fields_of (shown_for (nodes_of s) f image a)).code)
      (record { refused = λ refusal. refl }) e in
      let d = was-shown (length j.accepted.rows) j.code in
      (j.accepted, (d.frame, record { rows = j.room; cells = d.cells }))

  -- ---- What is handed back

  picture-is : (p : Picture) → steps_of (nodes_of s) f ≡ Some p → picture_of (nodes_of s) f ≡ p
  unfolding picture_of
  picture-is p e = rw e

  image-is : (a : IsAccepted s) → IsFrame s f → HasRoom s buffer image
      → image_of s f buffer image ≡ (picture_of (nodes_of s) f).samples ++ drop (length (picture_of (nodes_of s) f).samples) image
  unfolding image_of
  image-is a i r = rw (shows a i r)

  handed : (a : IsAccepted s) → IsFrame s f → HasRoom s buffer image → Whole (nodes_of s) f → HandsBack s f buffer image
  handed a i r w =
      let q = picture-is w.p w.is in
      record {
        p = w.p;
        is = w.is;
        rows = ap (λ (x : Result Drawn ShowError). (fields_of x).rows) (shows a i r);
        masked = ap (λ (x : Result Drawn ShowError). (fields_of x).masked) (shows a i r) ∙ ap (λ (x : Picture). cond x.masked 1 0) q;
        cells =
            subst (λ (n : ℕ). image_of s f buffer image ≡ w.p.samples ++ drop n image) w.size
            (subst (λ (x : Picture). image_of s f buffer image ≡ x.samples ++ drop (length x.samples) image) q (image-is a i r));
      }

-- ---- The claim

pub drawing : (s : List ℕ) → IsBytes s → (f : ℕ) → Drawing s f
drawing s b f =
    record {
      drawable = whole;
      drawn = λ buffer image a i r. ap (λ (x : Result Drawn ShowError). (fields_of x).code) (shows s f buffer image a i r);
      nothing-else = was-accepted s f;
      as-stepped = λ buffer image e.
          let w = was-accepted s f buffer image e in
          handed s f buffer image w.0 w.1.0 w.1.1 (whole w.0 w.1.0);
    }
  where
    whole : IsAccepted s → IsFrame s f → Whole (nodes_of s) f
    whole a i = nothing-lacks s b a.sound f i.low i.high
