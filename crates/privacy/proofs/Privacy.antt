-- None of the four tags is among those whose values are read, so the nodes of the two data sets are alike, and every call answers the same.
use Rattle.std.specs.Prelude.{Result}
use mathlib.Core.Path.{◌≡◌, refl, sym, ap, ◌∙◌}
use Prim.Native.Nat.{ℕ}
use mathlib.Core.Bool.{Bool, true, false, cond, not, ◌&&◌, ◌||◌, false≢true}
use mathlib.Core.List.{List, [], ◌∷◌}
use lib.ListN.{length}
use lib.Dec.{eqb}
use borrow.Author.Tests.{eqb-true}
use Rattle.dataset.specs.declared.Row.{Row}
use Rattle.dataset.specs.Tree.{row_at}
use Rattle.node.specs.Nodes.{nodes_of, value_in}
use Rattle.basics.specs.Tags
use Rattle.element.specs.Elements.{every}
use Rattle.rules.specs.Frame.{is_in}
use Rattle.slip.specs.Slip.{slip_of}
use Rattle.conformance.specs.Judging.{judge_of, accept_of, verdict_of}
use Rattle.conformance.specs.declared.Outcome.{Outcome}
use Rattle.dataset.specs.declared.ReadError.{ReadError}
use Rattle.display.specs.Show.{show_of, image_of}
use Rattle.linear.specs.Answer.{linear_of, values_left}
use Rattle.sheet.specs.Answer.{sheet_of}
use Rattle.compare.specs.Answer.{compare_of}
use Rattle.searches.specs.Reported.{reported_of}
use Rattle.privacy.specs.Read.{read_tags, is_read}
use Rattle.privacy.specs.Alike.{Alike, SamePixels}
use Rattle.privacy.specs.Privacy.{patient_tags, is_patient, kept_value, SameButPatient, SameAnswers, Privacy}
use Rattle.privacy.proofs.Searched.{searches-same}
use Rattle.privacy.proofs.Nodes.{both_at, tag_at, alike, same-pixels}
use Rattle.privacy.proofs.Answers.{judge-same}
use Rattle.privacy.proofs.Shown.{picture-same, shown-same}
use Rattle.privacy.proofs.Sampled.{sampled-same}
use Rattle.privacy.proofs.Compared.{compared_same}
use Rattle.privacy.proofs.Mapped.{linear-same, entries-same}

-- ---- No tag that is read is a patient item's

-- What is in a list has not what none in the list has.
none_in : (p : ℕ → Bool) (l : List ℕ) → every (λ x. not (p x)) l ≡ true → (tag : ℕ) → is_in tag l ≡ true → p tag ≡ false
unfolding every
none_in p [] e tag q = absurd (false≢true q)
none_in p (x ∷ l) e tag q = go (none_in p l) (eqb tag x) refl (p x) refl e q
  where
    go : (every (λ y. not (p y)) l ≡ true → (k : ℕ) → is_in k l ≡ true → p k ≡ false)
        → (b : Bool) → eqb tag x ≡ b → (d : Bool) → p x ≡ d → (not d && every (λ y. not (p y)) l) ≡ true → (b || is_in tag l) ≡ true
        → p tag ≡ false
    go rest b f true g e q = absurd (false≢true e)
    go rest true f false g e q = ap p (eqb-true tag x f) ∙ g
    go rest false f false g e q = rest e tag q

abbrev is_of_patient : ℕ → Bool
is_of_patient tag = is_in tag patient_tags

none_read : every (λ x. not (is_of_patient x)) read_tags ≡ true
unfolding every
none_read = refl

read-not-patient : (tag : ℕ) → is_read tag ≡ true → is_of_patient tag ≡ false
unfolding is_read
read-not-patient tag q = none_in is_of_patient read_tags none_read tag q

pixels-not-patient : (tag : ℕ) → tag ≡ Tags.PixelData → is_of_patient tag ≡ false
pixels-not-patient tag e = ap is_of_patient e

row-not-patient : (r : Row) → is_of_patient r.tag ≡ false → is_patient r ≡ false
unfolding is_patient
row-not-patient r e = ap (λ (b : Bool). b && eqb r.parent 0) e

-- ---- The two data sets

module _ (s t : List ℕ) (p : SameButPatient s t) where
  kept_at : (i : ℕ) → kept_value s (row_at p.shape.rows i) ≡ kept_value t (row_at p.shape.others i)
  unfolding is_patient
  kept_at i = both_at [] (kept_value s) (kept_value t) refl refl p.shape.rows p.shape.others p.values i

  value-at : (i : ℕ) → is_of_patient (row_at p.shape.rows i).tag ≡ false
      → value_in s (row_at p.shape.rows i) ≡ value_in t (row_at p.shape.others i)
  value-at i e =
      sym (ap (λ (b : Bool). cond b [] (value_in s (row_at p.shape.rows i))) (row-not-patient (row_at p.shape.rows i) e))
      ∙ kept_at i
      ∙ ap (λ (b : Bool). cond b [] (value_in t (row_at p.shape.others i)))
      (row-not-patient (row_at p.shape.others i) (ap is_of_patient (sym (tag_at s t p.shape i)) ∙ e))

  pixels-at : (i : ℕ) → (row_at p.shape.rows i).tag ≡ Tags.PixelData
      → value_in s (row_at p.shape.rows i) ≡ value_in t (row_at p.shape.others i)
  pixels-at i e = value-at i (pixels-not-patient (row_at p.shape.rows i).tag e)

  a : Alike (nodes_of s) (nodes_of t)
  a = alike s t p.shape (λ i q. value-at i (read-not-patient (row_at p.shape.rows i).tag q)) (λ i e. ap length (pixels-at i e))

  b : SamePixels (nodes_of s) (nodes_of t)
  b = same-pixels s t p.shape pixels-at

  judged-same : (buffer : List ℕ) → judge_of s buffer ≡ judge_of t buffer
  judged-same = judge-same s t p.shape a

  reported-same : (buffer : List ℕ) → reported_of s buffer ≡ reported_of t buffer
  unfolding reported_of
  reported-same buffer = rw (judged-same buffer, searches-same a)

  show-same : (frame : ℕ) (buffer image : List ℕ) → show_of s frame buffer image ≡ show_of t frame buffer image
  unfolding show_of
  show-same frame buffer image = rw (judged-same buffer) (shown-same a b frame image (accept_of t buffer))

  image-same : (frame : ℕ) (buffer image : List ℕ) → image_of s frame buffer image ≡ image_of t frame buffer image
  unfolding image_of
  image-same frame buffer image = rw (picture-same a b frame, show-same frame buffer image)

  sheet-same : (first last : ℕ) (buffer : List ℕ) → sheet_of s first last buffer ≡ sheet_of t first last buffer
  unfolding sheet_of
  sheet-same first last buffer = rw (judged-same buffer) (sampled-same a b first last (accept_of t buffer))

  comparison-same : (frame : ℕ) (cells : List ℕ) (tolerance : ℕ) (buffer : List ℕ)
      → compare_of s frame cells tolerance buffer ≡ compare_of t frame cells tolerance buffer
  unfolding compare_of
  comparison-same frame cells tolerance buffer = rw (judged-same buffer) (compared_same a b frame cells tolerance (accept_of t buffer))

  mapped-same : (frame : ℕ) (buffer values : List ℕ) → linear_of s frame buffer values ≡ linear_of t frame buffer values
  unfolding linear_of
  mapped-same frame buffer values = rw (judged-same buffer) (linear-same a frame values (accept_of t buffer))

  values_same : (frame : ℕ) (buffer values : List ℕ) → values_left s frame buffer values ≡ values_left t frame buffer values
  unfolding values_left
  values_same frame buffer values = rw (entries-same a b frame, mapped-same frame buffer values)

  answers : SameAnswers s t
  answers =
      record {
        alike = record {
          judged = judged-same;
          searches = reported-same;
          shown = show-same;
          picture = image-same;
          sampled = sheet-same;
          compared = comparison-same;
        };
        slip = λ buffer. ap (λ (r : Result Outcome ReadError). slip_of (verdict_of r)) (judged-same buffer);
        mapped = mapped-same;
        intensities = values_same;
      }

pub privacy : Privacy
privacy = answers
