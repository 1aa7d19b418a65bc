-- What is promised of a sheet. Each picture of an accepted object has Rows × Columns cells, each a level (demand 3), so the
-- counts of all of them add up; the rest follows what `sheet` answers back to what it was asked.
use Rattle.std.specs.Prelude.{Option, Some, None, Result, Ok, Err}
use mathlib.Core.Path.{◌≡◌, refl, sym, ap, ◌∙◌, subst}
use mathlib.Core.Bool.{Bool, true, false, cond, ◌&&◌}
use mathlib.Core.List.{List, [], ◌∷◌}
use mathlib.Core.Logic.{◌⊎◌, inl, inr, ⊎_elim}
use Prim.Native.Nat.{ℕ, zero, suc, ◌+◌, ◌-◌, ◌*◌, ◌≤◌, ◌<◌, min, max}
use native.Mathlib.Nat.{mul-le-mul, min-eq_left, min-eq_right, max-eq_left, max-eq_right}
use native.Mathlib.Omega.{arith}
use lib.Dec.{leb}
use lib.ListN.{length, get_or, length-append}
use borrow.Author.Tests.{leb-true}
use Rattle.value.specs.Number.{number_or0}
use Rattle.basics.proofs.Tests.{and_both}
use Rattle.basics.specs.Bytes.{IsBytes}
use Rattle.dataset.specs.Answer.{width}
use Rattle.dataset.specs.Tree.{rows_of}
use Rattle.node.specs.Nodes.{Node, nodes_of, root}
use Rattle.element.specs.Frames.{frames_of}
use Rattle.steps.specs.Steps.{Picture, steps_of}
use Rattle.display.specs.Show.{is_frame_of, image_size, picture_in, picture_of}
use Rattle.display.specs.Drawing.{IsAccepted, Whole, AllLevels}
use Rattle.display.proofs.Small.{us-in-small}
use Rattle.display.proofs.Objects.{object}
use Rattle.display.proofs.Lacking.{all-levels-append, geometry-size, nothing-lacks}
use Rattle.display.proofs.Codes.{was-frame, judged-accepted, was-judged}
use Rattle.display.proofs.Drawing.{drawing}
use Rattle.lines.proofs.Lists.{up_to-length}
use Rattle.sheet.specs.declared.Numbers.{Numbers}
use Rattle.display.specs.declared.Scene.{Scene}
use Rattle.sheet.specs.declared.SheetError.{SheetError}
use Rattle.sheet.specs.declared.SheetError.TheVariants as error
use Rattle.sheet.specs.Sheet.{times, levels_of, natives_of, counts_of, lowest_of, highest_of, sum_of, sheet_by, frames_sheet, no_sheet}
use Rattle.sheet.specs.Answer.{accepted_answer, answer_for, sheet_for, sheet_of, fields_of}
use Rattle.sheet.specs.Internal.{Few, First, Last}
use Rattle.display.specs.Internal.{IsObject, IsScene}
use Rattle.sheet.specs.Sampling.{Range, total, Consistent, SheetBack, Sampling}
use Rattle.sheet.proofs.Counts.{total-within, counts-add, count-is, times-most, up_to-most, sum-weighted}
use Rattle.display.proofs.Scenes.{whole-size, cells-few}
use Rattle.sheet.proofs.Lowest.{first-is, last-is, either, times-same, times_more, low-most, low-none, low-found, high-most}
use Rattle.sheet.proofs.Lowest.{high-none, high-found}
use Rattle.sheet.proofs.Frames.{natives-few}
use Rattle.sheet.proofs.Answers.{frames-done}

-- ---- The pictures of n frames

pub record Cells (ns : List Node) (f : ℕ) : Type 0 where
  pub size : length (picture_of ns f).samples ≡ image_size ns
  pub levels : AllLevels (picture_of ns f).samples

pub cells : (ns : List Node) (f : ℕ) → Whole ns f → Cells ns f
unfolding picture_of
cells ns f w =
    let e : picture_in (steps_of ns f) ≡ w.p = ap picture_in w.is in
    record {
      size = whole-size ns f w;
      levels = subst (λ (p : Picture). AllLevels p.samples) (sym e) w.levels;
    }

pub record Run (ns : List Node) (a n : ℕ) : Type 0 where
  pub size : length (levels_of ns a n) ≡ n * image_size ns
  pub levels : AllLevels (levels_of ns a n)

pub run : (ns : List Node) (a n : ℕ) → ((f : ℕ) → a ≤ f → f < a + n → Whole ns f) → Run ns a n
unfolding levels_of
run ns a zero w = record { size = omega arith; levels = tt }
run ns a (suc n) w =
    let c = cells ns a (w a (omega arith) (omega arith)) in
    let r = run ns (a + 1) n (λ f l h. w f (omega arith) (omega arith)) in
    let e : suc n * image_size ns ≡ image_size ns + n * image_size ns = omega arith in
    record {
      size = length-append (picture_of ns a).samples (levels_of ns (a + 1) n) ∙ omega (arith, c.size, r.size, e);
      levels = all-levels-append (picture_of ns a).samples (levels_of ns (a + 1) n) c.levels r.levels;
    }

-- ---- A sheet of levels, of which there is one

low-drawn : (l : List ℕ) → AllLevels l → 1 ≤ length l → 1 ≤ times (lowest_of l) l
unfolding lowest_of
low-drawn [] a h = absurd (omega arith)
low-drawn (x ∷ l) a h = ⊎_elim first (λ k. lower k (low-found l)) (either x (lowest_of l))
  where
    first : x ≤ lowest_of l → 1 ≤ times (min x (lowest_of l)) (x ∷ l)
    first k = rw (min-eq_left k) (times-same x l)

    lower : lowest_of l ≤ x → (1 ≤ times (lowest_of l) l) ⊎ (lowest_of l ≡ 255) → 1 ≤ times (min x (lowest_of l)) (x ∷ l)
    lower k (inl f) = rw (min-eq_right k) (omega (arith, f, times_more (lowest_of l) x l))
    lower k (inr e) =
        let q : x ≡ lowest_of l = omega (arith, e, k, a.0) in
        subst (λ (y : ℕ). 1 ≤ times y (x ∷ l)) (q ∙ sym (min-eq_right k)) (times-same x l)

high-drawn : (l : List ℕ) → 1 ≤ length l → 1 ≤ times (highest_of l) l
unfolding highest_of
high-drawn [] h = absurd (omega arith)
high-drawn (x ∷ l) h = ⊎_elim first (λ k. higher k (high-found l)) (either (highest_of l) x)
  where
    first : highest_of l ≤ x → 1 ≤ times (max x (highest_of l)) (x ∷ l)
    first k = rw (max-eq_left k) (times-same x l)

    higher : x ≤ highest_of l → (1 ≤ times (highest_of l) l) ⊎ (highest_of l ≡ 0) → 1 ≤ times (max x (highest_of l)) (x ∷ l)
    higher k (inl f) = rw (max-eq_right k) (omega (arith, f, times_more (highest_of l) x l))
    higher k (inr e) =
        let q : x ≡ highest_of l = omega (arith, e, k) in
        subst (λ (y : ℕ). 1 ≤ times y (x ∷ l)) (q ∙ sym (max-eq_right k)) (times-same x l)

consistent : (l : List ℕ) (natives n size : ℕ) → AllLevels l → length l ≡ n * size → 1 ≤ length l → natives ≤ n
    → Consistent (sheet_by l natives) n size
consistent l natives n size a e some few =
    record {
      levels = up_to-length (λ y. times y l) 256;
      adds-up = counts-add l a ∙ e;
      sum_is = sym (sum-weighted l a)
          ∙ total-within (λ y. y * times y l) (λ y. y * get_or (counts_of l) y 0) 256 (λ y h. ap (λ (x : ℕ). y * x) (sym (count-is l y h)));
      lowest-drawn = rw (count-is l (lowest_of l) (omega (arith, low-most l))) (low-drawn l a some);
      none_below = λ y h. count-is l y (omega (arith, low-most l, h)) ∙ low-none l y h;
      highest-drawn = rw (count-is l (highest_of l) (omega (arith, high-most l a))) (high-drawn l some);
      none_above = λ y h k. count-is l y k ∙ high-none l y h;
      natives-few = few;
    }

-- ---- What the code works out

module _ (s : List ℕ) (n a b : ℕ) (h : IsObject s n) (low : 1 ≤ a) (order : a ≤ b) (high : b ≤ n) where
  object-run : Run (nodes_of s) a (b - a + 1)
  object-run =
      run (nodes_of s) a (b - a + 1) (λ f l k. nothing-lacks s h.bytes h.sound f (omega (arith, low, l))
      (subst (λ (x : Option ℕ). f ≤ number_or0 x) (sym h.frames) (omega (arith, order, high, k))))

  pub few-counts : (c : Scene) → IsScene (nodes_of s) c → (counts : List ℕ) → counts ≡ counts_of (levels_of (nodes_of s) a (b - a + 1))
      → Few counts
  few-counts c q counts e =
      record {
        size = ap length e ∙ up_to-length (λ y. times y (levels_of (nodes_of s) a (b - a + 1))) 256;
        below = λ y. rw e (omega (
          arith,
          up_to-most (λ x. times x (levels_of (nodes_of s) a (b - a + 1))) 256 281462092005375
              (λ x. omega (
                arith,
                times-most x (levels_of (nodes_of s) a (b - a + 1)),
                object-run.size,
                cells-few s n h (omega (arith, low, order, high)) c q (b - a + 1) (omega (arith, low, order, high)),
              )) y,
        ));
      }

  pub made : (counts : List ℕ) (natives lowest highest sum : ℕ) → counts ≡ counts_of (levels_of (nodes_of s) a (b - a + 1))
      → natives ≡ natives_of (nodes_of s) a (b - a + 1)
      → First counts lowest → Last counts highest → sum ≡ total (λ y. y * get_or counts y 0) 256
      → record { counts = counts; natives = natives; lowest = lowest; highest = highest; sum = sum } ≡ frames_sheet (nodes_of s) a b
  unfolding frames_sheet
  made counts natives lowest highest sum e ne f l t =
      let levels : List ℕ = levels_of (nodes_of s) a (b - a + 1) in
      let lo : lowest ≡ lowest_of levels = first-is levels object-run.levels counts e lowest f in
      let hi : highest ≡ highest_of levels = last-is levels object-run.levels counts e highest l in
      let u : sum ≡ sum_of levels =
      t ∙ (total-within (λ y. y * get_or counts y 0) (λ y. y * times y levels) 256
      (λ y k. ap (λ (x : ℕ). y * x) (ap (λ (x : List ℕ). get_or x y 0) e ∙ count-is levels y k))
      ∙ sum-weighted levels object-run.levels) in
      same counts natives lowest highest sum e ne lo hi u
    where
      same : (counts : List ℕ) (natives lowest highest sum : ℕ) → counts ≡ counts_of (levels_of (nodes_of s) a (b - a + 1))
          → natives ≡ natives_of (nodes_of s) a (b - a + 1)
          → lowest ≡ lowest_of (levels_of (nodes_of s) a (b - a + 1)) → highest ≡ highest_of (levels_of (nodes_of s) a (b - a + 1))
          → sum ≡ sum_of (levels_of (nodes_of s) a (b - a + 1))
          → record { counts = counts; natives = natives; lowest = lowest; highest = highest; sum = sum }
          ≡ sheet_by (levels_of (nodes_of s) a (b - a + 1)) (natives_of (nodes_of s) a (b - a + 1))
      same counts natives lowest highest sum p q r u v = rw (p, q, r, u, v)

-- ---- From the answer back to what was asked

module _ (s : List ℕ) (a b : ℕ) where
  frames-is : (n : Option ℕ) → 1 ≤ number_or0 n → n ≡ Some (number_or0 n)
  frames-is (Some k) h = refl
  frames-is None h = absurd (omega arith)

  answer-done : (n : ℕ) → Range s a b → accepted_answer (nodes_of s) a b n ≡ Ok n
  answer-done n r =
      frames-done (nodes_of s) a b n r.order (number_or0 (frames_of (nodes_of s)))
      (frames-is (frames_of (nodes_of s)) (omega (arith, r.first.low, r.first.high))) r.first.low r.last.high

  was-range : (n : ℕ) → (fields_of (accepted_answer (nodes_of s) a b n)).code ≡ 0 → Range s a b
  unfolding accepted_answer
  was-range n e = go (leb a b) (is_frame_of (nodes_of s) a && is_frame_of (nodes_of s) b) refl refl e
    where
      go : (t u : Bool) → leb a b ≡ t → (is_frame_of (nodes_of s) a && is_frame_of (nodes_of s) b) ≡ u
          → (fields_of (cond t (cond u (Ok n) (Err error.NoFrame)) (Err error.WrongOrder))).code ≡ 0 → Range s a b
      go true true p q e =
          let w = and_both (is_frame_of (nodes_of s) a) (is_frame_of (nodes_of s) b) q in
          record { order = leb-true a b p; first = was-frame s a w.0; last = was-frame s b w.1 }
      go true false p q e = absurd (omega (arith, e))
      go false u p q e = absurd (omega (arith, e))

  module _ (buffer : List ℕ) where
    answer-is : IsAccepted s → Range s a b → width * length (rows_of s) ≤ length buffer
        → (sheet_of s a b buffer).answer ≡ Ok (length (rows_of s))
    unfolding sheet_of
    answer-is acc r room = rw (judged-accepted s buffer acc room) (answer-done (length (rows_of s)) r)

    sheet-is : (sheet_of s a b buffer).sheet ≡ sheet_for (nodes_of s) a b (sheet_of s a b buffer).answer
    unfolding sheet_of
    sheet-is = refl

    was-done : (fields_of (sheet_of s a b buffer).answer).code ≡ 0
        → IsAccepted s × (Range s a b × (width * length (rows_of s) ≤ length buffer))
    unfolding sheet_of
    was-done e =
        let j = was-judged s buffer (λ x. (fields_of (answer_for (nodes_of s) a b x)).code)
        (record { refused = λ e. refl }) e in
        (j.accepted, (was-range (length j.accepted.rows) j.code, j.room))

  refusal-zeros : (r : Result ℕ SheetError) → 1 ≤ (fields_of r).code → sheet_for (nodes_of s) a b r ≡ no_sheet
  refusal-zeros (Ok n) h = absurd (omega arith)
  refusal-zeros (Err e) h = refl

-- ---- The claim

some-cell : (s : List ℕ) → IsBytes s → IsAccepted s → 1 ≤ image_size (nodes_of s)
some-cell s b acc =
    let o = object (nodes_of s) (λ tag k e. us-in-small s b tag k (root (nodes_of s)) e) acc.sound in
    let m : 1 * 1
    ≤ o.g.rows * o.g.columns = mul-le-mul {n₁ = 1} {m₁ = 1} {n₂ = o.g.rows} {m₂ = o.g.columns} o.rows-low o.columns-low in
    omega (arith, m, geometry-size (nodes_of s) o.g o.geometry)

module _ (s : List ℕ) (bytes : IsBytes s) (a b : ℕ) (acc : IsAccepted s) (r : Range s a b) where
  whole : (f : ℕ) → a ≤ f → f ≤ b → Whole (nodes_of s) f
  whole f l h = (drawing s bytes f).drawable acc (record { low = omega (arith, r.first.low, l); high = omega (arith, r.last.high, h) })

  all-cells : Run (nodes_of s) a (b - a + 1)
  all-cells = run (nodes_of s) a (b - a + 1) (λ f l h. whole f l (omega (arith, r.order, h)))

  some : 1 ≤ (b - a + 1) * image_size (nodes_of s)
  some =
      let m : 1 * 1 ≤ (b - a + 1) * image_size (nodes_of s) = mul-le-mul {n₁ = 1} {m₁ = 1} {n₂ = b - a + 1} {m₂ = image_size (nodes_of s)}
      (omega arith) (some-cell s bytes acc) in
      omega (arith, m)

  all-consistent : Consistent (frames_sheet (nodes_of s) a b) (b - a + 1) (image_size (nodes_of s))
  unfolding frames_sheet
  all-consistent =
      consistent (levels_of (nodes_of s) a (b - a + 1)) (natives_of (nodes_of s) a (b - a + 1)) (b - a + 1) (image_size (nodes_of s))
      all-cells.levels all-cells.size
      (omega (arith, all-cells.size, some)) (natives-few (nodes_of s) a (b - a + 1))

  handed : (buffer : List ℕ) → width * length (rows_of s) ≤ length buffer → SheetBack s a b buffer
  handed buffer room =
      let is : (sheet_of s a b buffer).answer ≡ Ok (length (rows_of s)) = answer-is s a b buffer acc r room in
      let sheet : (sheet_of s a b buffer).sheet ≡ frames_sheet (nodes_of s) a b = sheet-is s a b buffer ∙ ap (sheet_for (nodes_of s) a b) is in
      record {
        rows = ap (λ (x : Result ℕ SheetError). (fields_of x).rows) is;
        of-pictures = sheet;
        pictures = whole;
        consistent = subst (λ (x : Numbers). Consistent x (b - a + 1) (image_size (nodes_of s))) (sym sheet) all-consistent;
      }

pub sampling : Sampling
sampling s bytes a b buffer =
    record {
      done = λ acc r room. ap (λ (x : Result ℕ SheetError). (fields_of x).code) (answer-is s a b buffer acc r room);
      nothing-else = was-done s a b buffer;
      as-drawn = λ e.
          let w = was-done s a b buffer e in
          handed s bytes a b w.0 w.1.0 buffer w.1.1;
      refused = λ h. sheet-is s a b buffer ∙ refusal-zeros s a b (sheet_of s a b buffer).answer h;
    }
