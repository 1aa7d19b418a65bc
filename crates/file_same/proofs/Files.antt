-- A call on a file goes by the head: where it is good, the call is the bare call on the rest of the file, with 18 put in after 8. So
-- what is proved of every data set is proved of the one inside.
use Rattle.std.specs.Prelude.{Result, Ok, Err}
use mathlib.Core.Path.{◌≡◌, refl, sym, ap, ◌∙◌, subst}
use Prim.Native.Nat.{ℕ, ◌*◌, ◌≤◌}
use native.Mathlib.Omega.{arith}
use borrow.Author.Tests.{le-leb}
use mathlib.Core.Bool.{Bool, true, false, cond, ◌||◌}
use mathlib.Core.List.{List}
use lib.ListN.{length, drop}
use Rattle.basics.specs.Fields.{Fields}
use Rattle.basics.proofs.Bytes.{drop-bytes}
use Rattle.dataset.specs.Reading.{Reading, too_large, refused_at, read, reading_of}
use Rattle.dataset.specs.declared.Row.{Row}
use Rattle.dataset.specs.Answer.{width, answer_of, buffer_of}
use Rattle.dataset.specs.Tree.{rows_in, rows_of}
use Rattle.dataset.specs.declared.ReadError.{ReadError}
use Rattle.node.specs.Nodes.{nodes_of}
use Rattle.conformance.specs.declared.Finding.{Finding}
use Rattle.conformance.specs.declared.Finding.TheVariants as finding
use Rattle.conformance.specs.declared.Outcome.{Outcome}
use Rattle.conformance.specs.declared.Outcome.TheVariants as outcome
use Rattle.conformance.proofs.After.{accepted-parts}
use Rattle.conformance.specs.Judging.{finding_of, answer_for, judge_of}
use Rattle.display.specs.Show.{show_of, image_of, fields_of}
use Rattle.display.specs.declared.Drawn.{Drawn}
use Rattle.display.specs.declared.ShowError.{ShowError}
use Rattle.display.specs.Drawing.{IsAccepted}
use Rattle.linear.specs.Demand3.{Promise}
use Rattle.linear.proofs.Demand3.{demand-3}
use Rattle.meta.specs.declared.FileHead.{FileHead}
use Rattle.meta.specs.declared.HeadError.{HeadError}
use Rattle.meta.specs.Meta.{meta_of, part}
use Rattle.meta.proofs.Starts.{starts-within}
use Rattle.file_read.specs.declared.FileError.{FileError}
use Rattle.file_read.specs.declared.FileError.TheVariants.{OtherClass, Refused}
use Rattle.file_read.specs.ReadFile.{start_by, start_of, start_fields, same_class, inside, in_class, read_part, read_by, read_file_of, read_fields}
use Rattle.file_read.specs.ReadFile.{rows_by, rows_left}
use Rattle.file_judge.specs.JudgeFile.{judge_part, judge_by, judge_file_of, judge_fields}
use Rattle.file_show.specs.ShowFile.{before_class, show_in, show_part, show_by, show_file_of, image_in, image_part, image_left_by, image_left, show_fields}
use Rattle.searches.specs.Reported.{if_accepted, reported_of}
use Rattle.file_judge.specs.Searches.{searches_in, searches_file_of}
use Rattle.file_same.specs.Files as files

-- Two constructors are never equal: where an equation says so, `cc` finds that 0 is 1.
clash : {A : Type 0} → ◌≡◌ {A = ℕ} 0 1 → A
clash z = absurd (omega arith)

-- ---- Answers with 18 put in

in-class : {A E : Type 0} (same : Bool) (a : Result A E) → (in_class same a ≡ Err OtherClass → ⊥) → in_class same a ≡ inside a
in-class true (Ok a) h = refl
in-class false (Ok a) h = absurd (h refl)
in-class same (Err e) h = refl

-- What a refusal is handed on as, by whether it comes before 18.
abbrev told : Bool → ShowError → Result Drawn (FileError ShowError)
told first e = cond first (Err (Refused e)) (Err OtherClass)

handed-on : (e : ShowError) (first : Bool) → (told first e ≡ Err OtherClass → ⊥) → told first e ≡ Err (Refused e)
handed-on e true h = refl
handed-on e false h = absurd (h refl)

show-in : (same : Bool) (a : Result Drawn ShowError) → (show_in same a ≡ Err OtherClass → ⊥) → show_in same a ≡ inside a
show-in true (Ok d) h = refl
show-in false (Ok d) h = absurd (h refl)
show-in same (Err e) h = handed-on e (before_class e || same) h

-- An answer of the bare call leaves the image as that call does.
image-inside : (a : Result Drawn ShowError) (after image : List ℕ) → image_in (inside a) after image ≡ after
image-inside (Ok d) after image = refl
image-inside (Err e) after image = refl

-- ---- A file with a good head

meta-at : (m : Result FileHead HeadError) {from : ℕ} → start_by m ≡ Ok from → (h : FileHead) × ((m ≡ Ok h) × (h.data_set ≡ from))
meta-at (Ok h) {from} e =
    let q : h.data_set ≡ from = cc in
    (h, (refl, q))
meta-at (Err r) e = clash cc

starts : (s : List ℕ) {from : ℕ} → start_of s ≡ Ok from → (h : FileHead) × ((meta_of s ≡ Ok h) × (h.data_set ≡ from))
unfolding start_of
starts s e = meta-at (meta_of s) e

-- The sum goes with an accepted data set, also where it is in a file.
searches-inside : (sum : ℕ) (a : Result Outcome ReadError) → searches_in sum (inside a) ≡ if_accepted sum a
searches-inside sum (Ok (outcome.Accepted n)) = refl
searches-inside sum (Ok (outcome.Broken n rule frame)) = refl
searches-inside sum (Err e) = refl

module _ (s : List ℕ) (h : FileHead) (e : meta_of s ≡ Ok h) where
  abbrev from : ℕ
  from = h.data_set

  abbrev class : List ℕ
  class = part s h.class.start h.class.stop

  read_is : (buffer : List ℕ)
      → read_file_of s buffer ≡ in_class (same_class class (nodes_of (drop from s))) (answer_of (reading_of (drop from s)) buffer)
  unfolding read_file_of read_part
  read_is buffer = ap (λ (m : Result FileHead HeadError). read_by s m buffer) e

  judge-is : (buffer : List ℕ)
      → judge_file_of s buffer ≡ in_class (same_class class (nodes_of (drop from s))) (judge_of (drop from s) buffer)
  unfolding judge_file_of judge_part
  judge-is buffer = ap (λ (m : Result FileHead HeadError). judge_by s m buffer) e

  show-is : (f : ℕ) (buffer image : List ℕ)
      → show_file_of s f buffer image ≡ show_in (same_class class (nodes_of (drop from s))) (show_of (drop from s) f buffer image)
  unfolding show_file_of show_part
  show-is f buffer image = ap (λ (m : Result FileHead HeadError). show_by s m f buffer image) e

  image-is : (f : ℕ) (buffer image : List ℕ)
      → image_left s f buffer image ≡ image_in (show_file_of s f buffer image) (image_of (drop from s) f buffer image) image
  unfolding image_left image_part show_file_of
  image-is f buffer image =
      ap (λ (m : Result FileHead HeadError). image_left_by s m f buffer image) e
      ∙ sym (ap (λ (m : Result FileHead HeadError). image_in (show_by s m f buffer image) (image_of (drop from s) f buffer image) image) e)

  rows_is : (buffer : List ℕ) → rows_left s buffer ≡ buffer_of (reading_of (drop from s)) buffer
  unfolding rows_left
  rows_is buffer = ap (λ (m : Result FileHead HeadError). rows_by s m buffer) e

  searches-is : (buffer : List ℕ) → judge_file_of s buffer ≡ inside (judge_of (drop from s) buffer)
      → searches_file_of s buffer ≡ reported_of (drop from s) buffer
  unfolding searches_file_of reported_of
  searches-is buffer k = rw (k, e) (searches-inside _ (judge_of (drop from s) buffer))

  judge-bare : (buffer : List ℕ) → (judge_file_of s buffer ≡ Err OtherClass → ⊥)
      → judge_file_of s buffer ≡ inside (judge_of (drop from s) buffer)
  judge-bare buffer h = judge-is buffer ∙ in-class _ (judge_of (drop from s) buffer) (λ x. h (judge-is buffer ∙ x))

  as-bare : files.AsBare s from
  as-bare =
      record {
        within = starts-within s e;
        rows = rows_is;
        read = λ buffer h. read_is buffer ∙ in-class _ (answer_of (reading_of (drop from s)) buffer) (λ x. h (read_is buffer ∙ x));
        judge = judge-bare;
        searches = λ buffer h. searches-is buffer (judge-bare buffer h);
        show = λ f buffer image h.
            let k : show_file_of s f buffer image ≡ inside (show_of (drop from s) f buffer image) = show-is f buffer image
            ∙ show-in _ (show_of (drop from s) f buffer image) (λ x. h (show-is f buffer image ∙ x)) in (
              k,
              image-is f buffer image ∙ ap (λ (x : Result Drawn (FileError ShowError)). image_in x (image_of (drop from s) f buffer image) image) k
                  ∙ image-inside (show_of (drop from s) f buffer image) _ _,
            );
        other = λ f buffer image h.
            image-is f buffer image ∙ ap (λ (x : Result Drawn (FileError ShowError)). image_in x (image_of (drop from s) f buffer image) image) h;
      }

-- ---- Demand 2

done-reads : (o : Reading) (buffer : List ℕ) (n : ℕ) → Ok n ≡ answer_of o buffer → (rows : List Row) × (o ≡ read rows)
done-reads too_large buffer n e = clash cc
done-reads (refused_at fault offset) buffer n e = clash cc
done-reads (read rows) buffer n e = (rows, refl)

broken-by : (f : Finding) (r : Result ℕ ReadError) (n rule frame : ℕ) → answer_for f r ≡ Ok (outcome.Broken n rule frame) → f ≡ finding.Broken rule frame
broken-by finding.Accepted (Ok m) n rule frame e = clash cc
broken-by (finding.Broken rule' frame') (Ok m) n rule frame e =
    let q : rule' ≡ rule = cc in
    let p : frame' ≡ frame = cc in
    cc
broken-by f (Err r) n rule frame e = clash cc

judge-accepted : (t buffer : List ℕ) (n : ℕ) → judge_of t buffer ≡ Ok (outcome.Accepted n) → IsAccepted t
unfolding judge_of
judge-accepted t buffer n e =
    let p = accepted-parts (finding_of (nodes_of t)) (answer_of (reading_of t) buffer) n (sym e) in
    let r = done-reads (reading_of t) buffer n p.0 in
    record { rows = r.0; reads = r.1; sound = p.1 }

judge-accepts : (t buffer : List ℕ) → IsAccepted t → width * length (rows_of t) ≤ length buffer
    → judge_of t buffer ≡ Ok (outcome.Accepted (length (rows_of t)))
unfolding judge_of rows_of
judge-accepts t buffer a h =
    let q : rows_in (reading_of t) ≡ a.rows = ap rows_in a.reads in
    let k : width * length a.rows ≤ length buffer = subst (λ (l : List Row). width * length l ≤ length buffer) q h in
    rw (a.reads, le-leb (width * length a.rows) (length buffer) k, a.sound)

judge-broken : (t buffer : List ℕ) (n rule frame : ℕ) → judge_of t buffer ≡ Ok (outcome.Broken n rule frame)
    → finding_of (nodes_of t) ≡ finding.Broken rule frame
unfolding judge_of
judge-broken t buffer n rule frame e = broken-by (finding_of (nodes_of t)) (answer_of (reading_of t) buffer) n rule frame e

-- What the file's call says of an outcome, the bare call says.
bare-outcome : (a : Result Outcome ReadError) (o : Outcome) → inside a ≡ Ok o → a ≡ Ok o
bare-outcome (Ok p) o e =
    let q : p ≡ o = cc in
    ap (λ (x : Outcome). Ok x) q
bare-outcome (Err r) o e = clash cc

-- An outcome is not 18.
judged-other : {x : Result Outcome (FileError ReadError)} {o : Outcome} → x ≡ Ok o → x ≡ Err OtherClass → ⊥
judged-other {x} {o} e f =
    let g : ◌≡◌ {A = Result Outcome (FileError ReadError)} (Ok o) (Err OtherClass) = sym e ∙ f in
    clash cc

of-2 : (s : List ℕ) (from : ℕ) → files.AsBare s from → files.Demand2Inside s from
of-2 s from w =
    record {
      accepted = λ buffer n e.
          judge-accepted (drop from s) buffer n (bare-outcome _ _ (sym (w.judge buffer (judged-other e)) ∙ e));
      accepts = λ buffer a h n.
          w.judge buffer n ∙ ap (λ (x : Result Outcome ReadError). inside x) (judge-accepts (drop from s) buffer a h);
      broken = λ buffer n rule frame e.
          judge-broken (drop from s) buffer n rule frame (bare-outcome _ _ (sym (w.judge buffer (judged-other e)) ∙ e));
    }

-- ---- Demand 3

-- What is drawn is not 18.
drawn-other : {x : Result Drawn (FileError ShowError)} → (show_fields x).code ≡ 0 → x ≡ Err OtherClass → ⊥
drawn-other {x} e f =
    let g : (show_fields x).code ≡ 18 = ap (λ (x : Result Drawn (FileError ShowError)). (show_fields x).code) f in
    absurd (omega (arith, e, g))

-- The numbers of a bare answer are the same in a file.
same-fields : (a : Result Drawn ShowError) → show_fields (inside a) ≡ fields_of a
same-fields (Ok d) = refl
same-fields (Err e) = refl

of-3 : (s : List ℕ) (from f : ℕ) → files.AsBare s from → Promise (drop from s) f → files.Demand3Inside s from f
of-3 s from f w p =
    let same : (buffer image : List ℕ) → (show_file_of s f buffer image ≡ Err OtherClass → ⊥)
    → (show_fields (show_file_of s f buffer image)).code ≡ (fields_of (show_of (drop from s) f buffer image)).code =
    λ buffer image n. ap (λ (x : Result Drawn (FileError ShowError)). (show_fields x).code) (w.show f buffer image n).0
    ∙ ap (λ (x : Fields). x.code) (same-fields (show_of (drop from s) f buffer image)) in
    let code : (buffer image : List ℕ) → (show_fields (show_file_of s f buffer image)).code ≡ 0
    → (fields_of (show_of (drop from s) f buffer image)).code ≡ 0 =
    λ buffer image e. sym (same buffer image (drawn-other e)) ∙ e in
    record {
      promise = p;
      drawn = λ buffer image a i r n. same buffer image n ∙ p.drawing.drawn buffer image a i r;
      nothing-else = λ buffer image e. p.drawing.nothing-else buffer image (code buffer image e);
      as-stepped = λ buffer image e.
          let h = p.drawing.as-stepped buffer image (code buffer image e) in
          record { p = h.p; is = h.is; cells = (w.show f buffer image (drawn-other e)).1 ∙ h.cells };
    }

-- ---- 15, 16 and 17

module _ (s : List ℕ) where
  read-refused : (m : Result FileHead HeadError) → ((start_fields (start_by m)).code ≡ 0 → ⊥) → (buffer : List ℕ)
      → read_fields (read_by s m buffer) ≡ start_fields (start_by m)
  read-refused (Ok h) n buffer = absurd (n refl)
  read-refused (Err e) n buffer = refl

  judge-refused : (m : Result FileHead HeadError) → ((start_fields (start_by m)).code ≡ 0 → ⊥) → (buffer : List ℕ)
      → judge_fields (judge_by s m buffer) ≡ start_fields (start_by m)
  judge-refused (Ok h) n buffer = absurd (n refl)
  judge-refused (Err e) n buffer = refl

  show-refused : (m : Result FileHead HeadError) → ((start_fields (start_by m)).code ≡ 0 → ⊥) → (f : ℕ) (buffer image : List ℕ)
      → show_fields (show_by s m f buffer image) ≡ start_fields (start_by m)
  show-refused (Ok h) n f buffer image = absurd (n refl)
  show-refused (Err e) n f buffer image = refl

  rows-untouched : (m : Result FileHead HeadError) → ((start_fields (start_by m)).code ≡ 0 → ⊥) → (buffer : List ℕ) → rows_by s m buffer ≡ buffer
  rows-untouched (Ok h) n buffer = absurd (n refl)
  rows-untouched (Err e) n buffer = refl

  image-untouched : (m : Result FileHead HeadError) → ((start_fields (start_by m)).code ≡ 0 → ⊥) → (f : ℕ) (buffer image : List ℕ)
      → image_left_by s m f buffer image ≡ image
  image-untouched (Ok h) n f buffer image = absurd (n refl)
  image-untouched (Err e) n f buffer image = refl

  refused : ((start_fields (start_of s)).code ≡ 0 → ⊥) → files.Refuses s
  unfolding start_of read_file_of judge_file_of show_file_of rows_left image_left
  refused h =
      record {
        read = read-refused (meta_of s) h;
        judge = judge-refused (meta_of s) h;
        show = show-refused (meta_of s) h;
        rows = rows-untouched (meta_of s) h;
        image = image-untouched (meta_of s) h;
      }

-- ---- Every file

bare : (s : List ℕ) (from : ℕ) → start_of s ≡ Ok from → files.AsBare s from
bare s from e =
    let g = starts s e in
    subst (λ (k : ℕ). files.AsBare s k) g.1.1 (as-bare s g.0 g.1.0)

pub all-files : files.AllFiles
all-files s =
    record {
      bare = bare s;
      demand-2 = λ from e. of-2 s from (bare s from e);
      demand-3 = λ from e b f. of-3 s from f (bare s from e) (demand-3 (drop from s) (drop-bytes from s b) f);
      refuses = refused s;
    }
