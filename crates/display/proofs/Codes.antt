-- What a call that judges first says of the judge's answer: an accepted object with room for its rows is answered as accepted,
-- and a call whose code is 0 was answered so. It serves every call that keeps the judge's codes.
use Rattle.std.specs.Prelude.{Result, Ok, Err}
use mathlib.Core.Path.{◌≡◌, refl, sym, ap, ◌∙◌, subst}
use mathlib.Core.Bool.{Bool, true, false, cond}
use mathlib.Core.List.{List}
use Prim.Native.Nat.{ℕ, ◌*◌, ◌≤◌}
use native.Mathlib.Omega.{arith}
use lib.ListN.{length}
use lib.Dec.{leb}
use borrow.Author.Tests.{le-leb, leb-true}
use Rattle.value.specs.Number.{number_or0}
use Rattle.basics.proofs.Tests.{and_both}
use Rattle.dataset.specs.Reading.{Reading, too_large, refused_at, read, reading_of}
use Rattle.dataset.specs.declared.Row.{Row}
use Rattle.dataset.specs.Answer.{width, answer_of}
use Rattle.dataset.specs.Tree.{rows_in, rows_of}
use Rattle.dataset.specs.Fault.{code_of, refusal}
use Rattle.dataset.specs.declared.Fault.{Fault}
use Rattle.dataset.specs.declared.Fault.TheVariants.{CutShort, NotAscending, UnlistedVr, OddLength, NotDue, TooDeep}
use Rattle.dataset.specs.declared.ReadError.TheVariants as error
use Rattle.node.specs.Nodes.{nodes_of}
use Rattle.element.specs.Frames.{frames_of}
use Rattle.conformance.specs.declared.Finding.{Finding}
use Rattle.conformance.specs.declared.Finding.TheVariants as finding
use Rattle.conformance.specs.declared.Outcome.TheVariants as outcome
use Rattle.conformance.specs.declared.NotAccepted.{NotAccepted}
use Rattle.conformance.specs.declared.NotAccepted.TheVariants as not_accepted
use Rattle.conformance.specs.Judging.{finding_of, answer_for, judge_of, accepted_in, accept_of, refusal_fields}
use Rattle.display.specs.Show.{is_frame_of}
use Rattle.display.specs.Drawing.{IsAccepted, IsFrame}

room-answer : (rows : List Row) (buffer : List ℕ) → width * length rows ≤ length buffer
    → answer_of (read rows) buffer ≡ Ok (length rows)
room-answer rows buffer h = rw (le-leb (width * length rows) (length buffer) h)

-- The number that passes the test of code 10 is that of a frame.
pub was-frame : (s : List ℕ) (f : ℕ) → is_frame_of (nodes_of s) f ≡ true → IsFrame s f
was-frame s f e =
    let b = and_both (leb 1 f) (leb f (number_or0 (frames_of (nodes_of s)))) e in
    record { low = leb-true 1 f b.0; high = leb-true f (number_or0 (frames_of (nodes_of s))) b.1 }

-- A call's code by what judging answered: judging's own, but where the object is accepted.
pub record Keeps (of : Result ℕ NotAccepted → ℕ) : Type 0 where
  pub refused : (e : NotAccepted) → of (Err e) ≡ (refusal_fields e).code

-- No refusal has code 0.
fault-coded : (fault : Fault) → code_of fault ≡ 0 → ⊥
fault-coded CutShort e = omega (arith, e)
fault-coded NotAscending e = omega (arith, e)
fault-coded UnlistedVr e = omega (arith, e)
fault-coded OddLength e = omega (arith, e)
fault-coded NotDue e = omega (arith, e)
fault-coded TooDeep e = omega (arith, e)

module _ (s buffer : List ℕ) where
  rows_are : (a : IsAccepted s) → rows_of s ≡ a.rows
  unfolding rows_of
  rows_are a = ap rows_in a.reads

  pub judged-accepted : (a : IsAccepted s) → width * length (rows_of s) ≤ length buffer
      → judge_of s buffer ≡ Ok (outcome.Accepted (length (rows_of s)))
  unfolding judge_of
  judged-accepted a r =
      let h : width * length a.rows ≤ length buffer = subst (λ (l : List Row). width * length l ≤ length buffer) (rows_are a) r in
      rw (a.reads, room-answer a.rows buffer h, a.sound, rows_are a)

  record Back (of : Result ℕ NotAccepted → ℕ) (r : Reading) (found : Finding) : Type 0 where
    pub rows : List Row
    pub reads : r ≡ read rows
    pub sound : found ≡ finding.Accepted
    pub room : width * length (rows_in r) ≤ length buffer
    pub code : of (Ok (length rows)) ≡ 0

  back : (of : Result ℕ NotAccepted → ℕ) → Keeps of → (r : Reading) (found : Finding)
      → of (accepted_in (answer_for found (answer_of r buffer))) ≡ 0 → Back of r found
  back of k too_large found e = absurd (omega (arith, e, k.refused (not_accepted.Unread error.TooLarge)))
  back of k (refused_at fault offset) found e =
      absurd (fault-coded fault (sym (k.refused (not_accepted.Unread (error.Refused (refusal fault offset)))) ∙ e))
  back of k (read rows) found e = go found (leb (width * length rows) (length buffer)) refl e
    where
      go : (x : Finding) (t : Bool) → leb (width * length rows) (length buffer) ≡ t
          → of (accepted_in (answer_for x (cond t (Ok (length rows)) (Err error.NoRoom)))) ≡ 0 → Back of (read rows) x
      go finding.Accepted true p e =
          record { rows = rows; reads = refl; sound = refl; room = leb-true (width * length rows) (length buffer) p; code = e }
      go (finding.Broken rule frame) true p e =
          absurd (omega (arith, e, k.refused (not_accepted.Broken (length rows) rule frame)))
      go x false p e = absurd (omega (arith, e, k.refused (not_accepted.Unread error.NoRoom)))

  -- The object is accepted, its rows had room, and the code is that of an accepted object with so many rows.
  pub record Judged (of : Result ℕ NotAccepted → ℕ) : Type 0 where
    pub accepted : IsAccepted s
    pub room : width * length (rows_of s) ≤ length buffer
    pub code : of (Ok (length accepted.rows)) ≡ 0

  pub was-judged : (of : Result ℕ NotAccepted → ℕ) → Keeps of → of (accept_of s buffer) ≡ 0 → Judged of
  unfolding judge_of rows_of
  was-judged of k e =
      let j = back of k (reading_of s) (finding_of (nodes_of s)) e in
      record { accepted = record { rows = j.rows; reads = j.reads; sound = j.sound }; room = j.room; code = j.code }
