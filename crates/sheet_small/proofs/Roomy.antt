-- A sheet depends on the row buffer only in whether the rows fit, as judging does; and where they fit the code is never 8: a
-- reading is refused with codes 1 to 6.
use Rattle.std.specs.Prelude.{Result, Ok, Err}
use mathlib.Core.Path.{◌≡◌, ap}
use mathlib.Core.Bool.{Bool, true, false, cond, ◌&&◌}
use mathlib.Core.List.{List}
use Prim.Native.Nat.{ℕ, ◌*◌, ◌≤◌}
use native.Mathlib.Omega.{arith}
use lib.Dec.{leb}
use lib.ListN.{length}
use borrow.Author.Tests.{le-leb}
use Rattle.dataset.specs.Reading.{Reading, too_large, refused_at, read, reading_of}
use Rattle.dataset.specs.Answer.{flat, answer_of, width}
use Rattle.dataset.specs.Tree.{rows_in, rows_of}
use Rattle.dataset.specs.Fault.{code_of}
use Rattle.dataset.specs.declared.Fault.{Fault}
use Rattle.dataset.specs.declared.Fault.TheVariants.{CutShort, NotAscending, UnlistedVr, OddLength, NotDue, TooDeep}
use Rattle.dataset.specs.declared.ReadError.TheVariants as reads
use Rattle.dataset.proofs.Buffer.{length-flat}
use Rattle.basics.proofs.Tests.{false-is-true}
use Rattle.node.specs.Nodes.{Node, nodes_of}
use Rattle.conformance.specs.declared.NotAccepted.{NotAccepted}
use Rattle.conformance.specs.declared.Finding.{Finding}
use Rattle.conformance.specs.declared.Finding.TheVariants as finding
use Rattle.conformance.specs.Judging.{finding_of, answer_for, judge_of, accepted_in}
use Rattle.judge_small.proofs.Room.{roomy-accept}
use Rattle.display.specs.Show.{is_frame_of}
use Rattle.sheet.specs.declared.SheetError.TheVariants as error
use Rattle.sheet.specs.Answer.{accepted_answer, answer_for as sheet_for, with_sheet, sheet_of, fields_of}

pub roomy-sheet : (s : List ℕ) (a b : ℕ) (buffer : List ℕ) → width * length s ≤ 8 * length buffer
    → sheet_of s a b buffer ≡ sheet_of s a b (flat (rows_of s))
unfolding sheet_of
roomy-sheet s a b buffer h =
    ap (λ (x : Result ℕ NotAccepted). with_sheet (nodes_of s) a b (sheet_for (nodes_of s) a b x)) (roomy-accept s buffer h)

-- ---- Never code 8

accepted-other : (ns : List Node) (a b n : ℕ) → (fields_of (accepted_answer ns a b n)).code ≡ 8 → ⊥
unfolding accepted_answer
accepted-other ns a b n = go (leb a b) (is_frame_of ns a && is_frame_of ns b)
  where
    go : (t u : Bool) → (fields_of (cond t (cond u (Ok n) (Err error.NoFrame)) (Err error.WrongOrder))).code ≡ 8 → ⊥
    go true true e = omega (arith, e)
    go true false e = omega (arith, e)
    go false u e = omega (arith, e)

fault-other : (fault : Fault) → code_of fault ≡ 8 → ⊥
fault-other CutShort e = omega (arith, e)
fault-other NotAscending e = omega (arith, e)
fault-other UnlistedVr e = omega (arith, e)
fault-other OddLength e = omega (arith, e)
fault-other NotDue e = omega (arith, e)
fault-other TooDeep e = omega (arith, e)

module _ (ns : List Node) (a b : ℕ) where
  by-finding : (n : ℕ) (f : Finding) → (fields_of (sheet_for ns a b (accepted_in (answer_for f (Ok n))))).code ≡ 8 → ⊥
  by-finding n finding.Accepted e = accepted-other ns a b n e
  by-finding n (finding.Broken rule frame) e = omega (arith, e)

  by-room : (f : Finding) (n : ℕ) (t : Bool) → t ≡ true
      → (fields_of (sheet_for ns a b (accepted_in (answer_for f (cond t (Ok n) (Err reads.NoRoom)))))).code ≡ 8 → ⊥
  by-room f n true h e = by-finding n f e
  by-room f n false h e = false-is-true h

  by-reading : (o : Reading) (f : Finding) → (fields_of (sheet_for ns a b (accepted_in (answer_for f (answer_of o (flat (rows_in o))))))).code ≡ 8 → ⊥
  by-reading too_large f e = omega (arith, e)
  by-reading (refused_at fault offset) f e = fault-other fault e
  by-reading (read rows) f e =
      by-room f (length rows) (leb (width * length rows) (length (flat rows)))
      (le-leb (width * length rows) (length (flat rows)) (omega (arith, length-flat rows))) e

pub never-eight : (s : List ℕ) (a b : ℕ) → (fields_of (sheet_of s a b (flat (rows_of s))).answer).code ≡ 8 → ⊥
unfolding sheet_of judge_of rows_of
never-eight s a b e = by-reading (nodes_of s) a b (reading_of s) (finding_of (nodes_of s)) e
