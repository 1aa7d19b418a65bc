-- The numbers of every answer of `sheet` fit 32 bits: they are the judge's, but where the object is accepted; then they are its row count,
-- or a code alone. A sheet has 256 counts, whatever the answer.
use Rattle.std.specs.Prelude.{Result, Ok, Err}
use mathlib.Core.Bool.{Bool, true, false, cond, ◌&&◌}
use mathlib.Core.List.{List}
use Prim.Native.Nat.{ℕ}
use native.Mathlib.Omega.{arith}
use lib.Dec.{leb}
use Rattle.basics.specs.Fields.{counted}
use Rattle.node.specs.Nodes.{Node, nodes_of}
use Rattle.conformance.specs.declared.NotAccepted.{NotAccepted}
use Rattle.conformance.specs.Judging.{accept_of}
use Rattle.display.specs.Show.{is_frame_of}
use Rattle.sheet.specs.declared.SheetError.TheVariants as error
use Rattle.sheet.specs.Answer.{accepted_answer, answer_for, sheet_of, fields_of}
use Rattle.sheet.proofs.Answers.{counts-many}
use Rattle.c_answers.specs.Internal.{Fits32}
use Rattle.c_answers.proofs.Fits.{alone-fits}
use Rattle.c_judge.proofs.Fits.{AcceptFits, accept-fits}
use Rattle.c_sheet.specs.Internal.{SheetFits32}

accepted-fits : (ns : List Node) (a b n : ℕ) → Fits32 (counted n) → Fits32 (fields_of (accepted_answer ns a b n))
unfolding accepted_answer
accepted-fits ns a b n h = go (leb a b) (is_frame_of ns a && is_frame_of ns b)
  where
    go : (t u : Bool) → Fits32 (fields_of (cond t (cond u (Ok n) (Err error.NoFrame)) (Err error.WrongOrder)))
    go true true = h
    go true false = alone-fits 10 (omega arith)
    go false u = alone-fits 19 (omega arith)

answer-fits : (ns : List Node) (a b : ℕ) (r : Result ℕ NotAccepted) → AcceptFits r → Fits32 (fields_of (answer_for ns a b r))
answer-fits ns a b (Ok n) h = accepted-fits ns a b n h
answer-fits ns a b (Err e) h = h

sampled-fits : (s : List ℕ) (a b : ℕ) (buffer : List ℕ) → Fits32 (fields_of (sheet_of s a b buffer).answer)
unfolding sheet_of
sampled-fits s a b buffer = answer-fits (nodes_of s) a b (accept_of s buffer) (accept-fits s buffer)

pub sheet-fits : (s : List ℕ) (a b : ℕ) (buffer : List ℕ) → SheetFits32 (sheet_of s a b buffer)
sheet-fits s a b buffer = record { answer = sampled-fits s a b buffer; counts = counts-many s a b buffer }
