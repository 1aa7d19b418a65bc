-- The numbers of every answer of `show` fit 32 bits: they are the judge's, but where the object is accepted; then they are its row count,
-- or a code alone.
use Rattle.std.specs.Prelude.{Result, Ok, Err}
use mathlib.Core.Bool.{Bool, true, false, cond}
use mathlib.Core.List.{List}
use Prim.Native.Nat.{ℕ}
use native.Mathlib.Omega.{arith}
use lib.Dec.{leb}
use lib.ListN.{length}
use Rattle.basics.specs.Fields.{counted}
use Rattle.node.specs.Nodes.{Node, nodes_of}
use Rattle.conformance.specs.declared.NotAccepted.{NotAccepted}
use Rattle.conformance.specs.Judging.{accept_of}
use Rattle.display.specs.declared.ShowError.TheVariants as error
use Rattle.display.specs.Show.{is_frame_of, image_size, picture_of, accepted_answer, answer_for, show_of, fields_of}
use Rattle.c_answers.specs.Internal.{Fits32}
use Rattle.c_answers.proofs.Fits.{alone-fits}
use Rattle.c_judge.proofs.Fits.{AcceptFits, accept-fits}

accepted-fits : (ns : List Node) (f : ℕ) (image : List ℕ) (n : ℕ) → Fits32 (counted n) → Fits32 (fields_of (accepted_answer ns f image n))
unfolding accepted_answer
accepted-fits ns f image n h = go (is_frame_of ns f) (leb (image_size ns) (length image))
  where
    go : (t u : Bool) → Fits32 (fields_of (cond t (cond u (Ok (record { rows = n; masked = (picture_of ns f).masked })) (Err error.NoImageRoom)) (Err error.NoFrame)))
    go true true = record { code = omega arith; offset = omega arith; rows = h.rows; rule = omega arith; frame = omega arith }
    go true false = alone-fits 11 (omega arith)
    go false u = alone-fits 10 (omega arith)

answer-fits : (ns : List Node) (f : ℕ) (image : List ℕ) (a : Result ℕ NotAccepted) → AcceptFits a → Fits32 (fields_of (answer_for ns f image a))
answer-fits ns f image (Ok n) h = accepted-fits ns f image n h
answer-fits ns f image (Err e) h = h

pub show-fits : (s : List ℕ) (f : ℕ) (buffer image : List ℕ) → Fits32 (fields_of (show_of s f buffer image))
unfolding show_of
show-fits s f buffer image = answer-fits (nodes_of s) f image (accept_of s buffer) (accept-fits s buffer)
