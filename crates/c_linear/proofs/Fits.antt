-- The numbers of every answer of `linear` fit 32 bits: they are the judge's, but where the object is accepted; then they are its row count,
-- or a code alone.
use Rattle.std.specs.Prelude.{Result, Ok, Err}
use mathlib.Core.Bool.{Bool, true, false, cond}
use mathlib.Core.List.{List}
use Prim.Native.Nat.{ℕ}
use native.Mathlib.Omega.{arith}
use lib.Dec.{leb}
use lib.ListN.{length}
use Rattle.basics.specs.Fields.{counted}
use Rattle.node.specs.Nodes.{Node, nodes_of}
use Rattle.conformance.specs.declared.NotAccepted.{NotAccepted}
use Rattle.conformance.specs.Judging.{accept_of}
use Rattle.display.specs.Show.{is_frame_of, image_size}
use Rattle.linear.specs.declared.LinearError.TheVariants as error
use Rattle.linear.specs.Mapping.{has_linear_item}
use Rattle.linear.specs.Answer.{accepted_answer, answer_for, linear_of, fields_of}
use Rattle.c_answers.specs.Internal.{Fits32}
use Rattle.c_answers.proofs.Fits.{alone-fits}
use Rattle.c_judge.proofs.Fits.{AcceptFits, accept-fits}

accepted-fits : (ns : List Node) (f : ℕ) (values : List ℕ) (n : ℕ) → Fits32 (counted n) → Fits32 (fields_of (accepted_answer ns f values n))
unfolding accepted_answer
accepted-fits ns f values n h = go (is_frame_of ns f) (has_linear_item ns f) (leb (image_size ns) (length values))
  where
    go : (t m u : Bool) → Fits32 (fields_of (cond t (cond m (cond u (Ok n) (Err error.NoValuesRoom)) (Err error.NoItem)) (Err error.NoFrame)))
    go true true true = h
    go true true false = alone-fits 11 (omega arith)
    go true false u = alone-fits 20 (omega arith)
    go false m u = alone-fits 10 (omega arith)

answer-fits : (ns : List Node) (f : ℕ) (values : List ℕ) (a : Result ℕ NotAccepted) → AcceptFits a → Fits32 (fields_of (answer_for ns f values a))
answer-fits ns f values (Ok n) h = accepted-fits ns f values n h
answer-fits ns f values (Err e) h = h

pub linear-fits : (s : List ℕ) (f : ℕ) (buffer values : List ℕ) → Fits32 (fields_of (linear_of s f buffer values))
unfolding linear_of
linear-fits s f buffer values = answer-fits (nodes_of s) f values (accept_of s buffer) (accept-fits s buffer)
