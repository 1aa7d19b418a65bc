-- Where judging accepted, the rows of the reading stand first in the row buffer.
use Rattle.std.specs.Prelude.{Result, Ok, Err}
use mathlib.Core.Path.{◌≡◌}
use Prim.Native.Nat.{ℕ}
use mathlib.Core.List.{List}
use Rattle.dataset.specs.Reading.{reading_of}
use Rattle.dataset.specs.Answer.{buffer_of}
use Rattle.dataset.specs.declared.ReadError.{ReadError}
use Rattle.node.specs.Nodes.{nodes_of}
use Rattle.conformance.specs.declared.Outcome.{Outcome}
use Rattle.conformance.specs.declared.Outcome.TheVariants as outcome
use Rattle.conformance.specs.Judging.{judge_of}
use Rattle.conformance.proofs.After.{after-judging}
use Rattle.searches.specs.declared.Counted.{Counted}
use Rattle.searches.specs.Searches.{searches_of}
use Rattle.searches.specs.Reported.{if_accepted, reported_of, counted_of}
use Rattle.searches.specs.Internal.{RowsLeft}

pub rows_left_lem : (s before buffer : List ℕ) (a : Result Outcome ReadError) → a ≡ judge_of s before → buffer ≡ buffer_of (reading_of s) before
    → RowsLeft s buffer a
rows_left_lem s before buffer (Ok (outcome.Accepted n)) e f = (after-judging s before buffer n e f).0
rows_left_lem s before buffer (Ok (outcome.Broken n rule frame)) e f = tt
rows_left_lem s before buffer (Err r) e f = tt

pub counted_is : (s buffer : List ℕ) (a : Result Outcome ReadError) (n : ℕ) → a ≡ judge_of s buffer → n ≡ if_accepted (searches_of (nodes_of s)) a
    → ◌≡◌ {A = Counted} (record { answer = a; searches = n }) (counted_of s buffer)
unfolding reported_of
counted_is s buffer a n e f = rw (f, e)
