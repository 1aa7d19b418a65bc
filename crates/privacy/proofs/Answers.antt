-- Data sets with the same rows but for places and lengths, and with nodes that are alike, are judged the same.
use mathlib.Core.Path.{◌≡◌}
use Prim.Native.Nat.{ℕ}
use mathlib.Core.List.{List}
use Rattle.dataset.specs.Reading.{reading_of}
use Rattle.dataset.specs.Answer.{answer_of}
use Rattle.node.specs.Nodes.{nodes_of}
use Rattle.conformance.specs.Judging.{judge_of}
use Rattle.privacy.specs.Alike.{Alike}
use Rattle.privacy.specs.Rows.{SameRows}
use Rattle.privacy.proofs.Judged.{finding-same}
use Rattle.privacy.proofs.Nodes.{count_same}

module _ (s t : List ℕ) (w : SameRows s t) (a : Alike (nodes_of s) (nodes_of t)) where
  reading-same : (buffer : List ℕ) → answer_of (reading_of s) buffer ≡ answer_of (reading_of t) buffer
  reading-same buffer = rw (w.reads, w.reads_other, count_same s t w)

  pub judge-same : (buffer : List ℕ) → judge_of s buffer ≡ judge_of t buffer
  unfolding judge_of
  judge-same buffer = rw (finding-same a, reading-same buffer)
